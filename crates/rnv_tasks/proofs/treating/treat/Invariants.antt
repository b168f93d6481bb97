use Rattle.std.proofs.Common.{◌≡◌, drop}
use Rattle.rnv_tasks.specs.Tasks.{calls_of, made}
use Rattle.rnv_tasks.specs.Told.{Makes}
use Rattle.rnv_tasks.proofs.treating.treat.Given as goal

abbrev pub invariant-loop-command : goal.invariant-loop-command
invariant-loop-command g l =
    let answers = g.P.Spawner.answers l.initial.spawner in
    record {
      made : g.P.Spawner.tells → made answers l.commands l.bytes.bytes ≡ made answers (drop l.command-index l.commands) l.current.bytes;
      calls : g.P.Spawner.tells
          → Makes (calls_of answers l.commands l.bytes.bytes) (calls_of answers (drop l.command-index l.commands) l.current.bytes) (g.P.Spawner.calls l.initial.spawner) (g.P.Spawner.calls l.spawner);
      same : g.P.Spawner.tells → g.P.Spawner.answers l.spawner ≡ answers;
      faults : g.P.Spawner.faults l.spawner ≡ g.P.Spawner.faults l.initial.spawner;
    }
