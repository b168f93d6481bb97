use Rattle.std.proofs.Common.{◌≡◌, drop, flat_map, take}
use Rattle.rnv_base.specs.Files.{paths_of}
use Rattle.rnv_tasks.specs.Tasks.{file_calls, files_with, problems_in}
use Rattle.rnv_tasks.specs.Told.{Makes}
use Rattle.rnv_tasks.proofs.tasking.run_all.Given as goal

abbrev pub invariant-loop-file : goal.invariant-loop-file
invariant-loop-file g l =
    let answers = g.P.Spawner.answers l.initial.spawner in
    record {
      files : g.P.Spawner.tells → l.done ≡ files_with answers l.commands (take l.file-index l.files);
      problems : g.P.Spawner.tells → l.problems ≡ problems_in answers l.commands (take l.file-index l.files);
      calls : g.P.Spawner.tells
          → Makes (flat_map (file_calls answers l.commands) l.files) (flat_map (file_calls answers l.commands) (drop l.file-index l.files)) (g.P.Spawner.calls l.initial.spawner) (g.P.Spawner.calls l.spawner);
      same : g.P.Spawner.tells → g.P.Spawner.answers l.spawner ≡ answers;
      paths : paths_of l.done ≡ paths_of (take l.file-index l.files);
      faults : g.P.Spawner.faults l.spawner ≡ g.P.Spawner.faults l.initial.spawner;
    }
