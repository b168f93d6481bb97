use Rattle.std.proofs.Common.{◌∙◌, ap, sym, arith}
use Rattle.rnv_tasks.specs.Outcome.{outcome}
use Rattle.rnv_tasks.specs.Tasks.{calls_of}
use Rattle.rnv_tasks.proofs.Calls.{makes_first, makes_none}
use Rattle.rnv_tasks.proofs.Treats.{next_calls, next_made, part_calls}
use Rattle.rnv_tasks.proofs.treating.treat.Goals as goal

pub returns-in_err-current-clause-calls : goal.returns-in_err-current-clause-calls
returns-in_err-current-clause-calls g c = λ t. makes_first _ _ _ _ (makes_none (calls_of (g.P.Spawner.answers c.args.spawner.now) c.args.commands.now c.args.bytes.now.bytes) (g.P.Spawner.calls c.args.spawner.now))

pub returns-in_err-output-clause-calls : goal.returns-in_err-output-clause-calls
returns-in_err-output-clause-calls g c = λ t.
    part_calls (g.P.Spawner.answers c.args.spawner.now) c.args.commands.now c.loop-command.command-index c.command-item.result c.loop-command.current.bytes _ _ (g.P.Spawner.calls c.loop-command.spawner) _
    c.loop-command-test.true c.command-item.is (c.loop-command.invariant.calls t) (c.step.ensures.calls t)

pub returns-in-Stopped-clause-calls : goal.returns-in-Stopped-clause-calls
returns-in-Stopped-clause-calls g c = λ t.
    part_calls (g.P.Spawner.answers c.args.spawner.now) c.args.commands.now c.loop-command.command-index c.command-item.result c.loop-command.current.bytes _ _ (g.P.Spawner.calls c.loop-command.spawner) _
    c.loop-command-test.true c.command-item.is (c.loop-command.invariant.calls t) (c.step.ensures.calls t)

pub loop-command-preserved : goal.loop-command-preserved
loop-command-preserved g c =
    let answers = g.P.Spawner.answers c.args.spawner.now in
    let now = g.P.Spawner.answers c.loop-command.spawner in
    record {
      made = λ t. next_made answers now c.args.commands.now c.loop-command.command-index c.command-item.result c.args.bytes.now.bytes c.loop-command.current.bytes c.in-Changed.output.bytes
          c.loop-command-test.true c.command-item.is (c.loop-command.invariant.same t) (ap outcome (sym c.in-Changed.is) ∙ c.in_ok-output.ensures.made t) (c.loop-command.invariant.made t);
      calls = λ t. next_calls answers now c.args.commands.now c.loop-command.command-index c.command-item.result c.loop-command.current.bytes c.in-Changed.output.bytes _ _ (g.P.Spawner.calls c.loop-command.spawner) _
          c.loop-command-test.true c.command-item.is (c.loop-command.invariant.same t) (ap outcome (sym c.in-Changed.is) ∙ c.in_ok-output.ensures.made t) (c.loop-command.invariant.calls t) (c.in_ok-output.ensures.called t);
      same = λ t. c.step.ensures.same t ∙ c.loop-command.invariant.same t;
      faults = grind (arith, c.in_ok-output.ensures.passed, c.loop-command.invariant.faults);
    }
