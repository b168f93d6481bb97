use Rattle.std.proofs.Common.{rules}
use Rattle.rnv_tasks.proofs.Treats.{step_allowed}
use Rattle.rnv_tasks.proofs.treating.step.Goals as goal

pub returns-in_ok-ended-in-Ok-clause-made : goal.returns-in_ok-ended-in-Ok-clause-made
returns-in_ok-ended-in-Ok-clause-made g c = λ t.
    step_allowed (g.P.Spawner.answers c.args.spawner.now) c.args.command.now c.args.bytes.now.bytes c.as_str.result.now c.in-Ok.end _ c.if-not-command.false (c.in-Ok.ensures.end t) c.as_str.ensures c.in_ok-ended-in-Ok.ensures
