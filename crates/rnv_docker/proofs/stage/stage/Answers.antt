use Rattle.std.proofs.Common.{sym, ◌∙◌}
use Rattle.rnv_docker.proofs.Stages.{stage-from, stage-other, stage-empty}
use Rattle.rnv_docker.proofs.stage.stage.Goals as goal

pub returns-in_err-from-clause-stage : goal.returns-in_err-from-clause-stage
returns-in_err-from-clause-stage c =
    let none = c.in_err-from.ensures.first in
    rw c.from_residual.ensures (stage-empty c.args.line.now none.0 none.1)

pub returns-then-is_same-clause-stage : goal.returns-then-is_same-clause-stage
returns-then-is_same-clause-stage c =
    stage-from c.args.line.now c.in_ok-from.from.now c.in_ok-from.rest.now c.flagged.result c.in_ok-from.ensures.first (sym c.is_same.ensures ∙ c.if-is_same.true) c.flagged.ensures.stage

pub returns-else-is_same-clause-stage : goal.returns-else-is_same-clause-stage
returns-else-is_same-clause-stage c = stage-other c.args.line.now c.in_ok-from.from.now c.in_ok-from.rest.now c.in_ok-from.ensures.first (sym c.is_same.ensures ∙ c.if-is_same.false)
