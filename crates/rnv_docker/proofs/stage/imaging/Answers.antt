use Rattle.std.proofs.Common.{sym, ◌∙◌}
use Rattle.rnv_docker.proofs.Stages.{imaging-some}
use Rattle.rnv_docker.proofs.stage.imaging.Goals as goal

pub returns-then-is_naming-clause-stage : goal.returns-then-is_naming-clause-stage
returns-then-is_naming-clause-stage c = λ front.
    imaging-some front c.args.text.now c.in_ok-image.image.now c.in_ok-image.rest.now c.in_ok-image.ensures.first (sym c.is_naming.ensures ∙ c.if-is_naming.true)
