use Rattle.std.proofs.Common.{sym, ◌∙◌}
use Rattle.rnv_docker.proofs.Stages.{flagged-plain}
use Rattle.rnv_docker.proofs.stage.flagged.Goals as goal

pub returns-else-is_platform-clause-stage : goal.returns-else-is_platform-clause-stage
returns-else-is_platform-clause-stage c = λ front.
    flagged-plain front c.args.text.now c.in_ok-first.first.now c.in_ok-first.rest.now c.imaging-else-is_platform.result c.in_ok-first.ensures.first (sym c.is_platform.ensures ∙ c.if-is_platform.false) (c.imaging-else-is_platform.ensures.stage front)
