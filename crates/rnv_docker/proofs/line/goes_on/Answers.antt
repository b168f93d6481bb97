use Rattle.std.proofs.Common.{ap, sym, ◌∙◌}
use Rattle.rnv_docker.specs.Lines.{goes_on}
use Rattle.rnv_docker.proofs.Lines.{goes_on-last, goes_on-space}
use Rattle.rnv_docker.proofs.line.goes_on.Goals as goal

pub returns-then-not-is_space : goal.returns-then-not-is_space
returns-then-not-is_space c =
    sym (goes_on-last c.in-Some.front.now c.in-Some.x (sym c.is_space.ensures ∙ c.if-not-is_space.true)) ∙ (ap goes_on (sym c.in-Some.ensures.parts) ∙ c.loop-x.invariant)

pub loop-x-preserved : goal.loop-x-preserved
loop-x-preserved c =
    sym (goes_on-space c.in-Some.front.now c.in-Some.x (sym c.is_space.ensures ∙ c.if-not-is_space.false)) ∙ (ap goes_on (sym c.in-Some.ensures.parts) ∙ c.loop-x.invariant)
