use Rattle.std.proofs.Common.{sym, ap, ◌∙◌, subst, ◌≡◌, is_some, List, ℕ}
use Rattle.rnv_pattern.specs.Meaning.{expression_in}
use Rattle.rnv_pattern.proofs.ByText.{slashed-test}
use Rattle.rnv_pattern.proofs.slashes.is_expression.Goals as goal

pub returns : goal.returns
returns c =
    let rest = c.negation.result.1.now in
    c.is_some.ensures ∙ slashed-test c.between_slashes.result (λ p. p.0.now) (λ p. p.1) rest c.between_slashes.ensures ∙ ap (λ (t : List ℕ). is_some (expression_in t)) c.negation.ensures.rest
