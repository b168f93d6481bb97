use Rattle.std.proofs.Common.{◌≡◌, ℕ, ◌-◌, List, length, IsCharBoundary, sym, ap, subst, ◌∙◌}
use Rattle.rnv_docker.specs.Lines.{is_space}
use Rattle.rnv_docker.specs.Read.{skip, is_ink}
use Rattle.rnv_docker.proofs.Words.{word-boundary, no-word, first-given, empty-is, not-empty}
use Rattle.rnv_docker.proofs.word.word.Goals as goal

pub returns-then-is_empty-clause-first : goal.returns-then-is_empty-clause-first
returns-then-is_empty-clause-first c =
    no-word c.args.text.now (sym c.without_gap-text.ensures.value ∙ empty-is c.without_gap-text.result.now (sym c.is_empty.ensures ∙ c.if-is_empty.true))

pub split_at-requires : goal.split_at-requires
split_at-requires c =
    let left = c.after_word-rest.ensures.value ∙ ap (skip is_ink) c.as_bytes.ensures.value in
    subst (λ (r : List ℕ). IsCharBoundary c.without_gap-text.result.now (length c.without_gap-text.result.now - length r)) (sym left) (word-boundary c.without_gap-text.result.now)

pub returns-clause-first : goal.returns-clause-first
returns-clause-first c =
    first-given c.args.text.now c.without_gap-text.result.now c.after_word-rest.result.now c.split_at.result.0.now c.split_at.result.1.now c.without_gap-text.ensures.value
    (not-empty c.without_gap-text.result.now (sym c.is_empty.ensures ∙ c.if-is_empty.false))
    (c.after_word-rest.ensures.value ∙ ap (skip is_ink) c.as_bytes.ensures.value)
    c.split_at.ensures.front
    c.split_at.ensures.back
