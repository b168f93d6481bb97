use Rattle.std.proofs.Common.{◌≡◌, ℕ, ◌-◌, List, length, drop, IsCharBoundary, sym, ap, subst, ◌∙◌}
use Rattle.rnv_docker.specs.Lines.{is_space}
use Rattle.rnv_docker.specs.Read.{skip}
use Rattle.rnv_docker.proofs.Words.{gap-boundary, skip-cut}
use Rattle.rnv_docker.proofs.word.without_gap.Goals as goal

pub split_at-requires : goal.split_at-requires
split_at-requires c =
    let left = c.after_gap-rest.ensures.value ∙ ap (skip is_space) c.as_bytes.ensures.value in
    subst (λ (r : List ℕ). IsCharBoundary c.args.text.now (length c.args.text.now - length r)) (sym left) (gap-boundary c.args.text.now c.utf8.text)

pub returns-clause-value : goal.returns-clause-value
returns-clause-value c =
    let left = c.after_gap-rest.ensures.value ∙ ap (skip is_space) c.as_bytes.ensures.value in
    c.split_at.ensures.back ∙ (ap (λ (r : List ℕ). drop (length c.args.text.now - length r) c.args.text.now) left ∙ skip-cut is_space c.args.text.now)
