use Rattle.std.proofs.Common.{sym, ap, ◌∙◌}
use Rattle.rnv_repo.specs.declared.repo.Repo.{Repo}
use Rattle.rnv_repo.specs.Live.{live_after, number_on}
use Rattle.rnv_repo.proofs.Live.{kept_live}
use Rattle.rnv_repo.proofs.indexed.applied.Goals as goal

pub invariant_of-result : goal.invariant_of-result
invariant_of-result c branch =
    let w = c.args.write.now in
    let closed = c.in_ok-closed.closed in
    c.in_ok-keep.ensures branch ∙ ap (live_after w closed branch) (c.requires.live branch)
    ∙ sym (kept_live w c.args.repo closed branch c.requires.sound.requests c.in_ok-repo.ensures.0 c.in_ok-closed.ensures)
    ∙ sym (ap (λ (r : Repo). number_on branch r.requests) c.in_ok-repo.ensures.1)
