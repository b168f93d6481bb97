use Rattle.std.proofs.Common.{Bool, ℕ, List, Some, cond, sym, ap, ◌∙◌}
use Rattle.std.specs.BTreeMap.{is_at}
use Rattle.std.specs.Map.{lookup}
use Rattle.std.specs.Ordering.{is_eq}
use Rattle.std.proofs.lemmas.Map.Text.{is_eq-slice_cmp}
use Rattle.rnv_repo.specs.declared.write.Write.{Write}
use Rattle.rnv_repo.specs.Live.{opened_after}
use Rattle.rnv_repo.proofs.Texts.{cmp}
use Rattle.rnv_repo.proofs.indexed.keep_opened.Goals as goal

pub returns-in_ok-insert : goal.returns-in_ok-insert
returns-in_ok-insert c branch =
    let before = lookup (is_at (cmp branch)) c.args.live.now.entries in
    c.in_ok-insert.ensures.updates.0 branch
    ∙ ap (λ (b : Bool). cond b (Some c.in-OpenRequest.number) before) (ap (λ (k : List ℕ). is_eq (cmp k branch)) c.in_ok-share.ensures ∙ is_eq-slice_cmp c.in-OpenRequest.branch branch)
    ∙ sym (ap (λ (w : Write). opened_after w branch before) c.in-OpenRequest.is)
