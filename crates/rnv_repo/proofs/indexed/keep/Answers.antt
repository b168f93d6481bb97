use Rattle.std.proofs.Common.{Bool, ℕ, List, Option, None, cond, sym, ap, ◌∙◌}
use Rattle.std.specs.BTreeMap.{is_at}
use Rattle.std.specs.Map.{lookup}
use Rattle.std.proofs.lemmas.Map.Text.{is_eq-slice_cmp}
use Rattle.rnv_repo.specs.Live.{live_after}
use Rattle.rnv_repo.proofs.Texts.{cmp}
use Rattle.rnv_repo.proofs.indexed.keep.Goals as goal

pub returns-in-Some : goal.returns-in-Some
returns-in-Some c branch =
    let before = lookup (is_at (cmp branch)) c.args.live.now.entries in
    c.remove.ensures.updates.0 branch ∙ ap (λ (b : Bool). cond b None before) (is_eq-slice_cmp c.in-Some.branch branch)
    ∙ sym (ap (λ (o : Option (List ℕ)). live_after c.args.write.now o branch before) c.in-Some.is)
