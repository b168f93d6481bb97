use Rattle.std.proofs.Common.{◌∙◌}
use Rattle.rnv_repo.specs.Store.{name_of}
use Rattle.rnv_repo.proofs.Places.{removal_leaves, nothing_leaves}
use Rattle.rnv_repo.proofs.change.drop_branch.Goals as goal

pub returns-then-not-is_at : goal.returns-then-not-is_at
returns-then-not-is_at c =
    nothing_leaves name_of c.args.name.now c.args.branches c.into_inner-branches.result.items c.as_slice.result.now c.as_slice-2.result.now c.new.result c.place_of-at.result
    c.into_inner-branches.ensures c.as_slice.ensures.value c.as_slice-2.ensures.value c.requires c.place_of-at.ensures.count (λ d lt. c.is_at.ensures.same d lt ∙ c.if-not-is_at.true) c.new.ensures

pub returns : goal.returns
returns c =
    let within = c.is_at.ensures.within c.if-not-is_at.false in
    removal_leaves name_of c.args.name.now c.args.branches c.into_inner-branches.result.items c.as_slice.result.now c.as_slice-2.result.now c.new-2.result c.place_of-at.result
    c.into_inner-branches.ensures c.as_slice.ensures.value c.as_slice-2.ensures.value c.requires c.place_of-at.ensures.count within
    (λ d. c.is_at.ensures.same d within ∙ c.if-not-is_at.false) (c.new-2.ensures ∙ c.remove.ensures.items)
