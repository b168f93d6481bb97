use Rattle.std.proofs.Common.{◌∙◌}
use Rattle.rnv_repo.specs.Store.{name_of}
use Rattle.rnv_repo.proofs.Named.{set_puts, insert_puts}
use Rattle.rnv_repo.proofs.change.put_branch.Goals as goal

pub returns-then-is_at : goal.returns-then-is_at
returns-then-is_at c =
    let within = c.is_at.ensures.within c.if-is_at.true in
    set_puts name_of c.args.branch.now c.in_ok-copy.copy c.args.branches c.into_inner-branches.result.items c.as_slice.result.now c.as_slice-2.result.now c.new.result c.place_of-at.result
    c.into_inner-branches.ensures c.as_slice.ensures.value c.as_slice-2.ensures.value c.place_of-at.ensures.count within
    (c.is_at.ensures.same c.args.branch.now within ∙ c.if-is_at.true) c.in_ok-copy.ensures c.new.ensures

pub returns : goal.returns
returns c =
    insert_puts name_of c.args.branch.now c.in_ok-copy.copy c.args.branches c.into_inner-branches.result.items c.as_slice.result.now c.as_slice-2.result.now c.new-2.result c.place_of-at.result
    c.into_inner-branches.ensures c.as_slice.ensures.value c.as_slice-2.ensures.value c.place_of-at.ensures.count
    (λ lt. c.is_at.ensures.same c.args.branch.now lt ∙ c.if-is_at.false) c.in_ok-copy.ensures (c.new-2.ensures ∙ c.in_ok-insert.ensures.items)
