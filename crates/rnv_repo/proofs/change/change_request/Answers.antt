use Rattle.std.proofs.Common.{◌∙◌}
use Rattle.rnv_repo.proofs.Numbers.{change_makes, nothing_changes}
use Rattle.rnv_repo.proofs.change.change_request.Goals as goal

pub returns-then-not-is_at_number : goal.returns-then-not-is_at_number
returns-then-not-is_at_number g c =
    nothing_changes c.args.number (g.C.Change.makes c.args.change.now) c.args.requests c.into_inner-requests.result.items c.as_slice.result.now c.as_slice-2.result.now c.new.result
    c.place_of_number-at.result c.into_inner-requests.ensures c.as_slice.ensures.value c.as_slice-2.ensures.value c.requires c.place_of_number-at.ensures.count
    (λ d lt. c.is_at_number.ensures.same d lt ∙ c.if-not-is_at_number.true) c.new.ensures

pub returns : goal.returns
returns g c =
    let within = c.is_at_number.ensures.within c.if-not-is_at_number.false in
    change_makes c.args.number (g.C.Change.makes c.args.change.now) c.args.requests c.into_inner-requests.result.items c.as_slice.result.now c.as_slice-2.result.now c.new-2.result
    c.place_of_number-at.result c.index_mut.result.now c.change.new.request c.into_inner-requests.ensures c.as_slice.ensures.value c.as_slice-2.ensures.value c.requires
    c.place_of_number-at.ensures.count within (λ d. c.is_at_number.ensures.same d within ∙ c.if-not-is_at_number.false) c.index_mut.ensures.value c.in_ok-change.ensures c.new-2.ensures
