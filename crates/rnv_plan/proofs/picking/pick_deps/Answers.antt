use Rattle.std.proofs.Common.{Option, List, sym, subst}
use Rattle.std.specs.Option.{option_copied}
use Rattle.rnv_release.specs.declared.release.Release.{Release}
use Rattle.rnv_pick.specs.declared.listing.Listing.{Listing}
use Rattle.rnv_pick.specs.Ranking.{IsListing}
use Rattle.rnv_plan.specs.Listings.{listing_for}
use Rattle.rnv_plan.proofs.Picks.{dep_picked}
use Rattle.rnv_plan.proofs.picking.pick_deps.Goals as goal

pub updates-requires : goal.updates-requires
updates-requires c =
    let d = c.in-Some.dep in
    let some = c.requires d.source d.«package» in
    (some.0, subst (λ (l : Option Listing). IsListing d.source some.0 l) (sym c.listing-listing.ensures) some.1)

pub loop-dep-preserved : goal.loop-dep-preserved
loop-dep-preserved c =
    let d = c.in-Some.dep in
    let picked = λ (releases : Option (List Release)) (lists : IsListing d.source releases (listing_for c.args.indexes.now d.source d.«package»)).
    c.in_ok-one.ensures releases (subst (λ (l : Option Listing). IsListing d.source releases l) (sym c.listing-listing.ensures) lists) in
    rw c.in_ok-push.ensures.ok (dep_picked c.args.moment c.args.indexes.now c.loop-dep.yielded c.loop-dep.picked d c.in_ok-one.one c.loop-dep.invariant picked)
