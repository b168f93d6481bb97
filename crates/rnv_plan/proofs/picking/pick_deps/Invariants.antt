use Rattle.std.specs.List.{AllZip}
use Rattle.rnv_plan.specs.Listings.{IsPickedHere}
use Rattle.rnv_plan.proofs.picking.pick_deps.Given as goal

abbrev pub invariant-loop-dep : goal.invariant-loop-dep
invariant-loop-dep l = AllZip (IsPickedHere l.moment l.indexes) l.yielded l.picked
