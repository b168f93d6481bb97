use Rattle.std.specs.List.{AllZip}
use Rattle.rnv_plan.specs.Listings.{IsFileHere}
use Rattle.rnv_plan.proofs.picking.pick_files.Given as goal

abbrev pub invariant-loop-file : goal.invariant-loop-file
invariant-loop-file l = AllZip (IsFileHere l.moment l.indexes) l.yielded l.picked
