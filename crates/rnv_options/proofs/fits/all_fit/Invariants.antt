use Rattle.std.proofs.Common.{◌≡◌, length}
use Rattle.std.specs.List.{list_all}
use Rattle.rnv_options.specs.Fits.{fits}
use Rattle.rnv_options.proofs.fits.all_fit.Given as goal

abbrev pub invariant-loop-left : goal.invariant-loop-left
invariant-loop-left l = list_all (fits l.of) l.left ≡ list_all (fits l.fn.of) l.fn.texts

abbrev pub decreases-loop-left : goal.decreases-loop-left
decreases-loop-left l = length l.left
