use Rattle.std.proofs.Common.{◌≡◌, length}
use Rattle.rnv_options.specs.Table.{named_in, opt_named}
use Rattle.rnv_options.proofs.opt.Opt.named.Given as goal

abbrev pub invariant-loop-left : goal.invariant-loop-left
invariant-loop-left l = named_in l.name l.left ≡ opt_named l.fn.name

abbrev pub decreases-loop-left : goal.decreases-loop-left
decreases-loop-left l = length l.left
