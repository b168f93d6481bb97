use Rattle.std.proofs.Common.{◌≡◌, length}
use Rattle.rnv_options.specs.Matchers.{match_in, match_named}
use Rattle.rnv_options.proofs.matcher.MatchOn.named.Given as goal

abbrev pub invariant-loop-left : goal.invariant-loop-left
invariant-loop-left l = match_in l.name l.left ≡ match_named l.fn.name

abbrev pub decreases-loop-left : goal.decreases-loop-left
decreases-loop-left l = length l.left
