use Rattle.std.proofs.Common.{◌≡◌, length}
use Rattle.rnv_docker.specs.Lines.{goes_on}
use Rattle.rnv_docker.proofs.line.goes_on.Given as goal

abbrev pub invariant-loop-x : goal.invariant-loop-x
invariant-loop-x l = goes_on l.rest ≡ goes_on l.line

abbrev pub decreases-loop-x : goal.decreases-loop-x
decreases-loop-x l = length l.rest
