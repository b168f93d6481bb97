use Rattle.std.proofs.Common.{◌≡◌, length}
use Rattle.rnv_docker.specs.Lines.{has_here}
use Rattle.rnv_docker.proofs.line.has_here.Given as goal

abbrev pub invariant-loop-rest : goal.invariant-loop-rest
invariant-loop-rest l = has_here l.rest ≡ has_here l.line

abbrev pub decreases-loop-rest : goal.decreases-loop-rest
decreases-loop-rest l = length l.rest
