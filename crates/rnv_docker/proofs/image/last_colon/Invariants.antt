use Rattle.std.proofs.Common.{length}
use Rattle.rnv_docker.proofs.Images.{IsLeft}
use Rattle.rnv_docker.proofs.image.last_colon.Given as goal

abbrev pub invariant-loop-x : goal.invariant-loop-x
invariant-loop-x l = IsLeft l.bytes l.rest

abbrev pub decreases-loop-x : goal.decreases-loop-x
decreases-loop-x l = length l.rest
