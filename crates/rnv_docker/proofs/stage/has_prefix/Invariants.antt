use Rattle.std.proofs.Common.{◌≡◌, length}
use Rattle.rnv_docker.specs.Stages.{has_prefix}
use Rattle.rnv_docker.proofs.stage.has_prefix.Given as goal

abbrev pub invariant-loop-wanted : goal.invariant-loop-wanted
invariant-loop-wanted l = has_prefix l.wanted l.rest ≡ has_prefix l.prefix l.bytes

abbrev pub decreases-loop-wanted : goal.decreases-loop-wanted
decreases-loop-wanted l = length l.wanted
