use Rattle.std.proofs.Common.{◌≡◌, length, reverse}
use Rattle.rnv_plan.specs.Branch.{skip, is_edge}
use Rattle.rnv_plan.proofs.branch.trim_end.Given as goal

abbrev pub invariant-loop-rest : goal.invariant-loop-rest
invariant-loop-rest l = skip is_edge (reverse l.rest) ≡ skip is_edge (reverse l.bytes)

abbrev pub decreases-loop-rest : goal.decreases-loop-rest
decreases-loop-rest l = length l.rest
