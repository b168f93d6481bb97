use Rattle.std.proofs.Common.{◌≡◌, ◌++◌, length}
use Rattle.rnv_plan.specs.Branch.{single_dashes}
use Rattle.rnv_plan.proofs.branch.single_dashes.Given as goal

abbrev pub invariant-loop-rest : goal.invariant-loop-rest
invariant-loop-rest l = single_dashes l.bytes ≡ l.dashed.items ++ single_dashes l.rest

abbrev pub decreases-loop-rest : goal.decreases-loop-rest
decreases-loop-rest l = length l.rest
