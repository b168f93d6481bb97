use Rattle.std.proofs.Common.{length}
use Rattle.rnv_steps.specs.Told.{HaveBranches}
use Rattle.rnv_steps.proofs.tests.are_distinct.Given as goal

abbrev pub invariant-loop-rest : goal.invariant-loop-rest
invariant-loop-rest l = HaveBranches l.rest → HaveBranches l.items

abbrev pub decreases-loop-rest : goal.decreases-loop-rest
decreases-loop-rest l = length l.rest
