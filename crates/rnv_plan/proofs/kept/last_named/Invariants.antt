use Rattle.std.proofs.Common.{◌≡◌, ◌++◌, length}
use Rattle.rnv_plan.specs.Named.{last_named}
use Rattle.rnv_plan.proofs.kept.last_named.Given as goal

abbrev pub invariant-loop-rest : goal.invariant-loop-rest
invariant-loop-rest l = last_named l.updates ≡ l.all ++ last_named l.rest

abbrev pub decreases-loop-rest : goal.decreases-loop-rest
decreases-loop-rest l = length l.rest
