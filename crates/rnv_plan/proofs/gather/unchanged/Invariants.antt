use Rattle.std.proofs.Common.{◌≡◌, map}
use Rattle.rnv_plan.specs.Plan.{unchanged}
use Rattle.rnv_plan.proofs.gather.unchanged.Given as goal

abbrev pub invariant-loop-file : goal.invariant-loop-file
invariant-loop-file l = l.base ≡ map unchanged l.yielded
