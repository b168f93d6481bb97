use Rattle.std.proofs.Common.{◌≡◌, take}
use Rattle.rnv_plan.specs.Groups.{greatest_kind}
use Rattle.rnv_plan.proofs.grouping.greatest_kind.Given as goal

abbrev pub invariant-loop-update : goal.invariant-loop-update
invariant-loop-update l = l.kind ≡ greatest_kind (take l.update-index l.updates)
