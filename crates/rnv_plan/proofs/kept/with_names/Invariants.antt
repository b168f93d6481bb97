use Rattle.std.proofs.Common.{◌≡◌, map, take}
use Rattle.rnv_plan.specs.Named.{with_name}
use Rattle.rnv_plan.proofs.kept.with_names.Given as goal

abbrev pub invariant-loop-update : goal.invariant-loop-update
invariant-loop-update l = l.all.items ≡ map with_name (take l.update-index l.updates)
