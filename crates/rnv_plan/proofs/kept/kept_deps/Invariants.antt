use Rattle.std.proofs.Common.{◌≡◌, map, take}
use Rattle.rnv_plan.specs.Named.{kept_dep}
use Rattle.rnv_plan.proofs.kept.kept_deps.Given as goal

abbrev pub invariant-loop-dep : goal.invariant-loop-dep
invariant-loop-dep l = l.all ≡ map kept_dep (take l.dep-index l.deps)
