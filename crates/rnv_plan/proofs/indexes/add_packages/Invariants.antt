use Rattle.std.proofs.Common.{List, ◌++◌, take}
use Rattle.std.specs.Prelude.{filter}
use Rattle.rnv_pick.specs.declared.dep.Dep.{Dep}
use Rattle.rnv_plan.specs.Packages.{AreNames}
use Rattle.rnv_plan.specs.Sources.{is_wanted}
use Rattle.rnv_plan.proofs.indexes.add_packages.Given as goal

abbrev pub invariant-loop-dep : goal.invariant-loop-dep
invariant-loop-dep l = (before : List Dep) → AreNames before l.fn.names → AreNames (before ++ filter (is_wanted l.source) (take l.dep-index l.deps)) l.names
