use Rattle.std.proofs.Common.{◌≡◌, take, map}
use Rattle.rnv_manager.specs.Finds.{views}
use Rattle.rnv_plan.specs.Taken.{dep_of}
use Rattle.rnv_plan.proofs.taken.deps.Given as goal

abbrev pub invariant-loop-one : goal.invariant-loop-one
invariant-loop-one l = l.deps ≡ map (dep_of l.path l.manager) (views (take l.one-index l.found))
