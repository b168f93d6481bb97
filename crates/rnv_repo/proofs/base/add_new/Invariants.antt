use Rattle.std.proofs.Common.{◌≡◌, ◌++◌, take}
use Rattle.std.specs.List.{flat_map}
use Rattle.rnv_repo.specs.Merging.{set_by}
use Rattle.rnv_repo.proofs.base.add_new.Given as goal

abbrev pub invariant-loop-change : goal.invariant-loop-change
invariant-loop-change l = l.out ≡ l.fn.out ++ flat_map (set_by l.revision) (take l.change-index l.changes)
