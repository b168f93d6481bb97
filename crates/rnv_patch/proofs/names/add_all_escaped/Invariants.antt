use Rattle.std.proofs.Common.{◌≡◌, ◌++◌, flat_map, take}
use Rattle.rnv_patch.specs.Names.{escaped}
use Rattle.rnv_patch.proofs.names.add_all_escaped.Given as goal

abbrev pub invariant-loop-b : goal.invariant-loop-b
invariant-loop-b l = l.out.items ≡ l.initial.out.items ++ flat_map escaped (take l.b-index l.path)
