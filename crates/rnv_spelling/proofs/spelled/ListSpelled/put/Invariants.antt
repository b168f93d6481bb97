use Rattle.std.proofs.Common.{◌≡◌, ◌++◌, length, take}
use Rattle.std.specs.List.{flat_map}
use Rattle.rnv_spelling.specs.Spelling.{four_bytes}
use Rattle.rnv_spelling.proofs.spelled.ListSpelled.put.Given as goal

abbrev pub invariant-loop-item : goal.invariant-loop-item
invariant-loop-item g l = l.out.items ≡ l.fn.out.items ++ (four_bytes (length l.item-items) ++ flat_map g.T.Spelled.spelled (take l.item-index l.item-items))
