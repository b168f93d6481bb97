use Rattle.std.proofs.Common.{◌≡◌, take}
use Rattle.rnv_patch.specs.Lines.{lent}
use Rattle.rnv_patch.proofs.lines.common_front.Given as goal

abbrev pub invariant-loop-count : goal.invariant-loop-count
invariant-loop-count l = take l.count (lent l.old) ≡ take l.count (lent l.new)
