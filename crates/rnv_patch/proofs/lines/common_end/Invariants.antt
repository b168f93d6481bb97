use Rattle.std.proofs.Common.{◌≡◌, ◌-◌, length, drop}
use Rattle.rnv_patch.specs.Lines.{lent}
use Rattle.rnv_patch.proofs.lines.common_end.Given as goal

abbrev pub invariant-loop-count : goal.invariant-loop-count
invariant-loop-count l = drop (length l.old - l.count) (lent l.old) ≡ drop (length l.new - l.count) (lent l.new)
