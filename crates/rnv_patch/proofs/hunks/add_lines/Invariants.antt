use Rattle.std.proofs.Common.{◌≡◌, ◌++◌, flat_map, take}
use Rattle.rnv_patch.specs.Lines.{lent}
use Rattle.rnv_patch.specs.Written.{signed}
use Rattle.rnv_patch.proofs.hunks.add_lines.Given as goal

abbrev pub invariant-loop-line : goal.invariant-loop-line
invariant-loop-line l = l.out.items ≡ l.initial.out.items ++ flat_map (signed l.sign) (lent (take l.line-index l.lines))
