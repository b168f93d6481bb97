use Rattle.std.proofs.Common.{◌≡◌, ◌++◌, length}
use Rattle.rnv_patch.specs.Lines.{lent, lines}
use Rattle.rnv_patch.proofs.lines.lines.Given as goal

abbrev pub invariant-loop-rest : goal.invariant-loop-rest
invariant-loop-rest l = lines l.text ≡ lent l.all.items ++ lines l.rest

abbrev pub decreases-loop-rest : goal.decreases-loop-rest
decreases-loop-rest l = length l.rest
