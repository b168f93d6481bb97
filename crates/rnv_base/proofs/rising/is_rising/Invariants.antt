use Rattle.std.proofs.Common.{ℕ, [], ◌+◌, ◌<◌, ◌≡◌, get_or, nat_cmp}
use Rattle.std.specs.Cmp.Lexicographic.{slice_cmp}
use Rattle.std.specs.declared.cmp.Ordering.TheVariants.{Less}
use Rattle.rnv_base.proofs.rising.is_rising.Given as goal

abbrev pub invariant-loop-at : goal.invariant-loop-at
invariant-loop-at l = (k : ℕ) → k + 1 < l.at → slice_cmp nat_cmp (get_or l.texts k []) (get_or l.texts (k + 1) []) ≡ Less
