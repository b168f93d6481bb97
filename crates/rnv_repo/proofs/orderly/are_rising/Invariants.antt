use Rattle.std.proofs.Common.{ℕ, ◌+◌, ◌<◌, ◌≡◌, get_or, nat_cmp}
use Rattle.std.specs.Ordering.{on}
use Rattle.std.specs.Cmp.Lexicographic.{slice_cmp}
use Rattle.std.specs.declared.cmp.Ordering.TheVariants.{Less}
use Rattle.rnv_repo.proofs.orderly.are_rising.Given as goal

abbrev pub invariant-loop-at : goal.invariant-loop-at
invariant-loop-at g l = (k : ℕ) (d : g.row.T.Denot) → k + 1 < l.at → on g.T.HasPath.path (slice_cmp nat_cmp) (get_or l.items k d) (get_or l.items (k + 1) d) ≡ Less
