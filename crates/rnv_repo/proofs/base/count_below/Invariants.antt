use Rattle.std.proofs.Common.{◌≡◌, ◌+◌, drop}
use Rattle.std.specs.List.{prefix_len}
use Rattle.std.specs.Ordering.{is_lt, nat_cmp}
use Rattle.std.specs.Cmp.Lexicographic.{slice_cmp}
use Rattle.rnv_repo.proofs.base.count_below.Given as goal

abbrev pub invariant-loop-change : goal.invariant-loop-change
invariant-loop-change l =
    (l.count ≡ l.change-index) × (prefix_len (λ c. is_lt (slice_cmp nat_cmp c.path l.path)) l.changes ≡ l.count + prefix_len (λ c. is_lt (slice_cmp nat_cmp c.path l.path)) (drop l.change-index l.changes))
