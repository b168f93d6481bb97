use Rattle.std.proofs.Common.{◌≡◌, List, ℕ}
use Rattle.std.specs.Cmp.Lexicographic.{slice_cmp}
use Rattle.std.specs.Ordering.{nat_cmp}
use Rattle.std.specs.BTreeMap.{get}
use Rattle.rnv_plan.specs.Groups.{group_in}
use Rattle.rnv_plan.proofs.grouping.by_branch.Given as goal

abbrev pub invariant-loop-one : goal.invariant-loop-one
invariant-loop-one l = (q : List ℕ) → get (slice_cmp nat_cmp) l.branches q ≡ group_in q l.yielded
