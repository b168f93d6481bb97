use Rattle.std.proofs.Common.{◌≡◌, ◌+◌, drop}
use Rattle.std.specs.List.{prefix_len}
use Rattle.std.specs.Ordering.{is_lt, nat_cmp}
use Rattle.std.specs.Cmp.Lexicographic.{slice_cmp}
use Rattle.rnv_commands.proofs.difference.count_below.Given as goal

abbrev pub invariant-loop-file : goal.invariant-loop-file
invariant-loop-file l =
    (l.count ≡ l.file-index) × (prefix_len (λ f. is_lt (slice_cmp nat_cmp f.path l.path)) l.files ≡ l.count + prefix_len (λ f. is_lt (slice_cmp nat_cmp f.path l.path)) (drop l.file-index l.files))
