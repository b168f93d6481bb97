use Rattle.std.proofs.Common.{◌≡◌, ◌+◌, length, take}
use Rattle.std.specs.Prelude.{sum_by}
use Rattle.rnv_base.specs.Limits.{base_bytes}
use Rattle.rnv_repo.proofs.base.is_over.Given as goal

abbrev pub invariant-loop-file : goal.invariant-loop-file
invariant-loop-file l = l.room + sum_by (λ f. length f.bytes) (take l.file-index l.files) ≡ base_bytes
