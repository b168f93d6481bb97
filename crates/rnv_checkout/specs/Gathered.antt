-- What is gathered of the paths of a folder.
use Rattle.std.specs.Prelude.{◌≡◌, ◌+◌, ◌-◌, ◌^◌, ◌≤◌, List, length, min, Option}
use Rattle.rnv_base.specs.Files.{NamedFile}
use Rattle.rnv_base.specs.Limits.{base_bytes, base_files}
use Rattle.rnv_checkout.specs.declared.gathered.Gathered.{Gathered}
use Rattle.rnv_checkout.specs.Base.{kept_of, size_of}

-- how many files are kept, and how many bytes they have, as far as 64 bits count; how many others there are; and all that are
-- kept where the limits have room for them
pub record IsGathered (gathered : Gathered) (outcomes : List (Option NamedFile)) : Type 0 where
  pub count : gathered.count ≡ min (length (kept_of outcomes)) (2 ^ 64 - 1)
  pub bytes : gathered.bytes ≡ min (size_of (kept_of outcomes)) (2 ^ 64 - 1)
  pub passed : gathered.passed + length (kept_of outcomes) ≡ length outcomes
  pub files : length (kept_of outcomes) ≤ base_files → size_of (kept_of outcomes) ≤ base_bytes → gathered.files ≡ kept_of outcomes
