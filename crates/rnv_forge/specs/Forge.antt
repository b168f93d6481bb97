-- What a stop may leave of a forge's writes, and what its calls answer.
use Rattle.std.specs.Prelude.{◌≡◌, ◌⊎◌, ◌↔◌, ◌<◌, ℕ, ◌^◌, ◌-◌, List, [], ◌++◌, min, take}
use Rattle.rnv_disk.specs.Images.{Image}
use Rattle.rnv_disk.specs.Stops.{Past}
use Rattle.rnv_repo.specs.declared.write.Write.{Write}
use Rattle.rnv_repo.specs.Store.{ArePermitted, after}
use Rattle.rnv_journal.specs.Readings.{ReadsOnly}
use Rattle.rnv_forge.specs.Writes.{IsSpelledBy, length_of}

-- the byte strings spell writes that are so
pub record SpellSome (P : List Write → Type 0) (payloads : List (List ℕ)) : Type 0 where
  pub writes : List Write
  pub spelled : IsSpelledBy payloads writes
  pub each : P writes

-- A stop at some moment since old leaves a disk that has readings, and each of them spells writes that are so.
abbrev pub LeavesWrites : ℕ → Past → Past → (List Write → Type 0) → Type 0
LeavesWrites limit old new P = ReadsOnly limit old new (SpellSome P)

-- the moment is the same, and what stops since each moment may have left
pub record IsSamePast (old new : Past) : Type 0 where
  pub moment : new.moment ≡ old.moment
  pub left : (t : ℕ) (c : Image) → new.left t c ↔ old.left t c

-- these writes, or these and the first of those that are prepared
abbrev pub IsOldOrNext : List Write → List Write → List Write → Type 0
IsOldOrNext old prepared ws = (ws ≡ old) ⊎ (ws ≡ old ++ take 1 prepared)

-- these writes are permitted in their turn, and the journal would be longer than its limit with them, by this length, or
-- the greatest number of 64 bits where that is less
pub record IsOverfull (old ws : List Write) (most length limit : ℕ) : Type 0 where
  pub permitted : ArePermitted ws (after old [])
  pub above : most < length_of (old ++ ws)
  pub length_is : length ≡ min (length_of (old ++ ws)) (2 ^ 64 - 1)
  pub limit_is : limit ≡ most
