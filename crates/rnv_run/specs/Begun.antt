-- What a call leaves that begins one run or none.
--
-- `over old ws` says that behind the writes that stand a run makes these.
use Rattle.std.specs.Prelude.{◌≡◌, ◌⊎◌, ℕ, List, map}
use Rattle.rnv_disk.specs.Images.{Image}
use Rattle.rnv_disk.specs.Stops.{LeavesOnly, Past}
use Rattle.rnv_repo.specs.declared.write.Write.{Write}
use Rattle.rnv_journal.specs.Reading.{EachReading}
use Rattle.rnv_journal.specs.Readings.{HasReadingsNow, IsReadingNow}
use Rattle.rnv_spelling.specs.Spelling.{spelling}
use Rattle.rnv_forge.specs.Forge.{LeavesWrites}
use Rattle.rnv_run.specs.Front.{IsFront, SpellsFront}

-- Over a forge: whatever a stop leaves spells the writes from before alone, or one run was begun, and whatever a stop leaves spells
-- these and the first of its writes, however many. The whole call is the one or the other, not each reading for itself.
abbrev pub BeginsOrStays : ℕ → (List Write → List Write → Type 0) → Past → Past → List Write → Type 0
BeginsOrStays limit over old_past new_past old =
    LeavesWrites limit old_past new_past (λ ws. ws ≡ old) ⊎ ((ws : List Write) × over old ws × LeavesWrites limit old_past new_past (IsFront old ws 0))

-- Over a disk that may have several readings: an image whose readings all stood on it, or one whose readings are all ONE of those
-- that stood on it and the first writes of ONE run over it.
pub data LeftOf (limit : ℕ) (over : List Write → List Write → Type 0) (entry : Past) (c : Image) : Type 0 where
  kept : EachReading limit (IsReadingNow limit entry) c → LeftOf limit over entry c
  begun : (old ws : List Write) → IsReadingNow limit entry (map spelling old) → over old ws → EachReading limit (SpellsFront old ws 0) c → LeftOf limit over entry c

-- what a stop at any moment leaves of a disk that has readings
abbrev pub LeavesOf : ℕ → (List Write → List Write → Type 0) → Past → Past → Type 0
LeavesOf limit over entry exit = HasReadingsNow limit entry → LeavesOnly entry exit (LeftOf limit over entry)
