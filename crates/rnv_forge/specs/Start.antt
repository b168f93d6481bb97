-- What the start of a store answers.
use Rattle.std.specs.Prelude.{◌≡◌, ◌≤◌, ◌⊎◌, ℕ, List, take}
use Rattle.rnv_base.specs.Causes.{Rose}
use Rattle.rnv_disk.specs.Images.{Image}
use Rattle.rnv_disk.specs.Stops.{Past, LeftNow, LeavesOnly}
use Rattle.rnv_journal.specs.File.{end_of}
use Rattle.rnv_journal.specs.Reading.{IsWrongAt, ReadsAs}
use Rattle.rnv_journal.specs.Readings.{IsAtRest}
use Rattle.rnv_journal.specs.declared.start.StartError.{StartError}
use Rattle.rnv_journal.specs.declared.start.StartError.TheVariants.{DiskFault, NotAJournal, Memory}
use Rattle.rnv_forge.specs.Writes.{IsDamaged}

-- `NotAJournal` comes with the offset of the gate of the first entry that is no permitted write
abbrev pub IsDamage : List (List ℕ) → StartError → Type 0
IsDamage payloads DiskFault = ⊥
IsDamage payloads (NotAJournal offset) = (index : ℕ) × IsDamaged payloads index × (offset ≡ end_of (take index payloads))
IsDamage payloads Memory = Unit {0}

-- the image reads as byte strings, and this is the offset of the gate of the first that spells no permitted write
pub record IsDamagedAt (limit : ℕ) (image : Image) (offset : ℕ) : Type 0 where
  pub payloads : List (List ℕ)
  pub read : ReadsAs limit image payloads
  pub index : ℕ
  pub damaged : IsDamaged payloads index
  pub place : offset ≡ end_of (take index payloads)

-- `NotAJournal` comes with the offset at which the bytes go wrong, or with that of the first entry that is no permitted write
abbrev pub IsStoreRefusal : ℕ → Image → StartError → Type 0
IsStoreRefusal limit image DiskFault = Unit {0}
IsStoreRefusal limit image (NotAJournal offset) = IsWrongAt limit image offset ⊎ IsDamagedAt limit image offset
IsStoreRefusal limit image Memory = Unit {0}

-- the bytes go wrong at this offset, and the disk is as it was, also what a stop leaves of it
pub record IsUntouched (limit : ℕ) (old new : Image) (before now : Past) (offset : ℕ) : Type 0 where
  pub wrong : IsWrongAt limit old offset
  pub same : new ≡ old
  pub stops : LeavesOnly before now (LeftNow before)

-- the image reads as byte strings of which one spells no permitted write, and the disk is at rest at all of them
pub record KeepsDamaged (limit : ℕ) (image : Image) (now : Past) (offset : ℕ) : Type 0 where
  pub payloads : List (List ℕ)
  pub read : ReadsAs limit image payloads
  pub index : ℕ
  pub damaged : IsDamaged payloads index
  pub place : offset ≡ end_of (take index payloads)
  pub rests : IsAtRest limit now payloads

-- What `NotAJournal` leaves: bytes that are no journal are not written to, and of a journal no byte string is lost, which may only
-- have had the gate at its end closed.
abbrev pub LeavesRefused : ℕ → Image → Image → Past → Past → StartError → Type 0
LeavesRefused limit old new before now DiskFault = Unit {0}
LeavesRefused limit old new before now (NotAJournal offset) = IsUntouched limit old new before now offset ⊎ KeepsDamaged limit old now offset
LeavesRefused limit old new before now Memory = Unit {0}

-- a fault is answered only where the count of faults rose
pub record RefusedBy (before now : ℕ) (error : StartError) : Type 0 where
  pub later : before ≤ now
  pub failed : error ≡ DiskFault → Rose before now
