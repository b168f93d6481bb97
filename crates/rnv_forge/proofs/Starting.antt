-- What a damaged store answers.
use Rattle.std.proofs.Common.{◌≡◌, ◌<◌, ℕ, List, ◌∷◌, length, map, Result, Ok, Err, inl, inr, ap, arith, length-append}
use Rattle.std.specs.Prelude.{IfErr}
use Rattle.rnv_disk.specs.Images.{Image}
use Rattle.rnv_disk.specs.Stops.{Past, LeftNow, LeavesOnly}
use Rattle.rnv_journal.specs.Reading.{ReadsAs}
use Rattle.rnv_journal.specs.Readings.{IsAtRest}
use Rattle.rnv_journal.specs.Start.{IsRefusal, UnlessFault, WhereNoJournal}
use Rattle.rnv_journal.specs.declared.start.StartError.{StartError}
use Rattle.rnv_journal.specs.declared.start.StartError.TheVariants.{DiskFault, NotAJournal, Memory}
use Rattle.rnv_spelling.specs.Spelling.{spelling}
use Rattle.rnv_forge.specs.Start.{IsDamage, IsStoreRefusal, LeavesRefused}
use Rattle.rnv_forge.specs.Writes.{IsDamaged}
use Rattle.rnv_forge.proofs.Turns.{length_map}

pub damaged_within : (ps : List (List ℕ)) (index : ℕ) → IsDamaged ps index → index < length ps
damaged_within ps index d =
    omega (arith, d.place, ap length d.is, length-append (map spelling d.front) (d.payload ∷ d.rest), length_map d.front)

refusal_of : (limit : ℕ) (image : Image) (ps : List (List ℕ)) (error : StartError) → ReadsAs limit image ps → IsDamage ps error → IsStoreRefusal limit image error
refusal_of limit image ps DiskFault read d = tt
refusal_of limit image ps (NotAJournal offset) read d = inr (record { payloads = ps; read = read; index = d.0; damaged = d.1; place = d.2 })
refusal_of limit image ps Memory read d = tt

pub refusals_of : {T : Type 0} (limit : ℕ) (image : Image) (ps : List (List ℕ)) (r : Result T StartError) → ReadsAs limit image ps → IfErr r (IsDamage ps) → IfErr r (IsStoreRefusal limit image)
refusals_of limit image ps (Ok x) read d = tt
refusals_of limit image ps (Err e) read d = refusal_of limit image ps e read d

-- what is left of a disk whose bytes are no journal
pub wrong_left : (limit : ℕ) (old new : Image) (before now : Past) (error : StartError) → IsRefusal limit old error → UnlessFault error (LeavesOnly before now (LeftNow before)) → WhereNoJournal error (new ≡ old)
    → LeavesRefused limit old new before now error
wrong_left limit old new before now DiskFault wrong stops same = tt
wrong_left limit old new before now (NotAJournal offset) wrong stops same = inl (record { wrong = wrong; same = same; stops = stops })
wrong_left limit old new before now Memory wrong stops same = tt

-- what is left of a journal that is damaged
damaged_left : (limit : ℕ) (old new : Image) (before now : Past) (ps : List (List ℕ)) (error : StartError) → ReadsAs limit old ps → IsAtRest limit now ps → IsDamage ps error → LeavesRefused limit old new before now error
damaged_left limit old new before now ps DiskFault read rests d = tt
damaged_left limit old new before now ps (NotAJournal offset) read rests d = inr (record { payloads = ps; read = read; index = d.0; damaged = d.1; place = d.2; rests = rests })
damaged_left limit old new before now ps Memory read rests d = tt

pub damages_left : {T : Type 0} (limit : ℕ) (old new : Image) (before now : Past) (ps : List (List ℕ)) (r : Result T StartError) → ReadsAs limit old ps → IsAtRest limit now ps → IfErr r (IsDamage ps)
    → IfErr r (LeavesRefused limit old new before now)
damages_left limit old new before now ps (Ok x) read rests d = tt
damages_left limit old new before now ps (Err e) read rests d = damaged_left limit old new before now ps e read rests d
