-- What a run makes of the store on a disk.
use Rattle.std.specs.Prelude.{◌≡◌, ◌≢◌, ◌≤◌, ℕ, List, [], ◌++◌, length, take, drop, map, Some, Result, Ok, Err, IfErr, IfOk}
use Rattle.rnv_base.specs.Files.{NamedFile}
use Rattle.rnv_base.specs.Limits.{store_bytes}
use Rattle.rnv_commands.specs.OnDisk.{IsDamaged, IsStored, IsUnknownIn}
use Rattle.rnv_disk.specs.Images.{Image}
use Rattle.rnv_disk.specs.Stops.{Past}
use Rattle.rnv_repo.specs.Store.{after, known}
use Rattle.rnv_repo.specs.declared.repo.Repo.{Repo}
use Rattle.rnv_repo.specs.declared.write.Write.{Write}
use Rattle.rnv_journal.specs.Readings.{HasReadingsNow, IsAtRest, IsReadingNow, KeepsReadings, ReadsOnly}
use Rattle.rnv_journal.specs.declared.start.StartError.{StartError}
use Rattle.rnv_journal.specs.declared.start.StartError.TheVariants.{DiskFault as start_fault, NotAJournal as start_damaged, Memory as start_memory}
use Rattle.rnv_desired.specs.Givens.{IsGiven}
use Rattle.rnv_outcome.specs.Given.{Given}
use Rattle.rnv_outcome.specs.Steps.{steps}
use Rattle.rnv_spelling.specs.Spelling.{spelling}
use Rattle.rnv_plan.specs.declared.error.RunError.{RunError}
use Rattle.rnv_plan.specs.declared.error.RunError.TheVariants.{Memory, FolderFault, DiskFault, UnknownRepo, NotBuilt, Limit, IndexRefused}
use Rattle.rnv_forge.specs.Start.{LeavesRefused}
use Rattle.rnv_forge.specs.Writes.{length_of}
use Rattle.rnv_run.specs.declared.on_disk.RunRefusal.{RunRefusal}
use Rattle.rnv_run.specs.declared.on_disk.RunRefusal.TheVariants.{NotAJournal, Ended}
use Rattle.rnv_run.specs.Begun.{LeavesOf}
use Rattle.rnv_run.specs.Front.{SpellsFront}
use Rattle.rnv_run.specs.Repository.{IfCaused, IsRepoRefusal, IsRun, IsRunDone}
use Rattle.rnv_run.specs.Run.{LeavesOutcome}
use Rattle.rnv_run.specs.Text.{PrintsRun}

-- what a run over a forge answers, as one over a disk
abbrev pub ended : Result (List ℕ) RunError → Result (List ℕ) RunRefusal
ended (Ok text) = Ok text
ended (Err error) = Err (Ended error)

-- what the refusal of a start is answered with
abbrev pub IsStartRefusal : StartError → RunRefusal → Type 0
IsStartRefusal start_fault refusal = refusal ≡ Ended DiskFault
IsStartRefusal (start_damaged offset) refusal = refusal ≡ NotAJournal offset
IsStartRefusal start_memory refusal = refusal ≡ Ended Memory

-- ---- one run

-- a run behind some writes, which leaves the disk at rest with its own behind these, and what is printed of it
pub record LeavesRun (tells : Type 0) (files : List NamedFile) (name : List ℕ) (moment limit : ℕ) (old : List Write) (exit : Past) (text : List ℕ) : Type 0 where
  pub new : List Write
  pub done : IsRunDone tells files name moment old new text
  pub at_rest : IsAtRest limit exit (map spelling new)
  pub room : length_of new ≤ limit

-- a run over the store of an image, which a start reads on entry
pub record HasRun (tells : Type 0) (files : List NamedFile) (name : List ℕ) (moment limit : ℕ) (image : Image) (entry exit : Past) (text : List ℕ) : Type 0 where
  pub old : List Write
  pub stored : IsStored limit image old
  pub reading : IsReadingNow limit entry (map spelling old)
  pub leaves : LeavesRun tells files name moment limit old exit text

-- the store of an image, for which this is the cause of a refusal
pub record IsRefusedIn (files : List NamedFile) (name : List ℕ) (moment limit : ℕ) (image : Image) (error : RunError) : Type 0 where
  pub old : List Write
  pub stored : IsStored limit image old
  pub cause : IsRepoRefusal files name moment limit old error

-- the store of an image, with a repository of that name
pub record HasRepo (name : List ℕ) (limit : ℕ) (image : Image) : Type 0 where
  pub old : List Write
  pub stored : IsStored limit image old
  pub repo : Repo
  pub there : known name (after old []) ≡ Some repo

-- What a refusal tells of an image alone: it is no store, or its store has no repository of that name, or has it, as behind every cause but
-- want of memory and a fault of the disk.
abbrev pub IsOfImage : List ℕ → ℕ → Image → RunRefusal → Type 0
IsOfImage name limit image (NotAJournal offset) = IsDamaged limit image offset
IsOfImage name limit image (Ended Memory) = Unit {0}
IsOfImage name limit image (Ended DiskFault) = Unit {0}
IsOfImage name limit image (Ended UnknownRepo) = IsUnknownIn name limit image
IsOfImage name limit image (Ended FolderFault) = HasRepo name limit image
IsOfImage name limit image (Ended (NotBuilt path)) = HasRepo name limit image
IsOfImage name limit image (Ended (Limit which number)) = HasRepo name limit image
IsOfImage name limit image (Ended (IndexRefused path line)) = HasRepo name limit image

-- What a run leaves of a disk whose bytes are no store: bytes that are no journal are not written to, and a journal loses nothing.
abbrev pub LeavesNoStore : ℕ → Image → Image → Past → Past → RunRefusal → Type 0
LeavesNoStore limit old new before now (NotAJournal offset) = LeavesRefused limit old new before now (start_damaged offset)
LeavesNoStore limit old new before now (Ended error) = Unit {0}

-- why nothing is written over an image: it is no store, or the repository, its base or the journal's room are the cause
abbrev pub IsNotRun : List NamedFile → List ℕ → ℕ → ℕ → Image → RunRefusal → Type 0
IsNotRun files name moment limit image (NotAJournal offset) = IsDamaged limit image offset
IsNotRun files name moment limit image (Ended error) = IfCaused (IsRefusedIn files name moment limit image) error

-- ---- runs that are stopped and given again

-- Whatever a stop at this moment leaves has readings, and each of them spells these writes and the first of the others,
-- at least so many.
pub record ReadsFront (limit : ℕ) (past : Past) (start ws : List Write) (least : ℕ) : Type 0 where
  pub some : HasReadingsNow limit past
  pub each : (list : List (List ℕ)) → IsReadingNow limit past list → SpellsFront start ws least list

-- the first run began with these writes, among them a repository of that name, and this was given it
pub record IsBegun (files : List NamedFile) (name : List ℕ) (moment : ℕ) (start : List Write) (first : Repo) (g : Given) : Type 0 where
  pub there : known name (after start []) ≡ Some first
  pub is_given : IsGiven (Unit {0}) files first.files moment g

-- All writes of the first run stand behind those from before it, with what it was to leave, and the disk is at rest at them. Those
-- that this call found are the first of them, and the text is that of the others, which it made, over the repository that it found.
pub record IsFinished (limit : ℕ) (exit : Past) (name : List ℕ) (moment : ℕ) (start : List Write) (first : Repo) (g : Given) (old : List Write) (text : List ℕ) : Type 0 where
  pub at_rest : IsAtRest limit exit (map spelling (start ++ steps g first))
  pub leaves : LeavesOutcome g name first (start ++ steps g first)
  pub count : ℕ
  pub at_most : count ≤ length (steps g first)
  pub found : old ≡ start ++ take count (steps g first)
  pub repo : Repo
  pub there : known name (after old []) ≡ Some repo
  pub prints : PrintsRun moment repo (drop count (steps g first)) text

-- the same behind the writes that stood on entry, which a start reads of the image
pub record HasFinished (limit : ℕ) (image : Image) (entry exit : Past) (name : List ℕ) (moment : ℕ) (start : List Write) (first : Repo) (g : Given) (text : List ℕ) : Type 0 where
  pub old : List Write
  pub stored : IsStored limit image old
  pub reading : IsReadingNow limit entry (map spelling old)
  pub finished : IsFinished limit exit name moment start first g old text

-- A run over a disk. From any disk that has readings it begins one run or none. Where each reading on entry was left by an earlier
-- run, whatever a stop leaves is so still, with no fewer of the writes, and a text tells that all of them stand. No refusal but that
-- of the disk has written anything. What is no store, or lacks the repository, is told of the image alone, and every other cause but want
-- of memory and a fault of the disk comes only behind the start and the look-up of the repository.
pub record Runs (folder_tells : Type 0) (files : List NamedFile) (disk_tells : Type 0) (image : Image) (entry exit : Past) (name : List ℕ) (moment : ℕ) (answer : Result (List ℕ) RunRefusal) : Type 0 where
  pub begins : LeavesOf store_bytes (IsRun folder_tells files name moment) entry exit
  pub stops : (start : List Write) (first : Repo) (g : Given) (least : ℕ) → folder_tells → IsBegun files name moment start first g
      → ReadsFront store_bytes entry start (steps g first) least
      → ReadsOnly store_bytes entry exit (SpellsFront start (steps g first) least)
  pub finished : (start : List Write) (first : Repo) (g : Given) (least : ℕ) → folder_tells → disk_tells → IsBegun files name moment start first g
      → ReadsFront store_bytes entry start (steps g first) least
      → IfOk answer (HasFinished store_bytes image entry exit name moment start first g)
  pub unwritten : IfErr answer (λ refusal. refusal ≢ Ended DiskFault → KeepsReadings store_bytes entry exit)
  pub done : disk_tells → IfOk answer (HasRun folder_tells files name moment store_bytes image entry exit)
  pub refused : folder_tells → disk_tells → IfErr answer (IsNotRun files name moment store_bytes image)
  pub image_told : disk_tells → IfErr answer (IsOfImage name store_bytes image)
