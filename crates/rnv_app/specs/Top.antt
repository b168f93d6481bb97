-- What the program does for its words, over the told files of a folder and the told bytes of a disk.
use Rattle.std.specs.Prelude.{◌≡◌, ◌≢◌, ◌⊎◌, ℕ, List, ◌++◌, take, Result, Ok, Err, IfErr, IfOk}
use Rattle.rnv_base.specs.Files.{NamedFile}
use Rattle.rnv_base.specs.Limits.{store_bytes}
use Rattle.rnv_base.specs.Moment.{IsMomentText}
use Rattle.rnv_commands.specs.OnDisk.{IsDamaged, HasImported, IsNotImported, IsNotShown, IsReadingOrImport, IsRefusedIn as IsImportRefusedIn, IsShownOf, IsUnknownIn}
use Rattle.rnv_commands.specs.declared.error.CommandError.{CommandError}
use Rattle.rnv_commands.specs.declared.error.CommandError.TheVariants as command
use Rattle.rnv_disk.specs.Images.{Image}
use Rattle.rnv_disk.specs.Stops.{Past}
use Rattle.rnv_journal.specs.Readings.{HasReadingsNow, KeepsReadings, ReadsOnly}
use Rattle.rnv_journal.specs.declared.start.StartError.TheVariants.{NotAJournal as start_damaged}
use Rattle.rnv_plan.specs.declared.group.Group.{Group}
use Rattle.rnv_plan.specs.declared.error.RunError.{RunError}
use Rattle.rnv_plan.specs.declared.error.RunError.TheVariants as run
use Rattle.rnv_plan.specs.Plan.{IsPlanned, IsPlanRefusal}
use Rattle.rnv_run.specs.declared.on_disk.RunRefusal.{RunRefusal}
use Rattle.rnv_run.specs.OnDisk.{HasRepo, IsRefusedIn, Runs}
use Rattle.rnv_forge.specs.Start.{LeavesRefused}
use Rattle.rnv_app.specs.declared.refusal.Refusal.{Refusal}
use Rattle.rnv_app.specs.declared.refusal.Refusal.TheVariants.{Memory, Usage, UnknownRepo, FolderFault, DiskFault, NotAJournal, Limit, IndexRefused, NotBuilt}
use Rattle.rnv_app.specs.Words.{IsImport, IsPlan, IsRun, IsShow, IsUsage}
use Rattle.rnv_app.specs.Text.{plan_text}
use Rattle.rnv_app.specs.Refusals.{code_of, plan_refusal_of, refusal_of, refusal_text, run_refusal_of, status_of, IsLine, IsTold}

-- plan

-- the words ask for a plan, for which the files give items: its text
pub record HasPlan (words : List (List ℕ)) (files : List NamedFile) (text : List ℕ) : Type 0 where
  pub repo : List ℕ
  pub now : ℕ
  pub asked : IsPlan words repo now
  pub items : List Group
  pub planned : IsPlanned repo now files items
  pub free : (error : RunError) → ¬ (IsPlanRefusal repo now files error)
  pub time : List ℕ
  pub timed : IsMomentText time now
  pub same : text ≡ plan_text time items

-- the words ask for a plan, for which the files are the cause of this refusal
pub record HasNoPlan (words : List (List ℕ)) (files : List NamedFile) (error : RunError) : Type 0 where
  pub repo : List ℕ
  pub now : ℕ
  pub asked : IsPlan words repo now
  pub cause : IsPlanRefusal repo now files error

-- what the text of a plan, or its refusal, tells of the words and the files
abbrev pub Tells : List (List ℕ) → List NamedFile → Result (List ℕ) Refusal → Type 0
Tells words files (Ok text) = HasPlan words files text
Tells words files (Err Memory) = Unit {0}
Tells words files (Err Usage) = ⊥
Tells words files (Err UnknownRepo) = HasNoPlan words files run.UnknownRepo
Tells words files (Err FolderFault) = Unit {0}
Tells words files (Err DiskFault) = ⊥
Tells words files (Err (NotAJournal offset)) = ⊥
Tells words files (Err (Limit which number)) = HasNoPlan words files (run.Limit which number)
Tells words files (Err (IndexRefused file line)) = HasNoPlan words files (run.IndexRefused file line)
Tells words files (Err (NotBuilt path)) = HasNoPlan words files (run.NotBuilt path)

-- the refusals that a plan has
abbrev pub IsOfPlan : Refusal → Type 0
IsOfPlan Memory = Unit {0}
IsOfPlan Usage = ⊥
IsOfPlan UnknownRepo = Unit {0}
IsOfPlan FolderFault = Unit {0}
IsOfPlan DiskFault = ⊥
IsOfPlan (NotAJournal offset) = ⊥
IsOfPlan (Limit which number) = Unit {0}
IsOfPlan (IndexRefused file line) = Unit {0}
IsOfPlan (NotBuilt path) = Unit {0}

-- the whole text was written
pub record IsPrinted (words : List (List ℕ)) (files : List NamedFile) (before after : List ℕ) : Type 0 where
  pub text : List ℕ
  pub plan : HasPlan words files text
  pub written : after ≡ before ++ text

-- a front part of the text was written
pub record IsPrintedInPart (words : List (List ℕ)) (files : List NamedFile) (before after : List ℕ) : Type 0 where
  pub text : List ℕ
  pub plan : HasPlan words files text
  pub count : ℕ
  pub written : after ≡ before ++ take count text

-- the words ask for a plan, for which the files are the cause of a refusal with this status
pub record IsRefusedWith (words : List (List ℕ)) (files : List NamedFile) (code : ℕ) : Type 0 where
  pub error : RunError
  pub plan : HasNoPlan words files error
  pub status : status_of error ≡ code

-- the words ask for a plan, and the files are the cause of no refusal
pub record IsFree (words : List (List ℕ)) (files : List NamedFile) : Type 0 where
  pub repo : List ℕ
  pub now : ℕ
  pub asked : IsPlan words repo now
  pub free : (error : RunError) → ¬ (IsPlanRefusal repo now files error)

-- the line of that refusal was written, as far as the output took it
pub record IsNamed (words : List (List ℕ)) (files : List NamedFile) (before after : List ℕ) (faults now : ℕ) : Type 0 where
  pub error : RunError
  pub plan : HasNoPlan words files error
  pub line : IsLine before after faults now (refusal_text (plan_refusal_of error))

-- import and show

-- What is told of the folder and of the disk: what a read gave of it before, what stops may leave before and after, and whether it is the
-- one that was handed in.
pub record Sight : Type 1 where
  pub folder_tells : Type 0
  pub files : List NamedFile
  pub disk_tells : Type 0
  pub seen : Image
  pub entry : Past
  pub exit : Past
  pub same_disk : Type 0

-- What an import makes of the disk. From a disk that has readings a stop at any moment leaves one of these, or one of these and the one
-- write that makes the base the folder's files; where it is refused, but for a fault of the disk, one of these. A text tells that the
-- store has the folder's files as base; a refusal tells its cause.
pub record Imports (s : Sight) (repo : List ℕ) (answer : Result (List ℕ) CommandError) : Type 0 where
  pub stops : HasReadingsNow store_bytes s.entry → ReadsOnly store_bytes s.entry s.exit (IsReadingOrImport s.folder_tells s.files repo store_bytes s.entry)
  pub unwritten : IfErr answer (λ error. error ≢ command.DiskFault → KeepsReadings store_bytes s.entry s.exit)
  pub imported : s.disk_tells → IfOk answer (HasImported s.folder_tells s.files repo store_bytes s.seen s.exit)
  pub refused : s.disk_tells → IfErr answer (IsNotImported s.folder_tells s.files repo store_bytes s.seen)

-- What is shown of the disk, on which nothing is written.
pub record IsShowing (s : Sight) (repo : List ℕ) (answer : Result (List ℕ) CommandError) : Type 0 where
  pub stops : KeepsReadings store_bytes s.entry s.exit
  pub shown : s.disk_tells → IfOk answer (IsShownOf repo store_bytes s.seen)
  pub refused : s.disk_tells → IfErr answer (IsNotShown repo store_bytes s.seen)

-- the text of a command over the store, or its refusal as the program's
abbrev pub refusing : Result (List ℕ) CommandError → Result (List ℕ) Refusal
refusing (Ok text) = Ok text
refusing (Err error) = Err (refusal_of error)

-- An import, its status and what is written: the answer's text with 0, a front part of it with 10, or its refusal's status and line.
pub record IsImportEnd (s : Sight) (repo : List ℕ) (out_tells : Type 0) (before after : List ℕ) (faults now : ℕ) (code : ℕ) : Type 0 where
  pub answer : Result (List ℕ) CommandError
  pub told : IsTold out_tells before after faults now (refusing answer) code
  pub imports : Imports s repo answer

-- the same of a repository that is shown
pub record IsShowEnd (s : Sight) (repo : List ℕ) (out_tells : Type 0) (before after : List ℕ) (faults now : ℕ) (code : ℕ) : Type 0 where
  pub answer : Result (List ℕ) CommandError
  pub told : IsTold out_tells before after faults now (refusing answer) code
  pub showing : IsShowing s repo answer

-- run

-- the text of a run, or its refusal as the program's
abbrev pub running : Result (List ℕ) RunRefusal → Result (List ℕ) Refusal
running (Ok text) = Ok text
running (Err refusal) = Err (run_refusal_of refusal)

-- A run, its status and what is written: the answer's text with 0, a front part of it with 10, or its refusal's status and line.
pub record IsRunEnd (s : Sight) (repo : List ℕ) (moment : ℕ) (out_tells : Type 0) (before after : List ℕ) (faults now : ℕ) (code : ℕ) : Type 0 where
  pub answer : Result (List ℕ) RunRefusal
  pub told : IsTold out_tells before after faults now (running answer) code
  pub runs : Runs s.folder_tells s.files s.disk_tells s.seen s.entry s.exit repo moment answer

-- the image is a store, and neither it nor the folder's files are the cause of a refusal of a run
pub record IsFreeRun (files : List NamedFile) (repo : List ℕ) (moment : ℕ) (image : Image) : Type 0 where
  pub whole : (offset : ℕ) → ¬ (IsDamaged store_bytes image offset)
  pub free : (error : RunError) → ¬ (IsRefusedIn files repo moment store_bytes image error)

-- ---- causes of refusals over the store

-- the refusals of an import that have a cause in the folder's files and the store
abbrev pub IsCaused : CommandError → Type 0
IsCaused command.Memory = ⊥
IsCaused command.UnknownRepo = Unit {0}
IsCaused command.FolderFault = ⊥
IsCaused command.DiskFault = ⊥
IsCaused (command.NotAJournal offset) = ⊥
IsCaused (command.Limit which number) = Unit {0}

-- the store of an image, into which the import of a folder's files is refused for this: they are more than a base may have, there is none of
-- them, or the one write has no room
pub record HasNoImport (files : List NamedFile) (repo : List ℕ) (image : Image) (error : CommandError) : Type 0 where
  pub caused : IsCaused error
  pub refused : IsImportRefusedIn (Unit {0}) files repo store_bytes image error

-- the image is a store, and neither it nor the folder's files are the cause of a refusal of an import
pub record IsFreeImport (files : List NamedFile) (repo : List ℕ) (image : Image) : Type 0 where
  pub whole : (offset : ℕ) → ¬ (IsDamaged store_bytes image offset)
  pub free : (error : CommandError) → ¬ (HasNoImport files repo image error)

-- the image is a store, which does not lack the repository
pub record IsFreeShow (repo : List ℕ) (image : Image) : Type 0 where
  pub whole : (offset : ℕ) → ¬ (IsDamaged store_bytes image offset)
  pub known : ¬ (IsUnknownIn repo store_bytes image)

-- What may come where this is the cause of a refusal in the store and the folder's files: its status; or before it want of memory, a
-- fault of the disk, or one of the folder, for which the store has to have the repository.
abbrev pub IsRunCauseOr : List ℕ → Image → RunError → ℕ → Type 0
IsRunCauseOr repo image error code = (code ≡ status_of error) ⊎ ((code ≡ 1) ⊎ ((code ≡ 7) ⊎ ((code ≡ 5) × HasRepo repo store_bytes image)))

-- the same of an import: its status; or before it want of memory, or a fault of the disk or of the folder
abbrev pub IsImportCauseOr : CommandError → ℕ → Type 0
IsImportCauseOr error code = (code ≡ code_of (refusal_of error)) ⊎ ((code ≡ 1) ⊎ ((code ≡ 7) ⊎ (code ≡ 5)))

-- what may come where the bytes on the disk are no store: 8; or before it want of memory, or a fault of the disk
abbrev pub IsDamagedOr : ℕ → Type 0
IsDamagedOr code = (code ≡ 8) ⊎ ((code ≡ 1) ⊎ (code ≡ 7))

-- what may come where the store lacks the repository: 3; or before it want of memory, or a fault of the disk
abbrev pub IsUnknownOr : ℕ → Type 0
IsUnknownOr code = (code ≡ 3) ⊎ ((code ≡ 1) ⊎ (code ≡ 7))

-- What is left of a disk whose bytes are no store: bytes that are no journal are not written to, and a journal loses no entry.
abbrev pub IsLeftAlone : ℕ → Image → Image → Past → Past → Type 0
IsLeftAlone limit old new before now = (offset : ℕ) × LeavesRefused limit old new before now (start_damaged offset)

-- the same where this is the refusal
abbrev pub LeavesNoStore : ℕ → Image → Image → Past → Past → Refusal → Type 0
LeavesNoStore limit old new before now Memory = Unit {0}
LeavesNoStore limit old new before now Usage = Unit {0}
LeavesNoStore limit old new before now UnknownRepo = Unit {0}
LeavesNoStore limit old new before now FolderFault = Unit {0}
LeavesNoStore limit old new before now DiskFault = Unit {0}
LeavesNoStore limit old new before now (NotAJournal offset) = LeavesRefused limit old new before now (start_damaged offset)
LeavesNoStore limit old new before now (Limit which number) = Unit {0}
LeavesNoStore limit old new before now (IndexRefused file line) = Unit {0}
LeavesNoStore limit old new before now (NotBuilt path) = Unit {0}

-- the text or refusal that the words give

pub record IsForPlan (s : Sight) (words : List (List ℕ)) (text : Result (List ℕ) Refusal) : Type 0 where
  pub repo : List ℕ
  pub now : ℕ
  pub asked : IsPlan words repo now
  pub same : s.same_disk
  pub plain : IfErr text IsOfPlan
  pub told : s.folder_tells → Tells words s.files text

pub record IsForImport (s : Sight) (words : List (List ℕ)) (text : Result (List ℕ) Refusal) : Type 0 where
  pub repo : List ℕ
  pub asked : IsImport words repo
  pub answer : Result (List ℕ) CommandError
  pub is : text ≡ refusing answer
  pub imports : Imports s repo answer

pub record IsForShow (s : Sight) (words : List (List ℕ)) (text : Result (List ℕ) Refusal) : Type 0 where
  pub repo : List ℕ
  pub asked : IsShow words repo
  pub answer : Result (List ℕ) CommandError
  pub is : text ≡ refusing answer
  pub showing : IsShowing s repo answer

pub record IsForRun (s : Sight) (words : List (List ℕ)) (text : Result (List ℕ) Refusal) : Type 0 where
  pub repo : List ℕ
  pub now : ℕ
  pub asked : IsRun words repo now
  pub answer : Result (List ℕ) RunRefusal
  pub is : text ≡ running answer
  pub runs : Runs s.folder_tells s.files s.disk_tells s.seen s.entry s.exit repo now answer

pub record IsForNone (s : Sight) (words : List (List ℕ)) (text : Result (List ℕ) Refusal) : Type 0 where
  pub same : s.same_disk
  pub keeps : KeepsReadings store_bytes s.entry s.exit
  pub refused : ((text ≡ Err Usage) × IsUsage words) ⊎ ((text ≡ Err Memory) × ¬ (IsUsage words))

abbrev pub IsAnswered : Sight → List (List ℕ) → Result (List ℕ) Refusal → Type 0
IsAnswered s words text = IsForPlan s words text ⊎ (IsForImport s words text ⊎ (IsForShow s words text ⊎ (IsForRun s words text ⊎ IsForNone s words text)))
