-- How the program ends.
use Rattle.std.specs.Prelude.{◌≡◌, ◌⊎◌, ℕ, List, [], ◌∷◌, ◌++◌, take, true, ◌==◌, if◌then◌else◌, Option, Some, None, Result, Ok, Err, codes}
use Rattle.std.specs.Fmt.{decimal}
use Rattle.std.specs.List.{list_any}
use Rattle.rnv_base.specs.Causes.{Rose}
use Rattle.rnv_app.specs.declared.refusal.Refusal.{Refusal}
use Rattle.rnv_app.specs.declared.refusal.Refusal.TheVariants.{Memory, Usage, UnknownRepo, FolderFault, DiskFault, NotAJournal, Limit, IndexRefused, NotBuilt}
use Rattle.rnv_commands.specs.declared.error.CommandError.{CommandError}
use Rattle.rnv_commands.specs.declared.error.CommandError.TheVariants as command
use Rattle.rnv_plan.specs.declared.error.RunError.{RunError}
use Rattle.rnv_plan.specs.declared.error.RunError.TheVariants as run
use Rattle.rnv_run.specs.declared.on_disk.RunRefusal.{RunRefusal}
use Rattle.rnv_run.specs.declared.on_disk.RunRefusal.TheVariants as of_run

-- the status of a refusal
abbrev pub code_of : Refusal → ℕ
code_of Memory = 1
code_of Usage = 2
code_of UnknownRepo = 3
code_of FolderFault = 5
code_of DiskFault = 7
code_of (NotAJournal offset) = 8
code_of (Limit which number) = 11
code_of (IndexRefused file line) = 13
code_of (NotBuilt path) = 15

-- the refusal of a command over the store
abbrev pub refusal_of : CommandError → Refusal
refusal_of command.Memory = Memory
refusal_of command.UnknownRepo = UnknownRepo
refusal_of command.FolderFault = FolderFault
refusal_of command.DiskFault = DiskFault
refusal_of (command.NotAJournal offset) = NotAJournal offset
refusal_of (command.Limit which number) = Limit which number

-- the refusal of a plan or a run, and its status
abbrev pub plan_refusal_of : RunError → Refusal
plan_refusal_of run.Memory = Memory
plan_refusal_of run.FolderFault = FolderFault
plan_refusal_of run.DiskFault = DiskFault
plan_refusal_of run.UnknownRepo = UnknownRepo
plan_refusal_of (run.Limit which number) = Limit which number
plan_refusal_of (run.IndexRefused file line) = IndexRefused file line
plan_refusal_of (run.NotBuilt path) = NotBuilt path

abbrev pub status_of : RunError → ℕ
status_of error = code_of (plan_refusal_of error)

-- the refusal of a run over a disk
abbrev pub run_refusal_of : RunRefusal → Refusal
run_refusal_of (of_run.NotAJournal offset) = NotAJournal offset
run_refusal_of (of_run.Ended error) = plan_refusal_of error

abbrev pub not_yet : List ℕ
not_yet = codes " is not built yet" ++ 10 ∷ []

abbrev pub not_built_text : List ℕ → List ℕ
not_built_text path = codes "error 15: " ++ (path ++ not_yet)

abbrev pub damaged_text : ℕ → List ℕ
damaged_text offset = codes "error 8: not a journal at " ++ (decimal offset ++ 10 ∷ [])

abbrev pub above_text : List ℕ → ℕ → List ℕ
above_text which number = codes "error 11: more than " ++ (decimal number ++ (codes " " ++ (which ++ 10 ∷ [])))

abbrev pub index_text : List ℕ → ℕ → List ℕ
index_text file line = codes "error 13: " ++ (file ++ (codes " line " ++ (decimal line ++ 10 ∷ [])))

abbrev pub memory_line : List ℕ
memory_line = codes "error 1: out of memory" ++ 10 ∷ []

abbrev pub usage_line : List ℕ
usage_line = codes "error 2: usage" ++ 10 ∷ []

abbrev pub unknown_line : List ℕ
unknown_line = codes "error 3: unknown repository" ++ 10 ∷ []

abbrev pub folder_line : List ℕ
folder_line = codes "error 5: folder fault" ++ 10 ∷ []

abbrev pub disk_line : List ℕ
disk_line = codes "error 7: disk fault" ++ 10 ∷ []

-- the line that is printed for a refusal
abbrev pub refusal_text : Refusal → List ℕ
refusal_text Memory = memory_line
refusal_text Usage = usage_line
refusal_text UnknownRepo = unknown_line
refusal_text FolderFault = folder_line
refusal_text DiskFault = disk_line
refusal_text (NotAJournal offset) = damaged_text offset
refusal_text (Limit which number) = above_text which number
refusal_text (IndexRefused file line) = index_text file line
refusal_text (NotBuilt path) = not_built_text path

-- the statuses that there are
abbrev pub IsStatus : ℕ → Type 0
IsStatus code = list_any (λ s. s == code) (0 ∷ 1 ∷ 2 ∷ 3 ∷ 5 ∷ 7 ∷ 8 ∷ 10 ∷ 11 ∷ 13 ∷ 15 ∷ []) ≡ true

-- the statuses of a plan that have a cause in the folder's files
abbrev pub IsCause : ℕ → Type 0
IsCause code = list_any (λ s. s == code) (3 ∷ 11 ∷ 13 ∷ 15 ∷ []) ≡ true

-- this status, unless memory runs out or the folder fails before
abbrev pub IsCauseOr : ℕ → ℕ → Type 0
IsCauseOr status code = list_any (λ s. s == code) (1 ∷ 5 ∷ status ∷ []) ≡ true

-- the line of a status that names nothing
abbrev pub line_of : ℕ → Option (List ℕ)
line_of code =
    if code == 1 then Some memory_line else (if code == 2 then Some usage_line else (if code == 3 then Some unknown_line
    else (if code == 5 then Some folder_line else (if code == 7 then Some disk_line else None))))

-- a front part of a line was written, and the whole line where no fault was counted
pub record IsLine (before after : List ℕ) (faults now : ℕ) (line : List ℕ) : Type 0 where
  pub count : ℕ
  pub written : after ≡ before ++ take count line
  pub whole : ¬ (Rose faults now) → after ≡ before ++ line

-- a front part of a text was written, and a fault was counted
pub record IsWrittenInPart (tells : Type 0) (before after : List ℕ) (faults now : ℕ) (text : List ℕ) (code : ℕ) : Type 0 where
  pub status : code ≡ 10
  pub rose : Rose faults now
  pub part : tells → (count : ℕ) × (after ≡ before ++ take count text)

-- the whole text was written
pub record IsWritten (tells : Type 0) (before after text : List ℕ) (code : ℕ) : Type 0 where
  pub status : code ≡ 0
  pub whole : tells → after ≡ before ++ text

-- the line of a refusal was written as far as the output took it
pub record IsRefused (tells : Type 0) (before after : List ℕ) (faults now : ℕ) (refusal : Refusal) (code : ℕ) : Type 0 where
  pub status : code ≡ code_of refusal
  pub line : tells → IsLine before after faults now (refusal_text refusal)

-- What is written and which status comes of a text, or of a refusal: 0 and the text, or 10 and a front part of it; or the refusal's status and line.
abbrev pub IsTold : Type 0 → List ℕ → List ℕ → ℕ → ℕ → Result (List ℕ) Refusal → ℕ → Type 0
IsTold tells before after faults now (Ok text) code = IsWritten tells before after text code ⊎ IsWrittenInPart tells before after faults now text code
IsTold tells before after faults now (Err refusal) code = IsRefused tells before after faults now refusal code
