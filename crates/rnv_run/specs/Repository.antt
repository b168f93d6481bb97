-- A run of a repository of the store, by what the folder, its base and the moment give.
use Rattle.std.specs.Prelude.{◌≡◌, ◌<◌, ℕ, List, [], ◌++◌, Some, None, codes}
use Rattle.rnv_base.specs.Files.{NamedFile}
use Rattle.rnv_desired.specs.Givens.{IsGiven}
use Rattle.rnv_desired.specs.Kept.{kept_updates}
use Rattle.rnv_repo.specs.Files.{MarkedFile}
use Rattle.rnv_repo.specs.Store.{after, known}
use Rattle.rnv_repo.specs.declared.repo.Repo.{Repo}
use Rattle.rnv_repo.specs.declared.write.Write.{Write}
use Rattle.rnv_outcome.specs.Given.{Given}
use Rattle.rnv_outcome.specs.Steps.{steps}
use Rattle.rnv_plan.specs.declared.inputs.PickedFile.{PickedFile}
use Rattle.rnv_plan.specs.declared.error.RunError.{RunError}
use Rattle.rnv_plan.specs.declared.error.RunError.TheVariants.{Memory, FolderFault, DiskFault, UnknownRepo, NotBuilt, Limit, IndexRefused}
use Rattle.rnv_plan.specs.Gather.{IsGathered}
use Rattle.rnv_plan.specs.Plan.{HaveManyGroups}
use Rattle.rnv_plan.specs.Refusal.{IsRefusal}
use Rattle.rnv_forge.specs.Writes.{length_of}
use Rattle.rnv_run.specs.Run.{LeavesOutcome}
use Rattle.rnv_run.specs.Text.{PrintsRun}

-- A run behind the writes that stand: of the repository of a name, with what its base is given.
pub record IsRun (tells : Type 0) (files : List NamedFile) (name : List ℕ) (moment : ℕ) (old ws : List Write) : Type 0 where
  pub repo : Repo
  pub there : known name (after old []) ≡ Some repo
  pub given : Given
  pub is_given : IsGiven tells files repo.files moment given
  pub is : ws ≡ steps given repo

-- the run, the outcome that it leaves, and its text
pub record IsRunDone (tells : Type 0) (files : List NamedFile) (name : List ℕ) (moment : ℕ) (old new : List Write) (text : List ℕ) : Type 0 where
  pub ws : List Write
  pub run : IsRun tells files name moment old ws
  pub all : new ≡ old ++ ws
  pub leaves : LeavesOutcome run.given name run.repo new
  pub prints : PrintsRun moment run.repo ws text

-- the repository of a name is there behind some writes
pub record IsThere (name : List ℕ) (old : List Write) : Type 0 where
  pub repo : Repo
  pub there : known name (after old []) ≡ Some repo

-- ---- refusals

-- a fact of the error, but for want of memory and faults of the folder and the disk
abbrev pub IfCaused : (RunError → Type 0) → RunError → Type 0
IfCaused P Memory = Unit {0}
IfCaused P FolderFault = Unit {0}
IfCaused P DiskFault = Unit {0}
IfCaused P UnknownRepo = P UnknownRepo
IfCaused P (NotBuilt path) = P (NotBuilt path)
IfCaused P (Limit which number) = P (Limit which number)
IfCaused P (IndexRefused file line) = P (IndexRefused file line)

-- why a base wants no items: what is gathered of it is refused, or the items are more than 5,000
pub data IsBaseRefusal (files : List NamedFile) (moment : ℕ) (base : List MarkedFile) (error : RunError) : Type 0 where
  not_gathered : IsRefusal files base error → IsBaseRefusal files moment base error
  many_items : (picked : List PickedFile) → IsGathered files moment base picked → HaveManyGroups (kept_updates picked) error → IsBaseRefusal files moment base error

-- why nothing is written for the repository of a name, in order: there is none, its base wants no items, the journal has no room
pub data IsRepoRefusal (files : List NamedFile) (name : List ℕ) (moment limit : ℕ) (old : List Write) (error : RunError) : Type 0 where
  unknown : known name (after old []) ≡ None → error ≡ UnknownRepo → IsRepoRefusal files name moment limit old error
  of_base : (repo : Repo) → known name (after old []) ≡ Some repo → IsBaseRefusal files moment repo.files error → IsRepoRefusal files name moment limit old error
  no_room : (ws : List Write) → IsRun (Unit {0}) files name moment old ws → limit < length_of (old ++ ws) → error ≡ Limit (codes "journal") limit → IsRepoRefusal files name moment limit old error

-- why there are no items: there is no such repository, or its base wants none
pub data IsUnwanted (files : List NamedFile) (name : List ℕ) (moment : ℕ) (old : List Write) (error : RunError) : Type 0 where
  no_repo : known name (after old []) ≡ None → error ≡ UnknownRepo → IsUnwanted files name moment old error
  no_items : (repo : Repo) → known name (after old []) ≡ Some repo → IsBaseRefusal files moment repo.files error → IsUnwanted files name moment old error

-- What a refusal tells of the repository of a name behind the writes that stand: there is none, or it is there, as behind every cause but
-- want of memory and a fault of the disk.
abbrev pub IsOfRepo : List ℕ → List Write → RunError → Type 0
IsOfRepo name old Memory = Unit {0}
IsOfRepo name old DiskFault = Unit {0}
IsOfRepo name old UnknownRepo = known name (after old []) ≡ None
IsOfRepo name old FolderFault = IsThere name old
IsOfRepo name old (NotBuilt path) = IsThere name old
IsOfRepo name old (Limit which number) = IsThere name old
IsOfRepo name old (IndexRefused file line) = IsThere name old
