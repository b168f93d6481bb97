-- What an operator's folder gives for a repository.
use Rattle.std.specs.Prelude.{◌≡◌, ◌<◌, ◌≤◌, ℕ, List, length, map, codes}
use Rattle.rnv_base.specs.Files.{NamedFile}
use Rattle.rnv_base.specs.Limits.{most_items}
use Rattle.rnv_repo.specs.Files.{MarkedFile}
use Rattle.rnv_checkout.specs.Base.{folder_of, IsBase, IsWithin}
use Rattle.rnv_checkout.specs.Refusal.{HasWrong}
use Rattle.rnv_checkout.specs.declared.error.BaseError.TheVariants as of_base
use Rattle.rnv_pick.specs.declared.update.Update.{Update}
use Rattle.rnv_plan.specs.declared.error.RunError.{RunError}
use Rattle.rnv_plan.specs.declared.error.RunError.TheVariants.{UnknownRepo, Limit}
use Rattle.rnv_plan.specs.declared.inputs.Planned.{Planned}
use Rattle.rnv_plan.specs.declared.group.Group.{Group}
use Rattle.rnv_plan.specs.Gather.{IsGathered}
use Rattle.rnv_plan.specs.Kept.{kept_updates}
use Rattle.rnv_plan.specs.Refusal.{IsRefusal}
use Rattle.rnv_plan.specs.Items.{AreGroups}

-- a file that was never changed
abbrev pub unchanged : NamedFile → MarkedFile
unchanged f = record { path = f.path; bytes = f.bytes; changed = 0 }

-- the files of the repository's folder as a base
pub record IsFolderBase (repo : List ℕ) (files : List NamedFile) (base : List MarkedFile) : Type 0 where
  pub kept : List NamedFile
  pub passed : ℕ
  pub read : IsBase files (folder_of repo) kept passed
  pub within : IsWithin kept
  pub same : base ≡ map unchanged kept

-- what is gathered of it for a moment
pub record IsGatheredOf (repo : List ℕ) (moment : ℕ) (files : List NamedFile) (planned : Planned) : Type 0 where
  pub at : planned.inputs.moment ≡ moment
  pub base : IsFolderBase repo files planned.files
  pub gathered : IsGathered files moment planned.files planned.inputs.picked

-- why it is not gathered, in order: the base, and what is in it
pub data IsFolderRefusal (repo : List ℕ) (files : List NamedFile) (error : RunError) : Type 0 where
  large : (which : List ℕ) (number : ℕ) → HasWrong files (folder_of repo) (of_base.Limit which number) → error ≡ Limit which number → IsFolderRefusal repo files error
  unknown : HasWrong files (folder_of repo) of_base.UnknownRepo → error ≡ UnknownRepo → IsFolderRefusal repo files error
  of_files : (base : List MarkedFile) → IsFolderBase repo files base → IsRefusal files base error → IsFolderRefusal repo files error

-- ---- its items

-- these are the items of the updates, at most 5,000
pub record AreFewGroups (updates : List Update) (items : List Group) : Type 0 where
  pub are_items : AreGroups updates items
  pub few : length items ≤ most_items

-- the items of the updates are more than 5,000
pub record HaveManyGroups (updates : List Update) (error : RunError) : Type 0 where
  pub items : List Group
  pub are_items : AreGroups updates items
  pub many : most_items < length items
  pub same : error ≡ Limit (codes "items") most_items

-- the items that the folder gives for the repository at a moment
pub record IsPlanned (repo : List ℕ) (moment : ℕ) (files : List NamedFile) (items : List Group) : Type 0 where
  pub planned : Planned
  pub gathered : IsGatheredOf repo moment files planned
  pub few : AreFewGroups (kept_updates planned.inputs.picked) items

-- why it gives none
pub data IsPlanRefusal (repo : List ℕ) (moment : ℕ) (files : List NamedFile) (error : RunError) : Type 0 where
  not_gathered : IsFolderRefusal repo files error → IsPlanRefusal repo moment files error
  many_items : (planned : Planned) → IsGatheredOf repo moment files planned → HaveManyGroups (kept_updates planned.inputs.picked) error → IsPlanRefusal repo moment files error
