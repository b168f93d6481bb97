-- What the definitions of items and refusals amount to.
use Rattle.std.specs.Prelude.{◌≡◌, ℕ, List}
use Rattle.rnv_base.specs.Files.{NamedFile}
use Rattle.rnv_pick.specs.declared.update.Update.{Update}
use Rattle.rnv_plan.specs.declared.error.RunError.{RunError}
use Rattle.rnv_plan.specs.declared.group.Group.{Group}
use Rattle.rnv_plan.specs.Items.{AreGroups}
use Rattle.rnv_plan.specs.Plan.{IsPlanned, IsPlanRefusal}

-- a list of updates has one list of items at most
abbrev pub GroupsAreUnique : Type 0
GroupsAreUnique = (updates : List Update) (xs ys : List Group) → AreGroups updates xs → AreGroups updates ys → xs ≡ ys

-- a repository of a folder has one refusal at most at a moment, and none where it has a plan
pub record HasOneAnswer (repo : List ℕ) (moment : ℕ) (files : List NamedFile) : Type 0 where
  pub one : (e f : RunError) → IsPlanRefusal repo moment files e → IsPlanRefusal repo moment files f → e ≡ f
  pub none : (items : List Group) (e : RunError) → IsPlanned repo moment files items → ¬ (IsPlanRefusal repo moment files e)

abbrev pub RefusalsAreOne : Type 0
RefusalsAreOne = (repo : List ℕ) (moment : ℕ) (files : List NamedFile) → HasOneAnswer repo moment files
