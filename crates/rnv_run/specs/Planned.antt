-- A run that is planned before anything is written, and what is done of it.
use Rattle.std.specs.Prelude.{◌≡◌, ℕ, List, [], ◌++◌, Some}
use Rattle.rnv_base.specs.Files.{NamedFile}
use Rattle.rnv_desired.specs.Givens.{IsGiven}
use Rattle.rnv_repo.specs.Store.{after, known}
use Rattle.rnv_repo.specs.declared.write.Write.{Write}
use Rattle.rnv_outcome.specs.Given.{Given}
use Rattle.rnv_outcome.specs.Law.{IsFit}
use Rattle.rnv_outcome.specs.Steps.{steps}
use Rattle.rnv_run.specs.declared.planning.PlannedRun.{PlannedRun}
use Rattle.rnv_run.specs.declared.planning.Summary.{Summary}
use Rattle.rnv_run.specs.Repository.{IsRun}
use Rattle.rnv_run.specs.Run.{LeavesOutcome}

-- its writes are those of a run that is given this, over a repository that stands behind some writes
pub record IsPlannedBy (g : Given) (old : List Write) (plan : PlannedRun) : Type 0 where
  pub there : known plan.repo.name (after old []) ≡ Some plan.repo
  pub fit : IsFit g
  pub is : plan.summary.writes ≡ steps g plan.repo

-- it is the run of the repository of a name at a moment, by what the folder and its base give
pub record IsPlanned (tells : Type 0) (files : List NamedFile) (name : List ℕ) (moment : ℕ) (old : List Write) (plan : PlannedRun) : Type 0 where
  pub named : plan.repo.name ≡ name
  pub at : plan.summary.moment ≡ moment
  pub given : Given
  pub is_given : IsGiven tells files plan.repo.files moment given
  pub by : IsPlannedBy given old plan

-- the run of a repository was done, all writes that the summary tells, and left its outcome
pub record IsRunMade (tells : Type 0) (files : List NamedFile) (name : List ℕ) (moment : ℕ) (old new : List Write) (s : Summary) : Type 0 where
  pub at : s.moment ≡ moment
  pub run : IsRun tells files name moment old s.writes
  pub all : new ≡ old ++ s.writes
  pub leaves : LeavesOutcome run.given name run.repo new
