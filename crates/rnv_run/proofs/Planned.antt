-- What a planned run makes, once it is done or refused.
use Rattle.std.proofs.Common.{◌≡◌, ◌≢◌, inr, ℕ, List, [], ◌++◌, length, None, Some, Result, Ok, Err, IfOk, OnOk, refl, sym, ap, subst, ◌∙◌}
use Rattle.std.specs.List.{AllByRecursion}
use Rattle.rnv_base.specs.Files.{NamedFile}
use Rattle.rnv_desired.specs.Givens.{IsGiven}
use Rattle.rnv_disk.specs.Stops.{Past}
use Rattle.rnv_repo.specs.Store.{ArePermitted, after, known}
use Rattle.rnv_repo.specs.WellFormed.{IsOrderly, IsWellFormed}
use Rattle.rnv_repo.specs.declared.repo.Repo.{Repo}
use Rattle.rnv_repo.specs.declared.write.Write.{Write}
use Rattle.rnv_outcome.specs.Given.{Given}
use Rattle.rnv_outcome.specs.Steps.{steps}
use Rattle.rnv_plan.specs.declared.error.RunError.{RunError}
use Rattle.rnv_forge.specs.Forge.{LeavesWrites}
use Rattle.rnv_run.specs.declared.planning.PlannedRun.{PlannedRun}
use Rattle.rnv_run.specs.declared.planning.Summary.{Summary}
use Rattle.rnv_run.specs.Begun.{BeginsOrStays}
use Rattle.rnv_run.specs.Front.{IsFront}
use Rattle.rnv_run.specs.Planned.{IsPlanned, IsPlannedBy, IsRunMade}
use Rattle.rnv_run.specs.Repository.{IfCaused, IsOfRepo, IsRepoRefusal, IsRun, IsRunDone}
use Rattle.rnv_run.specs.Run.{IsResumed, IsRunRefusal, IsStoppedRun, LeavesOutcome, LeavesRest}
use Rattle.rnv_run.specs.Text.{PrintsRun}
use Rattle.rnv_run.proofs.Stored.{leaves_outcome, leaves_rest, others_stay, plan_law, resumed, resumed_leaves}
use Rattle.rnv_run.proofs.Wanted.{given_under, of_there, refused_known, run_refused, same_given, stopped_given}

module _ (tells : Type 0) (files : List NamedFile) (name : List ℕ) (moment : ℕ) (old : List Write) (plan : PlannedRun) (is : IsPlanned tells files name moment old plan) where
  pub there_named : known name (after old []) ≡ Some plan.repo
  there_named = subst (λ (n : List ℕ). known n (after old []) ≡ Some plan.repo) is.named is.by.there

  abbrev pub run_of : IsRun tells files name moment old plan.summary.writes
  run_of = record { repo = plan.repo; there = there_named; given = is.given; is_given = is.is_given; is = is.by.is }

  told_run : tells → IsRun (Unit {0}) files name moment old plan.summary.writes
  told_run t = record { repo = plan.repo; there = there_named; given = is.given; is_given = given_under tells (Unit {0}) files plan.repo.files moment is.given (λ u. t) is.is_given; is = is.by.is }

  -- there is such a repository
  pub not_unknown : ¬ (known name (after old []) ≡ None)
  not_unknown none = let both : None ≡ Some plan.repo = sym none ∙ there_named in absurd (cc both)

  -- one run was begun
  pub begun_of : (limit : ℕ) (past new : Past) → LeavesWrites limit past new (IsFront old plan.summary.writes 0) → BeginsOrStays limit (IsRun tells files name moment) past new old
  begun_of limit past new leaves = inr (plan.summary.writes, run_of, leaves)

  left_named : (new : List Write) → LeavesOutcome is.given plan.repo.name plan.repo new → LeavesOutcome is.given name plan.repo new
  left_named new leaves = subst (λ (n : List ℕ). LeavesOutcome is.given n plan.repo new) is.named leaves

  -- it was done
  pub made_of : (new : List Write) (s : Summary) → s ≡ plan.summary → new ≡ old ++ plan.summary.writes → LeavesOutcome is.given plan.repo.name plan.repo new → IsRunMade tells files name moment old new s
  made_of new s same all leaves =
      subst (λ (t : Summary). IsRunMade tells files name moment old new t) (sym same) (record { at = is.at; run = run_of; all = all; leaves = left_named new leaves })

  pub made_from : (r : Result Summary RunError) (new : List Write) → IfOk r (λ s. s ≡ plan.summary) → OnOk r (new ≡ old ++ plan.summary.writes) → OnOk r (LeavesOutcome is.given plan.repo.name plan.repo new) → IfOk r (IsRunMade tells files name moment old new)
  made_from (Ok s) new did all leaves = made_of new s did all leaves
  made_from (Err e) new did all leaves = tt

  -- and its text was made
  pub printed_of : (new : List Write) (text : List ℕ) → new ≡ old ++ plan.summary.writes → LeavesOutcome is.given plan.repo.name plan.repo new → PrintsRun plan.summary.moment plan.repo plan.summary.writes text
      → IsRunDone tells files name moment old new text
  printed_of new text all leaves prints =
      record { ws = plan.summary.writes; run = run_of; all = all; leaves = left_named new leaves; prints = subst (λ (m : ℕ). PrintsRun m plan.repo plan.summary.writes text) is.at prints }

  -- it was refused
  pub caused_of : tells → (limit : ℕ) (error : RunError) → IsRunRefusal limit (old ++ plan.summary.writes) error → IfCaused (IsRepoRefusal files name moment limit old) error
  caused_of t limit error refused = run_refused (Unit {0}) files name moment limit old plan.summary.writes error (told_run t) refused

  pub refused_there : (limit : ℕ) (error : RunError) → IsRunRefusal limit (old ++ plan.summary.writes) error → IsOfRepo name old error
  refused_there limit error refused = of_there name old plan.repo there_named error (refused_known limit (old ++ plan.summary.writes) error refused)

  -- where an earlier run of this repository was stopped, it was given the same as this one
  module _ (more : List Write) (fits : AllByRecursion IsWellFormed (old ++ more)) (permitted : ArePermitted (old ++ more) []) (t : tells) (start : List Write) (first : Repo) (g : Given) (us vs : List Write)
      (wish : IsGiven tells files first.files moment g) (s : IsStoppedRun g name start first us vs old) where
    pub same_of : is.given ≡ g
    same_of = same_given moment tells files name plan.repo is.given g old more fits permitted is.by.there is.named is.is_given start first us vs wish s t

    pub stopped_of : IsStoppedRun is.given plan.repo.name start first us vs old
    stopped_of = stopped_given moment tells files name plan.repo is.given g old more fits permitted is.by.there is.named is.is_given start first us vs wish s t

-- ---- what its writes do, by what it is given

module _ (old more : List Write) (fits : AllByRecursion IsWellFormed (old ++ more)) (permitted : ArePermitted (old ++ more) []) (g : Given) (plan : PlannedRun) (by : IsPlannedBy g old plan) where
  pub orderly_by : AllByRecursion IsOrderly plan.summary.writes
  orderly_by = subst (λ (l : List Write). AllByRecursion IsOrderly l) (sym by.is) (plan_law g by.fit plan.repo old more fits permitted by.there).orderly

  pub permitted_by : ArePermitted plan.summary.writes (after old [])
  permitted_by = subst (λ (l : List Write). ArePermitted l (after old [])) (sym by.is) (plan_law g by.fit plan.repo old more fits permitted by.there).permitted

  all_by : (new : List Write) → new ≡ old ++ plan.summary.writes → new ≡ old ++ steps g plan.repo
  all_by new all = all ∙ ap (λ (l : List Write). old ++ l) by.is

  pub outcome_by : (new : List Write) → new ≡ old ++ plan.summary.writes → LeavesOutcome g plan.repo.name plan.repo new
  outcome_by new all = leaves_outcome g by.fit plan.repo old more fits permitted by.there new (all_by new all)

  pub others_by : (new : List Write) → new ≡ old ++ plan.summary.writes → (other : List ℕ) → other ≢ plan.repo.name → known other (after new []) ≡ known other (after old [])
  others_by new all = others_stay g by.fit plan.repo old more fits permitted by.there new (all_by new all)

  pub rest_by : (limit : ℕ) (us vs : List Write) → plan.summary.writes ≡ us ++ vs → LeavesRest g plan.repo old limit us vs
  rest_by limit us vs e = leaves_rest g by.fit plan.repo old more fits permitted by.there limit us vs (sym by.is ∙ e)

  module _ (start : List Write) (first : Repo) (us vs : List Write) (s : IsStoppedRun g plan.repo.name start first us vs old) where
    pub resumed_by : (new : List Write) → new ≡ old ++ plan.summary.writes → IsResumed g plan.repo.name start first us vs new
    resumed_by new all = resumed g by.fit plan.repo old more fits permitted by.there start first us vs s new (all_by new all)

    pub leaves_by : (limit : ℕ) (past new : Past) → LeavesWrites limit past new (IsFront old plan.summary.writes 0) → LeavesWrites limit past new (IsFront start (us ++ vs) (length us))
    leaves_by limit past new run =
        resumed_leaves g by.fit plan.repo old more fits permitted by.there start first us vs s limit past new
        (subst (λ (l : List Write). LeavesWrites limit past new (IsFront old l 0)) by.is run)
