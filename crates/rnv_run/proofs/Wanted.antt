-- What the base of a repository is given, and why it is given nothing.
use Rattle.std.proofs.Common.{◌≡◌, ◌≢◌, ◌⊎◌, append_assoc, inl, inr, ℕ, List, [], ◌++◌, length, None, Some, Result, Ok, Err, IfErr, IfOk, IsErrOf, OnOk, codes, refl, sym, ap, subst, ◌∙◌, arith}
use Rattle.std.specs.List.{AllByRecursion}
use Rattle.std.proofs.lemmas.List.{length-append, take_at}
use Rattle.rnv_base.specs.Files.{NamedFile}
use Rattle.rnv_base.specs.Moment.{IsMoment}
use Rattle.rnv_desired.specs.Desired.{AreDesired}
use Rattle.rnv_desired.specs.Givens.{IsGiven}
use Rattle.rnv_desired.proofs.Apart.{given_fit, one_given}
use Rattle.rnv_disk.specs.Stops.{Past}
use Rattle.rnv_repo.specs.Files.{MarkedFile}
use Rattle.rnv_repo.specs.Store.{ArePermitted, IsSound, IsSoundStore, after, known}
use Rattle.rnv_repo.specs.WellFormed.{AreInOrder, IsWellFormed}
use Rattle.rnv_repo.specs.declared.repo.Repo.{Repo}
use Rattle.rnv_repo.specs.declared.write.Write.{Write}
use Rattle.rnv_outcome.proofs.Named.{all_at}
use Rattle.rnv_outcome.proofs.OneWrite.{runs, whole_run}
use Rattle.rnv_outcome.specs.declared.item.Item.{Item}
use Rattle.rnv_outcome.specs.Given.{Given}
use Rattle.rnv_outcome.specs.Items.{edited_files}
use Rattle.rnv_outcome.specs.Law.{IsFit, after_in}
use Rattle.rnv_outcome.specs.Outcome.{IsOutcome}
use Rattle.rnv_outcome.specs.Steps.{steps}
use Rattle.rnv_plan.specs.declared.error.RunError.{RunError}
use Rattle.rnv_plan.specs.declared.error.RunError.TheVariants.{Memory, FolderFault, DiskFault, UnknownRepo, NotBuilt, Limit, IndexRefused}
use Rattle.rnv_plan.specs.declared.inputs.PickedFile.{PickedFile}
use Rattle.rnv_plan.specs.Gather.{AreFit, IsGathered}
use Rattle.rnv_plan.specs.Refusal.{IfTold}
use Rattle.rnv_steps.specs.declared.terms.Terms.{Terms}
use Rattle.rnv_steps.specs.Told.{HaveBranches, IsTold}
use Rattle.rnv_forge.specs.Forge.{LeavesWrites}
use Rattle.rnv_forge.proofs.Uses.{leaves_weaker}
use Rattle.rnv_run.specs.Front.{IsFront}
use Rattle.rnv_run.specs.Repository.{IfCaused, IsOfRepo, IsRepoRefusal, IsRun, IsRunDone, IsThere, IsUnwanted, no_items, no_repo, no_room, of_base, unknown}
use Rattle.rnv_run.specs.Run.{IsRunRefusal, IsStoppedRun, IsUnknown, LeavesOutcome}
use Rattle.rnv_run.specs.Stage.{IsPlain, given_by, plain_terms}
use Rattle.rnv_run.specs.Text.{PrintsRun}
use Rattle.rnv_run.proofs.Stored.{same_repo, sound_after}

-- the files of a repository that is found
pub found_order : (repo : Repo) (old : List Write) → IsSoundStore (after old []) → known repo.name (after old []) ≡ Some repo → AreInOrder (λ f. f.path) repo.files
found_order repo old sound there = (all_at (λ (r : Repo). r.name) IsSound repo.name (after old []) repo sound.each there).files

-- ---- no repository

module _ (name : List ℕ) (ws : List Write) where
  pub unknown_told : (files : List NamedFile) (moment : ℕ) (error : RunError) → IsUnknown name ws error → IfTold (IsUnwanted files name moment ws) error
  unknown_told files moment Memory u = tt
  unknown_told files moment FolderFault u = tt
  unknown_told files moment DiskFault u = absurd u
  unknown_told files moment UnknownRepo u = no_repo u refl
  unknown_told files moment (NotBuilt path) u = absurd u
  unknown_told files moment (Limit which number) u = absurd u
  unknown_told files moment (IndexRefused file line) u = absurd u

  pub unknown_disk : (error : RunError) → IsUnknown name ws error → error ≢ DiskFault
  unknown_disk Memory u e = absurd (cc e)
  unknown_disk FolderFault u e = absurd u
  unknown_disk DiskFault u e = absurd u
  unknown_disk UnknownRepo u e = absurd (cc e)
  unknown_disk (NotBuilt path) u e = absurd u
  unknown_disk (Limit which number) u e = absurd u
  unknown_disk (IndexRefused file line) u e = absurd u

  pub unknown_folder : (error : RunError) → IsUnknown name ws error → error ≢ FolderFault
  unknown_folder Memory u e = absurd (cc e)
  unknown_folder FolderFault u e = absurd u
  unknown_folder DiskFault u e = absurd u
  unknown_folder UnknownRepo u e = absurd (cc e)
  unknown_folder (NotBuilt path) u e = absurd u
  unknown_folder (Limit which number) u e = absurd u
  unknown_folder (IndexRefused file line) u e = absurd u

  pub never : known name (after ws []) ≡ None → ¬ (IsThere name ws)
  never none t = let both : None ≡ Some t.repo = sym none ∙ t.there in absurd (cc both)

  pub unknown_of : (error : RunError) → IsUnknown name ws error → IsOfRepo name ws error
  unknown_of Memory u = tt
  unknown_of FolderFault u = absurd u
  unknown_of DiskFault u = absurd u
  unknown_of UnknownRepo u = u
  unknown_of (NotBuilt path) u = absurd u
  unknown_of (Limit which number) u = absurd u
  unknown_of (IndexRefused file line) u = absurd u

  -- behind the look-up of a repository that is there
  pub of_there : (repo : Repo) → known name (after ws []) ≡ Some repo → (error : RunError) → error ≢ UnknownRepo → IsOfRepo name ws error
  of_there repo there Memory ne = tt
  of_there repo there FolderFault ne = record { repo = repo; there = there }
  of_there repo there DiskFault ne = tt
  of_there repo there UnknownRepo ne = absurd (ne refl)
  of_there repo there (NotBuilt path) ne = record { repo = repo; there = there }
  of_there repo there (Limit which number) ne = record { repo = repo; there = there }
  of_there repo there (IndexRefused file line) ne = record { repo = repo; there = there }

  pub not_of_repo : (repo : Repo) → known name (after ws []) ≡ Some repo → {T : Type 0} (r : Result T RunError) → r ≢ Err UnknownRepo → IfErr r (IsOfRepo name ws)
  not_of_repo repo there (Ok x) ne = tt
  not_of_repo repo there (Err e) ne = of_there repo there e (λ same. ne (ap Err same))

  -- where there is none
  pub of_none : known name (after ws []) ≡ None → (error : RunError) → error ≢ DiskFault → IsOfRepo name ws error → (error ≡ UnknownRepo) ⊎ (error ≡ Memory)
  of_none none Memory ne u = inr refl
  of_none none FolderFault ne u = absurd (never none u)
  of_none none DiskFault ne u = absurd (ne refl)
  of_none none UnknownRepo ne u = inl refl
  of_none none (NotBuilt path) ne u = absurd (never none u)
  of_none none (Limit which number) ne u = absurd (never none u)
  of_none none (IndexRefused file line) ne u = absurd (never none u)

  pub unknown_answer : {T : Type 0} (r : Result T RunError) (error : RunError) → r ≡ Err error → error ≢ DiskFault → IsOfRepo name ws error → known name (after ws []) ≡ None → IsErrOf r UnknownRepo ⊎ IsErrOf r Memory
  unknown_answer {T} r error is ne u none = by (of_none none error ne u)
    where
      by : (error ≡ UnknownRepo) ⊎ (error ≡ Memory) → IsErrOf r UnknownRepo ⊎ IsErrOf r Memory
      by (inl e) = inl (is ∙ ap Err e)
      by (inr e) = inr (is ∙ ap Err e)

-- ---- refusals of a run

unwanted_cause : (files : List NamedFile) (name : List ℕ) (moment limit : ℕ) (old : List Write) (error : RunError) → IsUnwanted files name moment old error → IsRepoRefusal files name moment limit old error
unwanted_cause files name moment limit old error (no_repo none is) = unknown none is
unwanted_cause files name moment limit old error (no_items repo there cause) = of_base repo there cause

pub told_caused : (files : List NamedFile) (name : List ℕ) (moment limit : ℕ) (old : List Write) (error : RunError) → IfTold (IsUnwanted files name moment old) error → IfCaused (IsRepoRefusal files name moment limit old) error
told_caused files name moment limit old Memory u = tt
told_caused files name moment limit old FolderFault u = tt
told_caused files name moment limit old DiskFault u = tt
told_caused files name moment limit old UnknownRepo u = unwanted_cause files name moment limit old UnknownRepo u
told_caused files name moment limit old (NotBuilt path) u = unwanted_cause files name moment limit old (NotBuilt path) u
told_caused files name moment limit old (Limit which number) u = unwanted_cause files name moment limit old (Limit which number) u
told_caused files name moment limit old (IndexRefused file line) u = unwanted_cause files name moment limit old (IndexRefused file line) u

-- why the writes of a run were not done
pub run_refused : (tells : Type 0) (files : List NamedFile) (name : List ℕ) (moment limit : ℕ) (old ws : List Write) (error : RunError) → IsRun (Unit {0}) files name moment old ws → IsRunRefusal limit (old ++ ws) error
    → IfCaused (IsRepoRefusal files name moment limit old) error
run_refused tells files name moment limit old ws Memory run r = tt
run_refused tells files name moment limit old ws FolderFault run r = absurd r
run_refused tells files name moment limit old ws DiskFault run r = tt
run_refused tells files name moment limit old ws UnknownRepo run r = absurd r
run_refused tells files name moment limit old ws (NotBuilt path) run r = absurd r
run_refused tells files name moment limit old ws (Limit which number) run r =
    let w : which ≡ codes "journal" = r.1 in
    let n : number ≡ limit = r.2 in
    no_room ws run r.0 cc
run_refused tells files name moment limit old ws (IndexRefused file line) run r = absurd r

pub refused_known : (limit : ℕ) (new : List Write) (error : RunError) → IsRunRefusal limit new error → error ≢ UnknownRepo
refused_known limit new Memory r e = absurd (cc e)
refused_known limit new FolderFault r e = absurd r
refused_known limit new DiskFault r e = absurd (cc e)
refused_known limit new UnknownRepo r e = absurd r
refused_known limit new (NotBuilt path) r e = absurd r
refused_known limit new (Limit which number) r e = absurd (cc e)
refused_known limit new (IndexRefused file line) r e = absurd r

pub if_err : {T : Type 0} (r : Result T RunError) (P Q : RunError → Type 0) → ((e : RunError) → P e → Q e) → IfErr r P → IfErr r Q
if_err (Ok x) P Q f p = tt
if_err (Err e) P Q f p = f e p

-- ---- answers

pub on_ok : {T : Type 0} (r : Result T RunError) (P Q : Type 0) → (P → Q) → OnOk r P → OnOk r Q
on_ok (Ok x) P Q f p = f p
on_ok (Err e) P Q f p = tt

pub on_both : {T : Type 0} (r : Result T RunError) (P Q R : Type 0) → (P → Q → R) → OnOk r P → OnOk r Q → OnOk r R
on_both (Ok x) P Q R f p q = f p q
on_both (Err e) P Q R f p q = tt

-- ---- what is given

-- the terms of a run without limits
pub terms_told : (repo : Repo) (t : Terms) (moment : ℕ) (items : List Item) → t ≡ plain_terms moment → IsTold (given_by t.moment items) repo t items
terms_told repo t moment items is = record { terms = is ∙ ap plain_terms (sym (ap (λ (u : Terms). u.moment) is)); all = refl }

pub plain_fit : (moment : ℕ) (items : List Item) → IsMoment moment → HaveBranches items → AllByRecursion (λ i. AreInOrder (λ f. f.path) (edited_files i.edits)) items → IsFit (given_by moment items)
plain_fit moment items range apart ordered = record { moment = range; distinct = apart; files = ordered; unticked = λ all. refl }

pub plain_given : (moment : ℕ) (items : List Item) → IsPlain (given_by moment items)
plain_given moment items = record { files = λ i. refl; problem = λ i. refl; page = λ all. refl }

pub given_here : (tells : Type 0) (files : List NamedFile) (base : List MarkedFile) (moment at : ℕ) (picked : List PickedFile) (items : List Item) → AreFit base picked → (tells → IsGathered files moment base picked) → AreDesired base picked items → at ≡ moment → IsMoment moment
    → IsGiven tells files base moment (given_by at items)
given_here tells files base moment at picked items fit gathered desired same range = record {
  picked = picked;
  fit = fit;
  gathered = gathered;
  desired = desired;
  at = same;
  in_range = range;
  hourly = refl;
  concurrent = refl;
  branches = refl;
  heedless = refl;
  edits = λ i. refl;
  problem = λ i. refl;
  ticks = λ page. refl;
  page = λ all. refl;
}

-- the same where the folder tells its files under another premise
pub given_under : (one other : Type 0) (files : List NamedFile) (base : List MarkedFile) (moment : ℕ) (g : Given) → (other → one) → IsGiven one files base moment g → IsGiven other files base moment g
given_under one other files base moment g told is = record {
  picked = is.picked;
  fit = is.fit;
  gathered = λ t. is.gathered (told t);
  desired = is.desired;
  at = is.at;
  in_range = is.in_range;
  hourly = is.hourly;
  concurrent = is.concurrent;
  branches = is.branches;
  heedless = is.heedless;
  edits = is.edits;
  problem = is.problem;
  ticks = is.ticks;
  page = is.page;
}

-- ---- what is given is one

-- the first writes of a run leave the base
same_base : (g : Given) (first : Repo) (us vs : List Write) → IsFit g → IsSound first → steps g first ≡ us ++ vs → (after_in us first).files ≡ first.files
same_base g first us vs is_fit sound e =
    let law = runs g first us vs is_fit sound e in
    let out = after_in (steps g first) first in
    let whole : IsOutcome g first out = whole_run g first is_fit sound in
    let left : IsOutcome g (after_in us first) out = (law.outcome out).1 whole in
    sym left.files ∙ whole.files

module _ (moment : ℕ) (tells : Type 0) (files : List NamedFile) (name : List ℕ) (repo : Repo) (h g : Given) (old more : List Write) (fits : AllByRecursion IsWellFormed (old ++ more))
    (permitted : ArePermitted (old ++ more) []) (there : known repo.name (after old []) ≡ Some repo) (named : repo.name ≡ name) (are : IsGiven tells files repo.files moment h)
    (start : List Write) (first : Repo) (us vs : List Write) (wish : IsGiven tells files first.files moment g) (s : IsStoppedRun g name start first us vs old) (t : tells) where
  joined : old ++ more ≡ start ++ (us ++ more)
  joined = ap (λ (l : List Write). l ++ more) s.stands ∙ append_assoc start us more

  first_is_sound : IsSound first
  first_is_sound =
      all_at (λ (r : Repo). r.name) IsSound name (after start []) first
      (sound_after start (us ++ more) (subst (λ (l : List Write). AllByRecursion IsWellFormed l) joined fits) (subst (λ (l : List Write). ArePermitted l []) joined permitted)).each s.there

  told_wish : IsGiven (Unit {0}) files first.files moment g
  told_wish = given_under tells (Unit {0}) files first.files moment g (λ u. t) wish

  is_fit : IsFit g
  is_fit = given_fit files first.files moment g first_is_sound.files told_wish

  stopped_here : IsStoppedRun g repo.name start first us vs old
  stopped_here = subst (λ (n : List ℕ). IsStoppedRun g n start first us vs old) (sym named) s

  base : repo.files ≡ first.files
  base =
      ap (λ (r : Repo). r.files) (same_repo g is_fit repo old more fits permitted there start first us vs stopped_here)
      ∙ same_base g first us vs is_fit first_is_sound s.plan

  -- the earlier run was given the same as this one
  pub same_given : h ≡ g
  same_given = one_given files first.files moment h g (subst (λ (fs : List MarkedFile). IsGiven (Unit {0}) files fs moment h) base (given_under tells (Unit {0}) files repo.files moment h (λ u. t) are)) told_wish

  pub stopped_given : IsStoppedRun h repo.name start first us vs old
  stopped_given = subst (λ (f : Given). IsStoppedRun f repo.name start first us vs old) (sym same_given) stopped_here

-- the same of what was given and another name
pub carried : (P : Given → List ℕ → Type 0) (h g : Given) (from name : List ℕ) → h ≡ g → from ≡ name → P h from → P g name
carried P h g from name e n p = subst (λ (m : List ℕ). P g m) n (subst (λ (f : Given). P f from) e p)

-- ---- stops

pub stopped_still : (g : Given) (name : List ℕ) (start : List Write) (first : Repo) (us vs old : List Write) → IsStoppedRun g name start first us vs old → (limit : ℕ) (past new : Past)
    → LeavesWrites limit past new (λ l. l ≡ old) → LeavesWrites limit past new (IsFront start (us ++ vs) (length us))
stopped_still g name start first us vs old s limit past new leaves = leaves_weaker limit past new (λ l. l ≡ old) (IsFront start (us ++ vs) (length us)) each leaves
  where
    each : (list : List Write) → list ≡ old → IsFront start (us ++ vs) (length us) list
    each list is = record {
      count = length us;
      at_least = omega arith;
      at_most = omega (arith, length-append us vs);
      is = is ∙ (s.stands ∙ ap (λ (l : List Write). start ++ l) (sym (take_at us vs (length us) refl)));
    }
