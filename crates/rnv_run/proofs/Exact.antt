-- A run over an image is done or refused, and refused by one cause.
use Rattle.std.proofs.Common.{◌≡◌, ◌≤◌, ◌<◌, inl, inr, ℕ, List, [], ◌∷◌, ◌++◌, map, Some, None, refl, sym, ◌∙◌, ap, subst, arith}
use Rattle.std.specs.List.{AllByRecursion}
use Rattle.rnv_base.specs.Files.{NamedFile}
use Rattle.rnv_commands.specs.OnDisk.{IsDamaged, IsStored}
use Rattle.rnv_desired.specs.Givens.{IsGiven}
use Rattle.rnv_desired.specs.Kept.{kept_updates}
use Rattle.rnv_desired.proofs.Apart.{one_given}
use Rattle.rnv_desired.proofs.Made.{not_many}
use Rattle.rnv_disk.specs.Images.{Image}
use Rattle.rnv_disk.specs.Stops.{Past}
use Rattle.rnv_repo.specs.Files.{MarkedFile}
use Rattle.rnv_repo.specs.Store.{ArePermitted, after, applied, known}
use Rattle.rnv_repo.specs.WellFormed.{IsWellFormed}
use Rattle.rnv_repo.specs.declared.repo.Repo.{Repo}
use Rattle.rnv_repo.specs.declared.write.Write.{Write}
use Rattle.rnv_journal.proofs.Uses.{one_read, wrong_reads}
use Rattle.rnv_outcome.specs.Given.{Given}
use Rattle.rnv_outcome.specs.Steps.{steps}
use Rattle.rnv_spelling.specs.Spelling.{spelling}
use Rattle.rnv_plan.specs.Plan.{HaveManyGroups}
use Rattle.rnv_plan.specs.declared.error.RunError.{RunError}
use Rattle.rnv_plan.specs.declared.inputs.PickedFile.{PickedFile}
use Rattle.rnv_plan.proofs.Bases.{picked-of}
use Rattle.rnv_plan.proofs.Refused.{gathered-fine, refusal-one}
use Rattle.rnv_forge.specs.Writes.{SpellsNone, length_of}
use Rattle.rnv_run.specs.OnDisk.{HasRun, IsRefusedIn}
use Rattle.rnv_run.specs.Repository.{IsBaseRefusal, IsRepoRefusal, IsRun, many_items, no_room, not_gathered, of_base, unknown}
use Rattle.rnv_run.proofs.Disks.{same_write, same_writes}
use Rattle.rnv_run.proofs.Wanted.{given_under}

-- ---- an image has one store

pub one_stored : (limit : ℕ) (image : Image) (a b : List Write) → IsStored limit image a → IsStored limit image b → a ≡ b
one_stored limit image a b one two = same_writes a b one.well_formed two.well_formed (one_read limit image (map spelling a) (map spelling b) one.read two.read)

-- behind the first of permitted writes no entry is damaged
undamaged : (front old : List Write) (payload : List ℕ) (rest : List (List ℕ)) (store : List Repo) → AllByRecursion IsWellFormed front → AllByRecursion IsWellFormed old → ArePermitted old store → map spelling old ≡ map spelling front ++ payload ∷ rest
    → SpellsNone payload (after front store) → ⊥
undamaged [] [] payload rest store a b permitted e none = absurd (cc e)
undamaged [] (w ∷ ws) payload rest store a b permitted e none = let first : payload ≡ spelling w = cc e in none w b.0 first permitted.0
undamaged (v ∷ vs) [] payload rest store a b permitted e none = absurd (cc e)
undamaged (v ∷ vs) (w ∷ ws) payload rest store a b permitted e none =
    let first : spelling w ≡ spelling v = cc e in
    let others : map spelling ws ≡ map spelling vs ++ payload ∷ rest = cc e in
    let same : w ≡ v = same_write w v b.0 a.0 first in
    undamaged vs ws payload rest (applied v store) a.1 b.1 (subst (λ (x : Write). ArePermitted ws (applied x store)) same permitted.1) others none

pub stored_whole : (limit : ℕ) (image : Image) (old : List Write) (offset : ℕ) → IsStored limit image old → ¬ (IsDamaged limit image offset)
stored_whole limit image old offset stored (inl wrong) = wrong_reads limit image offset (map spelling old) wrong stored.read
stored_whole limit image old offset stored (inr at) =
    let d = at.damaged in
    undamaged d.front old d.payload d.rest [] d.well_formed stored.well_formed stored.permitted (one_read limit image (map spelling old) at.payloads stored.read at.read ∙ d.is) d.no_write

-- ---- a base is given something, or refused by one cause

base_fine : (files : List NamedFile) (base : List MarkedFile) (moment : ℕ) (g : Given) (e : RunError) → IsGiven (Unit {0}) files base moment g → ¬ (IsBaseRefusal files moment base e)
base_fine files base moment g e is (not_gathered r) = gathered-fine files moment base is.picked (is.gathered tt) e r
base_fine files base moment g e is (many_items picked gathered many) =
    not_many (kept_updates is.picked) is.desired.groups is.desired.few e
    (subst (λ (ps : List PickedFile). HaveManyGroups (kept_updates ps) e) (picked-of [] files moment base picked is.picked gathered (is.gathered tt)) many)

base_one : (files : List NamedFile) (moment : ℕ) (base : List MarkedFile) (e f : RunError) → IsBaseRefusal files moment base e → IsBaseRefusal files moment base f → e ≡ f
base_one files moment base e f (not_gathered a) (not_gathered b) = refusal-one files base e f a b
base_one files moment base e f (not_gathered a) (many_items picked gathered many) = absurd (gathered-fine files moment base picked gathered e a)
base_one files moment base e f (many_items picked gathered many) (not_gathered b) = absurd (gathered-fine files moment base picked gathered f b)
base_one files moment base e f (many_items picked gathered many) (many_items picked' gathered' many') = many.same ∙ sym many'.same

-- ---- a repository

module _ (files : List NamedFile) (name : List ℕ) (moment limit : ℕ) (old : List Write) where
  one_repo : (a b : Repo) → known name (after old []) ≡ Some a → known name (after old []) ≡ Some b → a ≡ b
  one_repo a b x y = let both : Some a ≡ Some b = sym x ∙ y in cc both

  never : (a : Repo) → known name (after old []) ≡ Some a → known name (after old []) ≡ None → ⊥
  never a x y = let both : Some a ≡ None = sym x ∙ y in absurd (cc both)

  one_run : (vs ws : List Write) → IsRun (Unit {0}) files name moment old vs → IsRun (Unit {0}) files name moment old ws → vs ≡ ws
  one_run vs ws a b =
      let repo : a.repo ≡ b.repo = one_repo a.repo b.repo a.there b.there in
      let here : IsGiven (Unit {0}) files b.repo.files moment a.given = subst (λ (r : Repo). IsGiven (Unit {0}) files r.files moment a.given) repo a.is_given in
      a.is ∙ (ap (steps a.given) repo ∙ (ap (λ (g : Given). steps g b.repo) (one_given files b.repo.files moment a.given b.given here b.is_given) ∙ sym b.is))

  pub run_fine : (ws : List Write) (e : RunError) → IsRun (Unit {0}) files name moment old ws → length_of (old ++ ws) ≤ limit → ¬ (IsRepoRefusal files name moment limit old e)
  run_fine ws e run room (unknown none is) = never run.repo run.there none
  run_fine ws e run room (of_base repo there cause) =
      base_fine files run.repo.files moment run.given e run.is_given (subst (λ (r : Repo). IsBaseRefusal files moment r.files e) (one_repo repo run.repo there run.there) cause)
  run_fine ws e run room (no_room vs run' above is) =
      let most : length_of (old ++ vs) ≤ limit = subst (λ (l : List Write). length_of (old ++ l) ≤ limit) (one_run ws vs run run') room in
      absurd (omega (arith, most, above))

  based : (repo : Repo) (e : RunError) (ws : List Write) → known name (after old []) ≡ Some repo → IsBaseRefusal files moment repo.files e → IsRun (Unit {0}) files name moment old ws → ⊥
  based repo e ws there cause run =
      base_fine files run.repo.files moment run.given e run.is_given (subst (λ (r : Repo). IsBaseRefusal files moment r.files e) (one_repo repo run.repo there run.there) cause)

  pub repo_one : (e f : RunError) → IsRepoRefusal files name moment limit old e → IsRepoRefusal files name moment limit old f → e ≡ f
  repo_one e f (unknown none a) (unknown none' b) = a ∙ sym b
  repo_one e f (unknown none a) (of_base repo there cause) = absurd (never repo there none)
  repo_one e f (unknown none a) (no_room ws run above b) = absurd (never run.repo run.there none)
  repo_one e f (of_base repo there cause) (unknown none b) = absurd (never repo there none)
  repo_one e f (of_base repo there cause) (of_base repo' there' cause') =
      base_one files moment repo'.files e f (subst (λ (r : Repo). IsBaseRefusal files moment r.files e) (one_repo repo repo' there there') cause) cause'
  repo_one e f (of_base repo there cause) (no_room ws run above b) = absurd (based repo e ws there cause run)
  repo_one e f (no_room ws run above a) (unknown none b) = absurd (never run.repo run.there none)
  repo_one e f (no_room ws run above a) (of_base repo there cause) = absurd (based repo f ws there cause run)
  repo_one e f (no_room ws run above a) (no_room ws' run' above' b) = a ∙ sym b

-- ---- an image

pub refused_one : (files : List NamedFile) (name : List ℕ) (moment limit : ℕ) (image : Image) (e f : RunError) → IsRefusedIn files name moment limit image e → IsRefusedIn files name moment limit image f → e ≡ f
refused_one files name moment limit image e f a b =
    repo_one files name moment limit b.old e f (subst (λ (ws : List Write). IsRepoRefusal files name moment limit ws e) (one_stored limit image a.old b.old a.stored b.stored) a.cause) b.cause

pub run_unrefused : (tells : Type 0) (files : List NamedFile) (name : List ℕ) (moment limit : ℕ) (image : Image) (entry exit : Past) (text : List ℕ) (e : RunError) → tells → HasRun tells files name moment limit image entry exit text
    → ¬ (IsRefusedIn files name moment limit image e)
run_unrefused tells files name moment limit image entry exit text e t has refused =
    let done = has.leaves.done in
    let run : IsRun (Unit {0}) files name moment has.old done.ws =
    record { repo = done.run.repo; there = done.run.there; given = done.run.given; is_given = given_under tells (Unit {0}) files done.run.repo.files moment done.run.given (λ u. t) done.run.is_given; is = done.run.is } in
    run_fine files name moment limit has.old done.ws e run (subst (λ (ws : List Write). length_of ws ≤ limit) done.all has.leaves.room)
    (subst (λ (ws : List Write). IsRepoRefusal files name moment limit ws e) (one_stored limit image refused.old has.old refused.stored has.stored) refused.cause)
