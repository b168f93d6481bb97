-- From the dependencies of each source to all, and back.
use Rattle.std.proofs.Common.{◌≡◌, ◌⊎◌, ℕ, zero, suc, ◌+◌, ◌<◌, Bool, true, false, cond, List, [], ◌∷◌, ◌++◌, length, refl, sym, ◌∙◌, ap, subst, inl, inr, arith}
use Rattle.std.specs.Prelude.{filter, ◌==◌, ◌&&◌}
use Rattle.std.specs.List.{All, Any, Contains}
use Rattle.std.proofs.lemmas.Bool.{cases_Bool}
use Rattle.std.proofs.lemmas.List.Elements.{All-contains, All-contains_itself, All-filter, All-weaker, filter_passes}
use Rattle.rnv_base.specs.declared.kinds.SourceKind.{SourceKind}
use Rattle.rnv_base.specs.declared.kinds.SourceKind.TheVariants.{Crates, Npm, Docker}
use Rattle.rnv_base.specs.Files.{NamedFile}
use Rattle.rnv_pick.specs.declared.dep.Dep.{Dep}
use Rattle.rnv_plan.specs.declared.error.RunError.{RunError}
use Rattle.rnv_plan.specs.Gather.{IsSound}
use Rattle.rnv_plan.specs.Refusal.{HasUnsound, HasUnsoundOf}
use Rattle.rnv_plan.specs.Sources.{from, is_from, is_wanted, place}
use Rattle.rnv_plan.specs.Taken.{is_readable}

-- ---- sources by their places

pub same_source : (s t : SourceKind) → (place s == place t) ≡ true → s ≡ t
same_source Crates Crates e = refl
same_source Crates Npm e = absurd (cc e)
same_source Crates Docker e = absurd (cc e)
same_source Npm Crates e = absurd (cc e)
same_source Npm Npm e = refl
same_source Npm Docker e = absurd (cc e)
same_source Docker Crates e = absurd (cc e)
same_source Docker Npm e = absurd (cc e)
same_source Docker Docker e = refl

-- of two sources, neither before the other
pub one_source : (s t : SourceKind) → (place s < place t → ⊥) → (place t < place s → ⊥) → s ≡ t
one_source Crates Crates a b = refl
one_source Crates Npm a b = absurd (a (omega arith))
one_source Crates Docker a b = absurd (a (omega arith))
one_source Npm Crates a b = absurd (b (omega arith))
one_source Npm Npm a b = refl
one_source Npm Docker a b = absurd (a (omega arith))
one_source Docker Crates a b = absurd (b (omega arith))
one_source Docker Npm a b = absurd (b (omega arith))
one_source Docker Docker a b = refl

from_itself : (s : SourceKind) → (place s == place s) ≡ true
from_itself Crates = refl
from_itself Npm = refl
from_itself Docker = refl

-- ---- the dependencies of each source

contains_cases : {X : Type 0} (c : X) (cs : List X) (x : X) → Contains (c ∷ cs) x → (c ≡ x) ⊎ Contains cs x
contains_cases c cs x (zero, h, e) = inl e
contains_cases c cs x (suc i, h, e) = inr (i, omega arith, e)

contains_later : {X : Type 0} (c : X) (cs : List X) (x : X) → Contains cs x → Contains (c ∷ cs) x
contains_later c cs x (i, h, e) = (suc i, omega arith, e)

no_element : {X : Type 0} (x : X) → Contains [] x → ⊥
no_element x among = let k = among.1 in omega (arith, k)

kept_later : {X : Type 0} (b : Bool) (c : X) (cs : List X) (x : X) → Contains cs x → Contains (cond b (c ∷ cs) cs) x
kept_later true c cs x among = contains_later c cs x among
kept_later false c cs x among = among

pub kept : {X : Type 0} (p : X → Bool) (xs : List X) (x : X) → p x ≡ true → Contains xs x → Contains (filter p xs) x
kept p [] x passes among = absurd (no_element x among)
kept p (c ∷ cs) x passes among = elim (contains_cases c cs x among) [
  | inl first ↦
      let test : p c ≡ true = ap p first ∙ passes in
      let here : Contains (c ∷ filter p cs) c = (zero, omega arith, refl) in
      rw test (subst (λ y. Contains (c ∷ filter p cs) y) first here)
  | inr after ↦ kept_later (p c) c (filter p cs) x (kept p cs x passes after)
]

kept_among : {X : Type 0} (p : X → Bool) (xs : List X) (x : X) → Contains (filter p xs) x → Contains xs x
kept_among p xs x among = All-contains (Contains xs) (filter p xs) x (All-filter p (Contains xs) xs (All-contains_itself xs)) among

kept_passes : {X : Type 0} (p : X → Bool) (xs : List X) (x : X) → Contains (filter p xs) x → p x ≡ true
kept_passes p xs x among = All-contains (λ y. p y ≡ true) (filter p xs) x (filter_passes p xs) among

-- what holds of those of each source holds of all
pub all_sources : (P : Dep → Type 0) (deps : List Dep) → ((s : SourceKind) → All P (from s deps)) → All P deps
all_sources P deps each =
    All-weaker (Contains deps) P (λ d there. All-contains P (from d.source deps) d (each d.source) (kept (is_from d.source) deps d (from_itself d.source) there)) deps (All-contains_itself deps)

-- what holds of those of one source and speaks of it, holds of them by their own
pub of_source : (P : SourceKind → Dep → Type 0) (s : SourceKind) (deps : List Dep) → All (P s) (from s deps) → All (λ d. P d.source d) (from s deps)
of_source P s deps each =
    All-weaker (Contains (from s deps)) (λ d. P d.source d)
    (λ d there. subst (λ (t : SourceKind). P t d) (sym (same_source d.source s (kept_passes (is_from s) deps d there))) (All-contains (P s) (from s deps) d each there))
    (from s deps) (All-contains_itself (from s deps))

one_wanted : (s : SourceKind) (d : Dep) (ds : List Dep) (f r : Bool) → cond (f && r) (d ∷ filter (is_from s) ds) (filter (is_from s) ds) ≡ cond f (cond r (d ∷ filter (is_from s) ds) (filter (is_from s) ds)) (filter (is_from s) ds)
one_wanted s d ds true r = refl
one_wanted s d ds false r = refl

from_cond : (s : SourceKind) (d : Dep) (ds : List Dep) (r : Bool) → filter (is_from s) (cond r (d ∷ ds) ds) ≡ cond (is_from s d && r) (d ∷ filter (is_from s) ds) (filter (is_from s) ds)
from_cond s d ds true = from_true (is_from s d) refl where
  from_true : (f : Bool) → is_from s d ≡ f → filter (is_from s) (d ∷ ds) ≡ cond (is_from s d && true) (d ∷ filter (is_from s) ds) (filter (is_from s) ds)
  from_true true e = rw e refl
  from_true false e = rw e refl
from_cond s d ds false = from_false (is_from s d) where
  from_false : (f : Bool) → filter (is_from s) ds ≡ cond (f && false) (d ∷ filter (is_from s) ds) (filter (is_from s) ds)
  from_false true = refl
  from_false false = refl

-- those of a source among the readable ones are those that are wanted of it
pub wanted_from : (s : SourceKind) (deps : List Dep) → filter (is_wanted s) deps ≡ from s (filter is_readable deps)
wanted_from s [] = refl
wanted_from s (d ∷ ds) =
    ap (λ (rest : List Dep). cond (is_wanted s d) (d ∷ rest) rest) (wanted_from s ds) ∙ sym (from_cond s d (filter is_readable ds) (is_readable d))

-- ---- what is refused first

-- the sources before this one are sound
pub refused_at : (files : List NamedFile) (s : SourceKind) (deps : List Dep) (e : RunError) → ((t : SourceKind) → place t < place s → All (λ d. IsSound files t d.«package») (from t deps))
    → HasUnsoundOf files s (from s deps) e → HasUnsound files deps e
refused_at files s deps e before here = record {
  source = s;
  before =
      All-weaker (Contains deps) (λ d. place d.source < place s → IsSound files d.source d.«package»)
      (λ d there below. All-contains (λ (x : Dep). IsSound files d.source x.«package») (from d.source deps) d (before d.source below) (kept (is_from d.source) deps d (from_itself d.source) there))
      deps (All-contains_itself deps);
  here = here;
}

-- one of its own is among those of a source
pub among_from : (s : SourceKind) (deps : List Dep) (name : List ℕ) → Any (λ d. d.«package» ≡ name) (from s deps) → Any (λ d. (d.source ≡ s) × (d.«package» ≡ name)) deps
among_from s deps name (k, d, l, is, named) =
    let there : Contains (from s deps) d = (k, l, is) in
    let one = kept_among (is_from s) deps d there in
    (one.0, d, one.1, one.2, (same_source d.source s (kept_passes (is_from s) deps d there), named))

pub by_source : (P : SourceKind → Type 0) → P Crates → P Npm → P Docker → (s : SourceKind) → P s
by_source P crates npm docker Crates = crates
by_source P crates npm docker Npm = npm
by_source P crates npm docker Docker = docker

module _ (files : List NamedFile) (deps : List Dep) where
  abbrev pub AreSound : SourceKind → Type 0
  AreSound s = All (λ d. IsSound files s d.«package») (from s deps)

  pub before_npm : AreSound Crates → (t : SourceKind) → place t < place Npm → AreSound t
  before_npm crates Crates below = crates
  before_npm crates Npm below = absurd (omega (arith, below))
  before_npm crates Docker below = absurd (omega (arith, below))

  pub before_docker : AreSound Crates → AreSound Npm → (t : SourceKind) → place t < place Docker → AreSound t
  before_docker crates npm Crates below = crates
  before_docker crates npm Npm below = npm
  before_docker crates npm Docker below = absurd (omega (arith, below))

  pub all_sound : AreSound Crates → AreSound Npm → AreSound Docker → All (λ d. IsSound files d.source d.«package») deps
  all_sound crates npm docker =
      all_sources (λ d. IsSound files d.source d.«package») deps (λ s. of_source (λ s d. IsSound files s d.«package») s deps (by_source AreSound crates npm docker s))
