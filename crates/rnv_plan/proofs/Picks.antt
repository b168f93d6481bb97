-- What is picked for dependencies in turn from the listings that were read, and that there is nothing else.
use Rattle.std.proofs.Common.{◌≡◌, ℕ, List, [], ◌∷◌, ◌++◌, Bool, true, false, cond, Option, refl, sym, ◌∙◌, ap, subst, inl, inr}
use Rattle.std.specs.Prelude.{filter}
use Rattle.std.specs.List.{All, AllZip, Contains}
use Rattle.std.proofs.lemmas.Bool.{cases_Bool}
use Rattle.std.proofs.lemmas.List.Elements.{All-cons, All-nil, All-head, All-tail, All-contains, All-contains_itself, Contains-append_left, Contains-append_right, All-weaker, filter-append}
use Rattle.std.proofs.lemmas.Slice.Zip.{all_zipped_more}
use Rattle.rnv_base.specs.declared.kinds.ManagerKind.{ManagerKind}
use Rattle.rnv_base.specs.declared.kinds.SourceKind.{SourceKind}
use Rattle.rnv_release.specs.declared.release.Release.{Release}
use Rattle.rnv_pick.specs.BySource.{IsPickedFrom}
use Rattle.rnv_pick.specs.declared.dep.Dep.{Dep}
use Rattle.rnv_pick.specs.declared.update.Picked.{Picked}
use Rattle.rnv_pick.specs.Ranking.{IsListing}
use Rattle.rnv_pick.proofs.OneAnswer.{one_answer}
use Rattle.rnv_pick.proofs.Unread.{unread_from}
use Rattle.rnv_plan.specs.declared.indexes.Indexes.{Indexes}
use Rattle.rnv_plan.specs.declared.inputs.PickedDep.{PickedDep}
use Rattle.rnv_plan.specs.declared.inputs.PickedFile.{PickedFile}
use Rattle.rnv_plan.specs.declared.taken.TakenFile.{TakenFile}
use Rattle.rnv_plan.specs.Plain.{plain}
use Rattle.rnv_plan.specs.Taken.{deps_in, is_readable, readable_in}
use Rattle.rnv_plan.specs.Gather.{ArePicked, IsPickedDep, IsPickedFile}
use Rattle.rnv_plan.specs.Listings.{AreRead, IsFileHere, IsPickedHere, listing_for}
use Rattle.rnv_plan.proofs.Zips.{zip_one}

abbrev pub Look : Type 0
Look = SourceKind → List ℕ → Option (List Release)

-- one dependency more, and one file more
pub dep_picked : (moment : ℕ) (indexes : Indexes) (ds : List Dep) (ps : List PickedDep) (d : Dep) (p : Picked) → AllZip (IsPickedHere moment indexes) ds ps
    → ((releases : Option (List Release)) → IsListing d.source releases (listing_for indexes d.source d.«package») → IsPickedFrom d.source plain moment d releases p)
    → AllZip (IsPickedHere moment indexes) (ds ++ d ∷ []) (ps ++ record { dep = d; picked = p } ∷ [])
dep_picked moment indexes ds ps d p so_far picked =
    all_zipped_more (IsPickedHere moment indexes) ds ps d (record { dep = d; picked = p }) so_far (record { dep = refl; picked = picked })

pub file_picked : (moment : ℕ) (indexes : Indexes) (ts : List TakenFile) (ps : List PickedFile) (t : TakenFile) (ds : List PickedDep) → AllZip (IsFileHere moment indexes) ts ps
    → AllZip (IsPickedHere moment indexes) t.deps ds → AllZip (IsFileHere moment indexes) (ts ++ t ∷ []) (ps ++ record { path = t.path; manager = t.manager; deps = ds } ∷ [])
file_picked moment indexes ts ps t ds so_far here =
    all_zipped_more (IsFileHere moment indexes) ts ps t (record { path = t.path; manager = t.manager; deps = ds }) so_far (record { path = refl; manager = refl; deps = here })

-- ---- from releases whose listings were read

All-left : (P : Dep → Type 0) (ds es : List Dep) → All P (ds ++ es) → All P ds
All-left P ds es h = All-weaker (λ d. Contains ds d) P (λ d there. All-contains P (ds ++ es) d h (Contains-append_left ds es d there)) ds (All-contains_itself ds)

All-right : (P : Dep → Type 0) (ds es : List Dep) → All P (ds ++ es) → All P es
All-right P ds es h = All-weaker (λ d. Contains es d) P (λ d there. All-contains P (ds ++ es) d h (Contains-append_right ds es d there)) es (All-contains_itself es)

-- some releases of which each listing is
pub some_releases : (indexes : Indexes) → AreRead indexes → Look
some_releases indexes read source name = (read source name).0

module _ (moment : ℕ) (indexes : Indexes) (read : AreRead indexes) (look : Look) where
  abbrev Lists : Dep → Type 0
  Lists d = IsListing d.source (look d.source d.«package») (listing_for indexes d.source d.«package»)

  -- the first of the readable ones, and the rest
  split : (d : Dep) (ds : List Dep) (b : Bool) → is_readable d ≡ b → All Lists (cond b (d ∷ filter is_readable ds) (filter is_readable ds)) → (is_readable d ≡ true → Lists d) × All Lists (filter is_readable ds)
  split d ds true is same = (λ so. All-head Lists d (filter is_readable ds) same, All-tail Lists d (filter is_readable ds) same)
  split d ds false is same = (λ so. cc so, same)

  dep-from : (d : Dep) (p : PickedDep) → (is_readable d ≡ true → Lists d) → IsPickedHere moment indexes d p → IsPickedDep moment look d p
  dep-from d p lists picked = elim (cases_Bool (is_readable d)) [
    | inl is_so ↦ record { dep = picked.dep; picked = picked.picked (look d.source d.«package») (lists is_so) }
    | inr not_so ↦
        let some = read d.source d.«package» in
        record { dep = picked.dep; picked = unread_from d.source plain moment d some.0 (look d.source d.«package») p.picked not_so (picked.picked some.0 some.1) }
  ]

  deps-from : (ds : List Dep) (ps : List PickedDep) → All Lists (filter is_readable ds) → AllZip (IsPickedHere moment indexes) ds ps → AllZip (IsPickedDep moment look) ds ps
  deps-from [] [] lists picked = tt
  deps-from [] (p ∷ ps) lists picked = absurd picked
  deps-from (d ∷ ds) [] lists picked = absurd picked
  deps-from (d ∷ ds) (p ∷ ps) lists picked =
      let parts = split d ds (is_readable d) refl lists in
      (dep-from d p parts.0 picked.0, deps-from ds ps parts.1 picked.1)

  pub picked-from : (ts : List TakenFile) (ps : List PickedFile) → All Lists (readable_in ts) → AllZip (IsFileHere moment indexes) ts ps → ArePicked moment look ts ps
  picked-from [] [] lists picked = tt
  picked-from [] (p ∷ ps) lists picked = absurd picked
  picked-from (t ∷ ts) [] lists picked = absurd picked
  picked-from (t ∷ ts) (p ∷ ps) lists picked =
      let parts = subst (All Lists) (filter-append is_readable t.deps (deps_in ts)) lists in
      (record { path = picked.0.path; manager = picked.0.manager; deps = deps-from t.deps p.deps (All-left Lists (filter is_readable t.deps) (readable_in ts) parts) picked.0.deps }, picked-from ts ps (All-right Lists (filter is_readable t.deps) (readable_in ts) parts) picked.1)

all_of : (P : Dep → Type 0) → ((d : Dep) → P d) → (ds : List Dep) → All P ds
all_of P each [] = All-nil P
all_of P each (d ∷ ds) = All-cons P d ds (each d) (all_of P each ds)

-- what is picked is picked from some releases
pub picked-some : (moment : ℕ) (indexes : Indexes) (read : AreRead indexes) (ts : List TakenFile) (ps : List PickedFile) → AllZip (IsFileHere moment indexes) ts ps
    → ArePicked moment (some_releases indexes read) ts ps
unfolding some_releases
picked-some moment indexes read ts ps picked =
    let look = some_releases indexes read in
    picked-from moment indexes read look ts ps (all_of (λ d. IsListing d.source (look d.source d.«package») (listing_for indexes d.source d.«package»)) (λ d. (read d.source d.«package»).1) (readable_in ts)) picked

-- ---- there is nothing else

same-dep : (d e : Dep) (p q : Picked) → d ≡ e → p ≡ q → ◌≡◌ {A = PickedDep} (record { dep = d; picked = p }) (record { dep = e; picked = q })
same-dep d e p q deps picked = cc

same-file : (p q : List ℕ) (m n : ManagerKind) (ds es : List PickedDep) → p ≡ q → m ≡ n → ds ≡ es → ◌≡◌ {A = PickedFile} (record { path = p; manager = m; deps = ds }) (record { path = q; manager = n; deps = es })
same-file p q m n ds es paths managers deps = cc

module _ (moment : ℕ) (look : Look) where
  dep-one : (d : Dep) (p q : PickedDep) → IsPickedDep moment look d p → IsPickedDep moment look d q → p ≡ q
  dep-one d p q a b = same-dep p.dep q.dep p.picked q.picked (a.dep ∙ sym b.dep) (one_answer plain moment d (look d.source d.«package») p.picked q.picked a.picked b.picked)

  file-one : (t : TakenFile) (p q : PickedFile) → IsPickedFile moment look t p → IsPickedFile moment look t q → p ≡ q
  file-one t p q a b = same-file p.path q.path p.manager q.manager p.deps q.deps (a.path ∙ sym b.path) (a.manager ∙ sym b.manager) (zip_one (IsPickedDep moment look) dep-one t.deps p.deps q.deps a.deps b.deps)

  pub picked-one : (ts : List TakenFile) (ps qs : List PickedFile) → ArePicked moment look ts ps → ArePicked moment look ts qs → ps ≡ qs
  picked-one ts ps qs a b = zip_one (IsPickedFile moment look) file-one ts ps qs a b
