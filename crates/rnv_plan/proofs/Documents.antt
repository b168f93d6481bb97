-- What is read of the documents of packages.
use Rattle.std.proofs.Common.{◌≡◌, ℕ, ◌⊎◌, ⊎_elim, inl, inr, List, [], ◌∷◌, ◌++◌, Bool, true, false, cond, Option, Some, None, get_or, arith, refl, sym, ap, subst, ◌∙◌, append_assoc}
use Rattle.std.specs.List.{All, Any, Contains}
use Rattle.std.specs.List.Sorted.{IsStrictlySortedBy}
use Rattle.std.specs.BTreeMap.{BTreeMap, get, is_at, Updates}
use Rattle.std.specs.BTreeSet as set
use Rattle.std.specs.BTreeSet.{BTreeSet, contains, keys, insert_key, IsOrdered}
use Rattle.std.specs.Ordering.{nat_cmp}
use Rattle.std.specs.Cmp.Lexicographic.{slice_cmp}
use Rattle.std.specs.declared.cmp.Ordering.TheVariants.{Less}
use Rattle.std.proofs.lemmas.Bool.{cases_Bool}
use Rattle.std.proofs.lemmas.Cmp.{nat_list_cmp_total}
use Rattle.std.proofs.lemmas.List.Elements.{All-push, All-weaker, All-contains, Contains-append_left, Contains-append_right, Contains-push}
use Rattle.std.proofs.lemmas.Map.Lookups.{exact_bytes}
use Rattle.std.proofs.lemmas.Map.Views.{tells_apart, btree_set_contains_iff, All-insert_key}
use Rattle.rnv_base.specs.declared.kinds.SourceKind.{SourceKind}
use Rattle.rnv_base.specs.declared.kinds.SourceKind.TheVariants.{Crates, Npm, Docker}
use Rattle.rnv_base.specs.Files.{NamedFile}
use Rattle.rnv_pick.specs.declared.dep.Dep.{Dep}
use Rattle.rnv_pick.specs.declared.listing.Listing.{Listing}
use Rattle.rnv_pick.specs.Ranking.{IsListing}
use Rattle.rnv_release.specs.declared.release.Release.{Release}
use Rattle.rnv_release.specs.Index.{Index, absent, listed, too_long, bad, too_many}
use Rattle.rnv_plan.specs.declared.error.RunError.{RunError}
use Rattle.rnv_plan.specs.Gather.{index_for, is_sound, IsSound}
use Rattle.rnv_plan.specs.Listings.{AreOfSome}
use Rattle.rnv_plan.specs.Refusal.{IsFirstUnsound, HasUnsoundOf, IsIndexRefusal}
use Rattle.rnv_plan.specs.Packages.{AreNames, IsFirstUnsoundName, HasUnsoundName}
use Rattle.rnv_plan.proofs.Rising.{below_one}

either_true : (b : Bool) → cond b true true ≡ true
either_true true = refl
either_true false = refl

-- a key stays where another is added
pub contains_more : (s n : BTreeSet (List ℕ)) (key q : List ℕ) → set.Updates (slice_cmp nat_cmp) s n key true → contains (slice_cmp nat_cmp) s q ≡ true → contains (slice_cmp nat_cmp) n q ≡ true
contains_more s n key q added had =
    added.0 q ∙ (ap (λ b. cond (is_at (slice_cmp nat_cmp key) q) true b) had ∙ either_true (is_at (slice_cmp nat_cmp key) q))

-- the items so far and those that are left, one item further
pub parts_more : (items so_far rest left : List (List ℕ)) (item : List ℕ) → so_far ++ rest ≡ items → rest ≡ item ∷ left → (so_far ++ item ∷ []) ++ left ≡ items
parts_more items so_far rest left item parts step = append_assoc so_far (item ∷ []) left ∙ (ap (λ r. so_far ++ r) (sym step) ∙ parts)

-- a fact of two values, carried along
pub carried : {A B : Type 0} (P : A → B → Type 0) (a b : A) (x y : B) → a ≡ b → x ≡ y → P a x → P b y
carried P a b x y e f h = subst (λ z. P b z) f (subst (λ c. P c x) e h)

-- ---- the names of packages

Any-left : (P : Dep → Type 0) (ds es : List Dep) → Any P ds → Any P (ds ++ es)
Any-left P ds es (k, d, l, is, p) =
    let there = Contains-append_left ds es d (k, l, is) in
    (there.0, d, there.1, there.2, p)

Any-last : (P : Dep → Type 0) (ds : List Dep) (d : Dep) → P d → Any P (ds ++ d ∷ [])
Any-last P ds d p = let there = Contains-push ds d in (there.0, d, there.1, there.2, p)

-- one dependency more
pub names_more : (ds : List Dep) (names new : BTreeSet (List ℕ)) (d : Dep) (key : List ℕ) → key ≡ d.«package» → set.Updates (slice_cmp nat_cmp) names new key true → keys new ≡ insert_key (slice_cmp nat_cmp) (keys names) key → IsOrdered (slice_cmp nat_cmp) new → AreNames ds names → AreNames (ds ++ d ∷ []) new
names_more ds names new d key same added inserted ordered h = record {
  each = subst (All (λ name. Any (λ e. e.«package» ≡ name) (ds ++ d ∷ []))) (sym inserted)
      (All-insert_key (slice_cmp nat_cmp) key (λ name. Any (λ e. e.«package» ≡ name) (ds ++ d ∷ [])) (keys names)
      (All-weaker (λ name. Any (λ e. e.«package» ≡ name) ds) (λ name. Any (λ e. e.«package» ≡ name) (ds ++ d ∷ [])) (λ name some. Any-left (λ e. e.«package» ≡ name) ds (d ∷ []) some) (keys names) h.each)
      (Any-last (λ e. e.«package» ≡ key) ds d (sym same)));
  every = All-push (λ e. contains (slice_cmp nat_cmp) new e.«package» ≡ true) ds d
      (All-weaker (λ e. contains (slice_cmp nat_cmp) names e.«package» ≡ true) (λ e. contains (slice_cmp nat_cmp) new e.«package» ≡ true) (λ e had. contains_more names new key e.«package» added had) ds h.every)
      (subst (λ q. contains (slice_cmp nat_cmp) new q ≡ true) same added.1);
  rising = ordered;
}

-- ---- the first that is refused

pub refusal-unsound : (source : SourceKind) (name : List ℕ) (index : Index) (e : RunError) → IsIndexRefusal source name index e → is_sound index ≡ false
refusal-unsound source name absent e cause = absurd cause
refusal-unsound source name (listed releases) e cause = absurd cause
refusal-unsound source name too_long e cause = refl
refusal-unsound source name (bad line) e cause = refl
refusal-unsound source name too_many e cause = refl

Contains-next : (so_far left : List (List ℕ)) (name : List ℕ) → Contains (so_far ++ name ∷ left) name
Contains-next so_far left name = Contains-append_right so_far (name ∷ left) name (0, omega arith, refl)

pub first_refused : (files : List NamedFile) (source : SourceKind) (names so_far rest left : List (List ℕ)) (name : List ℕ) → IsStrictlySortedBy (slice_cmp nat_cmp) names → so_far ++ rest ≡ names → rest ≡ name ∷ left → All (IsSound files source) so_far → is_sound (index_for files source name) ≡ false → IsFirstUnsoundName files source names name
first_refused files source names so_far rest left name sorted parts step sound unsound =
    let whole : so_far ++ name ∷ left ≡ names = ap (λ r. so_far ++ r) (sym step) ∙ parts in
    record {
      among = subst (λ (ns : List (List ℕ)). Contains ns name) whole (Contains-next so_far left name);
      unsound = unsound;
      before = subst (All (λ n. slice_cmp nat_cmp n name ≡ Less → IsSound files source n)) whole
          (below_one (λ n. n) (IsSound files source) so_far name left (subst (IsStrictlySortedBy (slice_cmp nat_cmp)) (sym whole) sorted) sound);
    }

-- ---- the listings of names

-- the listings of some packages, all sound
pub record AreFound (Sound : List ℕ → Type 0) (source : SourceKind) (found : List ℕ → Option (List Release)) (names : List (List ℕ)) (listings : BTreeMap (List ℕ) Listing) : Type 0 where
  pub sound : All Sound names
  pub listed : All (λ name. IsListing source (found name) (get (slice_cmp nat_cmp) listings name)) names
  pub others : (name : List ℕ) → (get (slice_cmp nat_cmp) listings name ≡ None) ⊎ IsListing source (found name) (get (slice_cmp nat_cmp) listings name)

-- a listing is that of its releases, and there is none without a document
none_listed : (source : SourceKind) → IsListing source None None
none_listed Crates = tt
none_listed Npm = tt
none_listed Docker = tt

none_of : (source : SourceKind) (releases : Option (List Release)) (listing : Option Listing) → listing ≡ None → IsListing source releases None → IsListing source releases listing
none_of source releases listing none is = subst (IsListing source releases) (sym none) is

one_more : (m n : BTreeMap (List ℕ) Listing) (name : List ℕ) (listing : Listing) → Updates (slice_cmp nat_cmp) m n name (Some listing) → (q : List ℕ)
    → ((name ≡ q) × (get (slice_cmp nat_cmp) n q ≡ Some listing)) ⊎ (get (slice_cmp nat_cmp) n q ≡ get (slice_cmp nat_cmp) m q)
one_more m n name listing added q =
    ⊎_elim
    (λ here. inl (tells_apart exact_bytes name q here, added.0 q ∙ ap (λ b. cond b (Some listing) (get (slice_cmp nat_cmp) m q)) here))
    (λ apart. inr (added.2 q apart))
    (cases_Bool (is_at (slice_cmp nat_cmp name) q))

pub some_more : (source : SourceKind) (m n : BTreeMap (List ℕ) Listing) (name : List ℕ) (listing : Listing) → AreOfSome source m
    → (releases : Option (List Release)) × IsListing source releases (Some listing) → Updates (slice_cmp nat_cmp) m n name (Some listing) → AreOfSome source n
some_more source m n name listing some here added q = elim (one_more m n name listing added q) [
  | inl same ↦ (here.0, subst (IsListing source here.0) (sym same.1) here.1)
  | inr kept ↦ let one = some q in (one.0, subst (IsListing source one.0) (sym kept) one.1)
]

pub some_none : (source : SourceKind) (m : BTreeMap (List ℕ) Listing) → ((q : List ℕ) → get (slice_cmp nat_cmp) m q ≡ None) → AreOfSome source m
some_none source m empty q = let missing : Option (List Release) = None in (missing, subst (IsListing source missing) (sym (empty q)) (none_listed source))

module _ (Sound : List ℕ → Type 0) (source : SourceKind) (found : List ℕ → Option (List Release)) where
  pub AreFound-absent : (names : List (List ℕ)) (listings : BTreeMap (List ℕ) Listing) (name : List ℕ) → AreFound Sound source found names listings → Sound name → IsListing source (found name) None → AreFound Sound source found (names ++ name ∷ []) listings
  AreFound-absent names listings name h sound none_there = record {
    sound = All-push Sound names name h.sound sound;
    listed = All-push (λ n. IsListing source (found n) (get (slice_cmp nat_cmp) listings n)) names name h.listed (⊎_elim (λ none. none_of source (found name) (get (slice_cmp nat_cmp) listings name) none none_there) (λ told. told) (h.others name));
    others = h.others;
  }

  step : (m n : BTreeMap (List ℕ) Listing) (name : List ℕ) (listing : Listing) → Updates (slice_cmp nat_cmp) m n name (Some listing) → IsListing source (found name) (Some listing) → (q : List ℕ)
      → IsListing source (found q) (get (slice_cmp nat_cmp) n q) ⊎ (get (slice_cmp nat_cmp) n q ≡ get (slice_cmp nat_cmp) m q)
  step m n name listing added told q = ⊎_elim
      (λ (same : (name ≡ q) × (get (slice_cmp nat_cmp) n q ≡ Some listing)). inl (subst (IsListing source (found q)) (sym same.1) (subst (λ (p : List ℕ). IsListing source (found p) (Some listing)) same.0 told)))
      (λ kept. inr kept)
      (one_more m n name listing added q)

  pub AreFound-listed : (names : List (List ℕ)) (listings more : BTreeMap (List ℕ) Listing) (name : List ℕ) (listing : Listing) → AreFound Sound source found names listings → Sound name → IsListing source (found name) (Some listing) → Updates (slice_cmp nat_cmp) listings more name (Some listing) → AreFound Sound source found (names ++ name ∷ []) more
  AreFound-listed names listings more name listing h sound told added =
      let Lists : List ℕ → BTreeMap (List ℕ) Listing → Type 0 = λ q m. IsListing source (found q) (get (slice_cmp nat_cmp) m q) in
      record {
        sound = All-push Sound names name h.sound sound;
        listed = All-push (λ q. IsListing source (found q) (get (slice_cmp nat_cmp) more q)) names name
            (λ k d l. ⊎_elim (λ here. here) (λ kept. subst (IsListing source (found (get_or names k d))) (sym kept) (h.listed k d l)) (step listings more name listing added told (get_or names k d)))
            (subst (IsListing source (found name)) (sym added.1) told);
        others = λ q. ⊎_elim (λ here. inr here) (λ kept. ⊎_elim (λ none. inl (kept ∙ none)) (λ same. inr (subst (IsListing source (found q)) (sym kept) same)) (h.others q)) (step listings more name listing added told q);
      }

-- ---- from the names of packages to dependencies

-- what holds of each name holds of each dependency's package
pub All-packages : (P : List ℕ → Type 0) (deps : List Dep) (names : BTreeSet (List ℕ)) → AreNames deps names → All P (keys names) → All (λ d. P d.«package») deps
All-packages P deps names h held =
    All-weaker (λ d. contains (slice_cmp nat_cmp) names d.«package» ≡ true) (λ d. P d.«package»)
    (λ d has. All-contains P (keys names) d.«package» held ((btree_set_contains_iff nat_list_cmp_total exact_bytes names d.«package»).0 has))
    deps h.every

first-deps : (files : List NamedFile) (source : SourceKind) (deps : List Dep) (names : BTreeSet (List ℕ)) (name : List ℕ) → AreNames deps names → IsFirstUnsoundName files source (keys names) name → IsFirstUnsound files source deps name
first-deps files source deps names name h first = record {
  among = All-contains (λ n. Any (λ d. d.«package» ≡ n) deps) (keys names) name h.each first.among;
  unsound = first.unsound;
  before = All-packages (λ n. slice_cmp nat_cmp n name ≡ Less → IsSound files source n) deps names h first.before;
}

pub unsound-deps : (files : List NamedFile) (source : SourceKind) (deps : List Dep) (names : BTreeSet (List ℕ)) (error : RunError) → AreNames deps names → HasUnsoundName files source (keys names) error → HasUnsoundOf files source deps error
unsound-deps files source deps names error h refused = record { name = refused.name; first = first-deps files source deps names refused.name h refused.first; cause = refused.cause }
