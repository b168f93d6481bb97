-- A base that is gathered has no refusal, and no base has two.
use Rattle.std.proofs.Common.{◌≡◌, ℕ, ◌<◌, List, Bool, true, false, length, refl, sym, ◌∙◌, ap, subst, arith}
use Rattle.std.specs.List.{All}
use Rattle.std.specs.Ordering.{nat_cmp, ordering_reverse, is_eq}
use Rattle.std.specs.Cmp.Lexicographic.{slice_cmp}
use Rattle.std.specs.declared.cmp.Ordering.{Ordering}
use Rattle.std.specs.declared.cmp.Ordering.TheVariants.{Less, Equal, Greater}
use Rattle.std.proofs.lemmas.Cmp.{nat_list_cmp_total}
use Rattle.std.proofs.lemmas.List.Elements.{All-contains}
use Rattle.std.proofs.lemmas.Map.Lookups.{exact_bytes}
use Rattle.std.proofs.lemmas.Map.Views.{tells_apart}
use Rattle.rnv_base.specs.declared.kinds.SourceKind.{SourceKind}
use Rattle.rnv_base.specs.Files.{NamedFile}
use Rattle.rnv_repo.specs.Files.{MarkedFile}
use Rattle.rnv_release.specs.Index.{Index, absent, listed, too_long, bad, too_many}
use Rattle.rnv_pick.specs.declared.dep.Dep.{Dep}
use Rattle.rnv_plan.specs.declared.error.RunError.{RunError}
use Rattle.rnv_plan.specs.declared.inputs.PickedFile.{PickedFile}
use Rattle.rnv_plan.specs.declared.taken.TakenFile.{TakenFile}
use Rattle.rnv_plan.specs.Taken.{deps_in, readable_in, is_configured}
use Rattle.rnv_plan.specs.Gather.{AreFew, IsGathered, index_for, is_sound, IsSound}
use Rattle.rnv_plan.specs.Refusal.{HaveMany, IsFirstUnsound, HasUnsound, HasUnsoundOf, IsIndexRefusal, IsRefusal, many_dependencies, configured, refused_document}
use Rattle.rnv_plan.specs.Sources.{from, place}
use Rattle.rnv_plan.proofs.BySource.{among_from, one_source}
use Rattle.rnv_plan.proofs.TakenFiles.{taken-one}

true-false : (b : Bool) → b ≡ true → b ≡ false → ⊥
true-false b is_so not_so = cc

sound-clash : (files : List NamedFile) (s : SourceKind) (deps : List Dep) (name : List ℕ) → All (λ d. IsSound files d.source d.«package») deps → IsFirstUnsound files s (from s deps) name → ⊥
sound-clash files s deps name each first =
    let some = among_from s deps name first.among in
    let here = All-contains (λ d. IsSound files d.source d.«package») deps some.1 each (some.0, some.2, some.3) in
    true-false (is_sound (index_for files s name))
    (subst (λ (n : List ℕ). is_sound (index_for files s n) ≡ true) some.4.1 (subst (λ (t : SourceKind). is_sound (index_for files t some.1.«package») ≡ true) some.4.0 here)) first.unsound

few-many : (base : List MarkedFile) (ts : List TakenFile) → AreFew base ts → HaveMany base → ⊥
few-many base ts few many =
    let same = ap (λ (us : List TakenFile). length (deps_in us)) (taken-one base ts many.taken few.read many.read) in
    omega (arith, same, few.few, many.many)

few-one : (base : List MarkedFile) (ts us : List TakenFile) → AreFew base ts → AreFew base us → ts ≡ us
few-one base ts us a b = taken-one base ts us a.read b.read

pub gathered-fine : (files : List NamedFile) (moment : ℕ) (base : List MarkedFile) (picked : List PickedFile) → IsGathered files moment base picked → (e : RunError) → ¬ (IsRefusal files base e)
gathered-fine files moment base picked g e (many_dependencies many same) = few-many base g.taken g.built.few many
gathered-fine files moment base picked g e (configured ts few is_so same) = true-false (is_configured base) is_so g.built.plain
gathered-fine files moment base picked g e (refused_document ts built refused) =
    sound-clash files refused.source (readable_in ts) refused.here.name (subst (λ (us : List TakenFile). All (λ d. IsSound files d.source d.«package») (readable_in us)) (few-one base g.taken ts g.built.few built.few) g.sound) refused.here.first

-- ---- the first by bytes is one

-- two names, neither of which is below the other
same-name : (p q : List ℕ) → (slice_cmp nat_cmp p q ≡ Less → ⊥) → (slice_cmp nat_cmp q p ≡ Less → ⊥) → (r : Ordering) → slice_cmp nat_cmp p q ≡ r → p ≡ q
same-name p q not_below not_above Less is = absurd (not_below is)
same-name p q not_below not_above Equal is = tells_apart exact_bytes p q (ap (λ (o : Ordering). is_eq o) is)
same-name p q not_below not_above Greater is = absurd (not_above (nat_list_cmp_total.antisymm q p ∙ ap ordering_reverse is))

module _ (files : List NamedFile) (s : SourceKind) (deps : List Dep) where
  unsound-below : (p q : List ℕ) → IsFirstUnsound files s deps p → IsFirstUnsound files s deps q → slice_cmp nat_cmp p q ≡ Less → ⊥
  unsound-below p q a b below =
      let some = a.among in
      let here = All-contains (λ d. slice_cmp nat_cmp d.«package» q ≡ Less → IsSound files s d.«package») deps some.1 b.before (some.0, some.2, some.3) in
      let sound = here (subst (λ (n : List ℕ). slice_cmp nat_cmp n q ≡ Less) (sym some.4) below) in
      true-false (is_sound (index_for files s p)) (subst (λ (n : List ℕ). is_sound (index_for files s n) ≡ true) some.4 sound) a.unsound

  name-one : (p q : List ℕ) → IsFirstUnsound files s deps p → IsFirstUnsound files s deps q → p ≡ q
  name-one p q a b = same-name p q (unsound-below p q a b) (unsound-below q p b a) (slice_cmp nat_cmp p q) refl

cause-one : (s : SourceKind) (name : List ℕ) (index : Index) (e f : RunError) → IsIndexRefusal s name index e → IsIndexRefusal s name index f → e ≡ f
cause-one s name absent e f a b = absurd a
cause-one s name (listed releases) e f a b = absurd a
cause-one s name too_long e f a b = a ∙ sym b
cause-one s name (bad line) e f a b = a ∙ sym b
cause-one s name too_many e f a b = a ∙ sym b

unsound-of : (files : List NamedFile) (s : SourceKind) (deps : List Dep) (e f : RunError) → HasUnsoundOf files s deps e → HasUnsoundOf files s deps f → e ≡ f
unsound-of files s deps e f a b =
    cause-one s b.name (index_for files s b.name) e f (subst (λ (n : List ℕ). IsIndexRefusal s n (index_for files s n) e) (name-one files s deps a.name b.name a.first b.first) a.cause) b.cause

-- no source before that of the one is that of the other
source-below : (files : List NamedFile) (deps : List Dep) (e f : RunError) (a : HasUnsound files deps e) (b : HasUnsound files deps f) → place a.source < place b.source → ⊥
source-below files deps e f a b below =
    let some = among_from a.source deps a.here.name a.here.first.among in
    let sound = All-contains (λ d. place d.source < place b.source → IsSound files d.source d.«package») deps some.1 b.before (some.0, some.2, some.3) (subst (λ (t : SourceKind). place t < place b.source) (sym some.4.0) below) in
    true-false (is_sound (index_for files a.source a.here.name))
    (subst (λ (n : List ℕ). is_sound (index_for files a.source n) ≡ true) some.4.1 (subst (λ (t : SourceKind). is_sound (index_for files t some.1.«package») ≡ true) some.4.0 sound)) a.here.first.unsound

unsound-at : (files : List NamedFile) (deps : List Dep) (e f : RunError) (s t : SourceKind) → s ≡ t → HasUnsoundOf files s (from s deps) e → HasUnsoundOf files t (from t deps) f → e ≡ f
unsound-at files deps e f s t same a b = unsound-of files t (from t deps) e f (subst (λ (u : SourceKind). HasUnsoundOf files u (from u deps) e) same a) b

unsound-one : (files : List NamedFile) (deps : List Dep) (e f : RunError) → HasUnsound files deps e → HasUnsound files deps f → e ≡ f
unsound-one files deps e f a b =
    unsound-at files deps e f a.source b.source (one_source a.source b.source (source-below files deps e f a b) (source-below files deps f e b a)) a.here b.here

-- ---- one refusal

module _ (files : List NamedFile) (base : List MarkedFile) (e f : RunError) where
  pub refusal-one : IsRefusal files base e → IsRefusal files base f → e ≡ f
  refusal-one (many_dependencies many a) (many_dependencies many' b) = a ∙ sym b
  refusal-one (many_dependencies many a) (configured ts few is_so b) = absurd (few-many base ts few many)
  refusal-one (many_dependencies many a) (refused_document ts built refused) = absurd (few-many base ts built.few many)
  refusal-one (configured ts few is_so a) (many_dependencies many b) = absurd (few-many base ts few many)
  refusal-one (configured ts few is_so a) (configured ts' few' is_so' b) = a ∙ sym b
  refusal-one (configured ts few is_so a) (refused_document ts' built refused) = absurd (true-false (is_configured base) is_so built.plain)
  refusal-one (refused_document ts built refused) (many_dependencies many b) = absurd (few-many base ts built.few many)
  refusal-one (refused_document ts built refused) (configured ts' few' is_so b) = absurd (true-false (is_configured base) is_so built.plain)
  refusal-one (refused_document ts built refused) (refused_document ts' built' refused') =
      unsound-one files (readable_in ts') e f (subst (λ (us : List TakenFile). HasUnsound files (readable_in us) e) (few-one base ts ts' built.few built'.few) refused) refused'
