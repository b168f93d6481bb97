-- The chosen ones of buckets that stand from lesser kinds to greater ones rise.
use Rattle.std.proofs.Common.{◌≡◌, ◌⊎◌, ℕ, ◌<◌, ◌≤◌, Bool, true, false, List, [], ◌∷◌, ◌++◌, Option, Some, None, map, refl, sym, subst, ◌∙◌, ap, inl, inr, arith}
use Rattle.std.specs.Prelude.{not, ◌&&◌, if◌then◌else◌}
use Rattle.std.specs.Cmp.{IsTotalOrder}
use Rattle.std.specs.List.{All as Each, AllByRecursion, flat_map}
use Rattle.std.specs.Ordering.{is_gt, is_lt, ordering_reverse}
use Rattle.std.specs.declared.cmp.Ordering.{Ordering}
use Rattle.std.specs.declared.cmp.Ordering.TheVariants.{Less, Equal, Greater}
use Rattle.std.proofs.lemmas.Bool.{and_parts, cases_Bool}
use Rattle.std.proofs.lemmas.List.Elements.{All-contains}
use Rattle.rnv_base.specs.declared.kinds.UpdateKind.{UpdateKind}
use Rattle.rnv_base.specs.declared.kinds.UpdateKind.TheVariants as kind
use Rattle.rnv_base.specs.Kinds.{rank}
use Rattle.rnv_version.specs.Numbering.{KindsRise, Numbering}
use Rattle.rnv_pick.specs.declared.bucket.Bucket.{Bucket}
use Rattle.rnv_pick.specs.declared.bucket.Bucket.TheVariants.{Patch, Minor, Major, Rest, All}
use Rattle.rnv_pick.specs.declared.dep.Dep.{Dep}
use Rattle.rnv_pick.specs.declared.options.DepOptions.{DepOptions}
use Rattle.rnv_pick.specs.declared.choice.Choice.{Choice}
use Rattle.rnv_pick.specs.declared.update.Update.{Update}
use Rattle.rnv_pick.specs.Buckets.{buckets, is_in}
use Rattle.rnv_pick.specs.Candidates.{Aim, Offer, is_wanted}
use Rattle.rnv_pick.specs.Choices.{InBucket, IsChosen, choice_of}
use Rattle.rnv_pick.specs.Listing.{IsNamed, Listed}
use Rattle.rnv_pick.specs.Options.{Options}
use Rattle.rnv_pick.specs.Updates.{AreChosen, AreRising, IsBelow, enabled_update, update_of, updates_to}

-- ---- buckets

-- each kind of the first is below each of the second
pub record IsApart (b c : Bucket) : Type 0 where
  pub below : (j k : UpdateKind) → is_in b j ≡ true → is_in c k ≡ true → rank j < rank k

abbrev pub AreApart : List Bucket → Type 0
AreApart [] = Unit {0}
AreApart (b ∷ bs) = AllByRecursion (IsApart b) bs × AreApart bs

only_major : (k : UpdateKind) → is_in Major k ≡ true → rank k ≡ 3
only_major kind.Pin h = cc h
only_major kind.Patch h = cc h
only_major kind.Minor h = cc h
only_major kind.Major h = refl

only_minor : (k : UpdateKind) → is_in Minor k ≡ true → rank k ≡ 2
only_minor kind.Pin h = cc h
only_minor kind.Patch h = cc h
only_minor kind.Minor h = refl
only_minor kind.Major h = cc h

only_patch : (k : UpdateKind) → is_in Patch k ≡ true → rank k ≡ 1
only_patch kind.Pin h = cc h
only_patch kind.Patch h = refl
only_patch kind.Minor h = cc h
only_patch kind.Major h = cc h

no_major : (k : UpdateKind) → is_in Rest k ≡ true → rank k < 3
no_major kind.Pin h = omega arith
no_major kind.Patch h = omega arith
no_major kind.Minor h = omega arith
no_major kind.Major h = cc h

three_apart : AreApart (Patch ∷ Minor ∷ Major ∷ [])
three_apart = (
  (record { below = λ j k h i. omega (arith, only_patch j h, only_minor k i) }, (record { below = λ j k h i. omega (arith, only_patch j h, only_major k i) }, tt)),
  ((record { below = λ j k h i. omega (arith, only_minor j h, only_major k i) }, tt), (tt, tt)),
)

two_apart : AreApart (Rest ∷ Major ∷ [])
two_apart = ((record { below = λ j k h i. omega (arith, no_major j h, only_major k i) }, tt), (tt, tt))

pub buckets_apart : (options : DepOptions) → AreApart (buckets options)
buckets_apart options = elim (cases_Bool options.split_major) [
  | inl major ↦ elim (cases_Bool options.split_patch) [
    | inl patch ↦ rw (major, patch) three_apart
    | inr none ↦ rw (major, none) two_apart
  ]
  | inr none ↦ rw none (tt, tt)
]

-- ---- updates

-- an update to a candidate of the bucket
record IsOf {V R : Type 0} (n : Numbering V R) (aim : Aim V) (b : Bucket) (u : Update) : Type 0 where
  version : V
  read : n.version_of u.new_version ≡ Some version
  above : is_lt (n.order aim.start version) ≡ true
  inside : is_in b (n.kind_between aim.start version) ≡ true

-- the same of a choice
record IsChoiceOf {V R : Type 0} (n : Numbering V R) (aim : Aim V) (b : Bucket) (c : Choice) : Type 0 where
  version : V
  read : n.version_of c.new_version ≡ Some version
  above : is_lt (n.order aim.start version) ≡ true
  inside : is_in b (n.kind_between aim.start version) ≡ true

-- what is wanted is greater than the start
greater_than_start : {V R : Type 0} (n : Numbering V R) (aim : Aim V) (c : Listed V) → is_wanted n aim c ≡ true → is_lt (n.order aim.start c.version) ≡ true
greater_than_start n aim c wanted = (and_parts _ _ (and_parts _ _ (and_parts _ _ wanted).0).0).1

offered_of : {V R : Type 0} (n : Numbering V R) (o : Options) (aim : Aim V) (found : List (Listed V)) (b : Bucket) (c : Offer V) (pending : Bool) (choice : Choice)
    → Each (IsNamed n) found → InBucket n aim found b c → choice ≡ choice_of n o aim pending c → IsChoiceOf n aim b choice
offered_of n o aim found b c pending choice named inside same = record {
  version = c.listed.version;
  read = ap (λ (x : Choice). n.version_of x.new_version) same ∙ All-contains (IsNamed n) found c.listed named inside.candidate.among;
  above = greater_than_start n aim c.listed inside.candidate.wanted;
  inside = inside.inside;
}

choice_is_of : {V R : Type 0} (n : Numbering V R) (o : Options) (moment : ℕ) (aim : Aim V) (found : List (Listed V)) (b : Bucket) (choice : Choice)
    → Each (IsNamed n) found → IsChosen n o moment aim found b (Some choice) → IsChoiceOf n aim b choice
choice_is_of n o moment aim found b choice named chosen = elim chosen [
  | inl ready ↦ offered_of n o aim found b ready.offer false choice named ready.greatest.inside.in_bucket ready.same
  | inr pending ↦ offered_of n o aim found b pending.offer true choice named pending.greatest.inside pending.same
]

less : (r : Ordering) → is_lt r ≡ true → is_gt r ≡ false
less Less h = refl
less Equal h = cc h
less Greater h = cc h

-- the later kind is of the later version
lower : {V R : Type 0} (n : Numbering V R) → IsTotalOrder n.order → KindsRise n → (start v w : V) (r : Ordering) → is_lt (n.order start v) ≡ true → is_lt (n.order start w) ≡ true
    → rank (n.kind_between start v) < rank (n.kind_between start w) → n.order v w ≡ r → r ≡ Less
lower n total rise start v w Less up also kinds is = refl
lower n total rise start v w Equal up also kinds is =
    let back : is_gt (n.order w v) ≡ false = ap is_gt (total.antisymm w v ∙ ap ordering_reverse is) in
    absurd (omega (arith, kinds, rise start w v (less _ also) back))
lower n total rise start v w Greater up also kinds is =
    let back : is_gt (n.order w v) ≡ false = ap is_gt (total.antisymm w v ∙ ap ordering_reverse is) in
    absurd (omega (arith, kinds, rise start w v (less _ also) back))

below : {V R : Type 0} (n : Numbering V R) (aim : Aim V) (b c : Bucket) (u w : Update) → IsTotalOrder n.order → KindsRise n → IsApart b c → IsOf n aim b u → IsOf n aim c w → IsBelow n u w
below n aim b c u w total rise apart of also = record {
  low = of.version;
  high = also.version;
  low_is = of.read;
  high_is = also.read;
  below = lower n total rise aim.start of.version also.version _ of.above also.above (apart.below _ _ of.inside also.inside) refl;
}

-- each of some updates is of one of the buckets
abbrev AreOf : {V R : Type 0} → Numbering V R → Aim V → Bucket → List Update → Type 0
AreOf n aim b us = AllByRecursion (IsOf n aim b) us

enabled_of : {V R : Type 0} (n : Numbering V R) (aim : Aim V) (b : Bucket) (choice : Choice) → IsChoiceOf n aim b choice → AreOf n aim b (enabled_update aim.dep aim.options choice)
enabled_of n aim b choice of = elim (cases_Bool choice.options.enabled) [
  | inl enabled ↦
      subst (λ (q : Bool). AreOf n aim b (if q then update_of aim.dep aim.options choice ∷ [] else [])) (sym enabled)
      (record { version = of.version; read = of.read; above = of.above; inside = of.inside }, tt)
  | inr disabled ↦ subst (λ (q : Bool). AreOf n aim b (if q then update_of aim.dep aim.options choice ∷ [] else [])) (sym disabled) tt
]

updates_of : {V R : Type 0} (n : Numbering V R) (o : Options) (moment : ℕ) (aim : Aim V) (found : List (Listed V)) (b : Bucket) (choice : Option Choice)
    → Each (IsNamed n) found → IsChosen n o moment aim found b choice → AreOf n aim b (updates_to aim.dep aim.options choice)
updates_of n o moment aim found b None named chosen = tt
updates_of n o moment aim found b (Some choice) named chosen = enabled_of n aim b choice (choice_is_of n o moment aim found b choice named chosen)

all_append : {X : Type 0} (P : X → Type 0) (xs ys : List X) → AllByRecursion P xs → AllByRecursion P ys → AllByRecursion P (xs ++ ys)
all_append P [] ys all also = also
all_append P (x ∷ xs) ys all also = (all.0, all_append P xs ys all.1 also)

all_below : {V R : Type 0} (n : Numbering V R) (aim : Aim V) (b c : Bucket) (u : Update) (ws : List Update) → IsTotalOrder n.order → KindsRise n → IsApart b c → IsOf n aim b u → AreOf n aim c ws
    → AllByRecursion (IsBelow n u) ws
all_below n aim b c u [] total rise apart of also = tt
all_below n aim b c u (w ∷ ws) total rise apart of also = (below n aim b c u w total rise apart of also.0, all_below n aim b c u ws total rise apart of also.1)

abbrev to_all : {V : Type 0} → Aim V → List (Option Choice) → List Update
to_all aim choices = flat_map (updates_to aim.dep aim.options) choices

-- an update of the first bucket is below all those of later ones
below_all : {V R : Type 0} (n : Numbering V R) (o : Options) (moment : ℕ) (aim : Aim V) (found : List (Listed V)) (b : Bucket) (bs : List Bucket) (cs : List (Option Choice)) (u : Update)
    → IsTotalOrder n.order → KindsRise n → Each (IsNamed n) found → AllByRecursion (IsApart b) bs → AreChosen n o moment aim found bs cs → IsOf n aim b u → AllByRecursion (IsBelow n u) (to_all aim cs)
below_all n o moment aim found b [] [] u total rise named apart chosen of = tt
below_all n o moment aim found b [] (c ∷ cs) u total rise named apart chosen of = absurd chosen
below_all n o moment aim found b (d ∷ bs) [] u total rise named apart chosen of = absurd chosen
below_all n o moment aim found b (d ∷ bs) (c ∷ cs) u total rise named apart chosen of =
    all_append (IsBelow n u) (updates_to aim.dep aim.options c) (to_all aim cs)
    (all_below n aim b d u (updates_to aim.dep aim.options c) total rise apart.0 of (updates_of n o moment aim found d c named chosen.0))
    (below_all n o moment aim found b bs cs u total rise named apart.1 chosen.1 of)

first_of_enabled : {V R : Type 0} (n : Numbering V R) (aim : Aim V) (b : Bucket) (choice : Choice) → choice.options.enabled ≡ true → AreOf n aim b (enabled_update aim.dep aim.options choice)
    → IsOf n aim b (update_of aim.dep aim.options choice)
first_of_enabled n aim b choice enabled of =
    (subst (λ (q : Bool). AreOf n aim b (if q then update_of aim.dep aim.options choice ∷ [] else [])) enabled of).0

abbrev joined_rising : {V R : Type 0} → Numbering V R → Aim V → Choice → List Update → Bool → Type 0
joined_rising n aim choice us enabled = AreRising n ((if enabled then update_of aim.dep aim.options choice ∷ [] else []) ++ us)

-- at most one update before rising ones
before_rising : {V R : Type 0} (n : Numbering V R) (aim : Aim V) (b : Bucket) (choice : Option Choice) (us : List Update) → AreOf n aim b (updates_to aim.dep aim.options choice)
    → ((u : Update) → IsOf n aim b u → AllByRecursion (IsBelow n u) us) → AreRising n us → AreRising n (updates_to aim.dep aim.options choice ++ us)
before_rising n aim b None us of all rising = rising
before_rising n aim b (Some choice) us of all rising = elim (cases_Bool choice.options.enabled) [
  | inl enabled ↦
      subst (joined_rising n aim choice us) (sym enabled)
      (all (update_of aim.dep aim.options choice) (first_of_enabled n aim b choice enabled of), rising)
  | inr disabled ↦ subst (joined_rising n aim choice us) (sym disabled) rising
]

are_rising : {V R : Type 0} (n : Numbering V R) (o : Options) (moment : ℕ) (aim : Aim V) (found : List (Listed V)) (bs : List Bucket) (cs : List (Option Choice))
    → IsTotalOrder n.order → KindsRise n → Each (IsNamed n) found → AreApart bs → AreChosen n o moment aim found bs cs → AreRising n (to_all aim cs)
are_rising n o moment aim found [] [] total rise named apart chosen = tt
are_rising n o moment aim found [] (c ∷ cs) total rise named apart chosen = absurd chosen
are_rising n o moment aim found (b ∷ bs) [] total rise named apart chosen = absurd chosen
are_rising n o moment aim found (b ∷ bs) (c ∷ cs) total rise named apart chosen =
    before_rising n aim b c (to_all aim cs) (updates_of n o moment aim found b c named chosen.0)
    (λ u of. below_all n o moment aim found b bs cs u total rise named apart.0 chosen.1 of)
    (are_rising n o moment aim found bs cs total rise named apart.1 chosen.1)

pub chosen_rising : {V R : Type 0} (n : Numbering V R) (o : Options) (moment : ℕ) (aim : Aim V) (found : List (Listed V)) (cs : List (Option Choice))
    → IsTotalOrder n.order → KindsRise n → Each (IsNamed n) found → AreChosen n o moment aim found (buckets aim.options) cs → AreRising n (flat_map (updates_to aim.dep aim.options) cs)
chosen_rising n o moment aim found cs total rise named chosen = are_rising n o moment aim found (buckets aim.options) cs total rise named (buckets_apart aim.options) chosen
