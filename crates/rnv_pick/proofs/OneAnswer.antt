-- A dependency has one answer.
use Rattle.std.proofs.Common.{◌≡◌, ◌⊎◌, ℕ, Bool, true, false, List, [], ◌∷◌, ◌++◌, Option, Some, None, map, refl, sym, subst, ◌∙◌, ap, inl, inr}
use Rattle.std.specs.Prelude.{MatchBool, unwrap_or}
use Rattle.std.specs.Cmp.{IsTotalOrder}
use Rattle.std.specs.FinMap.{nat_cmp-IsAntisymmetric, slice_cmp-IsAntisymmetric}
use Rattle.std.specs.List.{All, flat_map}
use Rattle.std.specs.Ordering.{is_gt, ordering_reverse, ordering_then}
use Rattle.std.specs.declared.cmp.Ordering.{Ordering}
use Rattle.std.specs.declared.cmp.Ordering.TheVariants.{Less, Equal, Greater}
use Rattle.std.proofs.lemmas.Bool.{cases_Bool}
use Rattle.std.proofs.lemmas.List.Elements.{All-contains}
use Rattle.rnv_base.specs.declared.kinds.SourceKind.{SourceKind}
use Rattle.rnv_base.specs.declared.kinds.SourceKind.TheVariants as source
use Rattle.rnv_release.specs.declared.release.Release.{Release}
use Rattle.rnv_version.specs.Docker.{tag_total}
use Rattle.rnv_version.specs.Numbering.{Numbering}
use Rattle.rnv_version.specs.SemVer.{version_total}
use Rattle.rnv_version.specs.Versionings.{cargo, docker}
use Rattle.rnv_npm.specs.Numbering.{npm}
use Rattle.rnv_pick.specs.declared.bucket.Bucket.{Bucket}
use Rattle.rnv_pick.specs.declared.dep.Dep.{Dep}
use Rattle.rnv_pick.specs.declared.options.DepOptions.{DepOptions}
use Rattle.rnv_pick.specs.declared.choice.Choice.{Choice}
use Rattle.rnv_pick.specs.declared.update.Picked.{Picked}
use Rattle.rnv_pick.specs.declared.update.Skip.{Skip}
use Rattle.rnv_pick.specs.declared.update.Update.{Update}
use Rattle.rnv_pick.specs.BySource.{HasOneAnswer, IsPickedFrom}
use Rattle.rnv_pick.specs.Buckets.{buckets}
use Rattle.rnv_pick.specs.Candidates.{Aim, IsCandidate, Offer, kind_of, offer_cmp}
use Rattle.rnv_pick.specs.Choices.{InBucket, IsChosen, choice_of}
use Rattle.rnv_pick.specs.Greatest.{IsBest, IsGreatest}
use Rattle.rnv_pick.specs.Listing.{IsGreatestIn, IsNamed, Listed, in_range, listed_cmp, listed_total, live_releases, text_of}
use Rattle.rnv_pick.specs.Options.{Options, with_current}
use Rattle.rnv_pick.specs.Updates.{AreChosen, AreToChosen, AreUnlessSkipped, AreUpdates, AreUpdatesAt, AreUpdatesFrom, IsCurrent, IsCurrentIn, IsPicked, skip_of, updates_to}
use Rattle.rnv_pick.proofs.Listings.{all_named}

tie : (r s : Ordering) → s ≡ ordering_reverse r → is_gt r ≡ false → is_gt s ≡ false → r ≡ Equal
tie Less s e f g = cc g
tie Equal s e f g = refl
tie Greater s e f g = cc f

second_ties : (r s : Ordering) → ordering_then r s ≡ Equal → s ≡ Equal
second_ties Less s e = cc e
second_ties Equal s e = e
second_ties Greater s e = cc e

-- two that are not above each other have one text
same_text : {V R : Type 0} (n : Numbering V R) → IsTotalOrder n.order → (a b : Listed V) → is_gt (listed_cmp n a b) ≡ false → is_gt (listed_cmp n b a) ≡ false → a.release.text ≡ b.release.text
same_text n total a b h i =
    let tied = tie (listed_cmp n a b) (listed_cmp n b a) ((listed_total n total).antisymm b a) h i in
    slice_cmp-IsAntisymmetric nat_cmp-IsAntisymmetric a.release.text b.release.text (second_ties _ _ tied)

-- ---- the current version

one_best : {V R : Type 0} (n : Numbering V R) → IsTotalOrder n.order → (p : Listed V → Bool) (found : List (Listed V)) (a b : Option (Listed V)) → IsBest (listed_cmp n) p found a
    → IsBest (listed_cmp n) p found b → text_of a ≡ text_of b
one_best n total p found None None g h = refl
one_best n total p found None (Some b) g h = let both = h.inside in let none = g b both.0 in cc (sym none ∙ both.1)
one_best n total p found (Some a) None g h = let both = g.inside in let none = h a both.0 in cc (sym none ∙ both.1)
one_best n total p found (Some a) (Some b) g h = ap (λ (t : List ℕ). Some t) (same_text n total a b (h.greatest a g.inside) (g.greatest b h.inside))

current_in : {V R : Type 0} (n : Numbering V R) → IsTotalOrder n.order → (range : R) (found : List (Listed V)) (a b : Option (List ℕ)) → IsGreatestIn n range found a
    → IsGreatestIn n range found b → a ≡ b
current_in n total range found a b g h = g.text_is ∙ one_best n total (in_range n range) found g.best h.best g.is_best h.is_best ∙ sym h.text_is

match_true : (b : Bool) (P Q : Type 0) → b ≡ true → MatchBool b P Q → P
match_true true P Q e m = m
match_true false P Q e m = cc e

match_false : (b : Bool) (P Q : Type 0) → b ≡ false → MatchBool b P Q → Q
match_false true P Q e m = cc e
match_false false P Q e m = m

current_at : {V R : Type 0} (n : Numbering V R) → IsTotalOrder n.order → (value : List ℕ) (found : List (Listed V)) (range : Option R) (a b : Option (List ℕ))
    → IsCurrentIn n value found range a → IsCurrentIn n value found range b → a ≡ b
current_at n total value found None a b g h = g ∙ sym h
current_at n total value found (Some range) a b g h = elim (cases_Bool (n.is_exact range)) [
  | inl exact ↦ match_true (n.is_exact range) (a ≡ n.exact_text value) (IsGreatestIn n range found a) exact g ∙ sym (match_true (n.is_exact range) (b ≡ n.exact_text value) (IsGreatestIn n range found b) exact h)
  | inr not ↦ current_in n total range found a b (match_false (n.is_exact range) (a ≡ n.exact_text value) (IsGreatestIn n range found a) not g)
      (match_false (n.is_exact range) (b ≡ n.exact_text value) (IsGreatestIn n range found b) not h)
]

-- ---- choices

abbrev made : {V R : Type 0} → Numbering V R → Options → Aim V → Bool → List ℕ → V → List ℕ → Choice
made n o aim pending text version value = record {
  new_version = text;
  new_value = value;
  kind = n.kind_between aim.start version;
  pending = pending;
  options = o.at_update aim.dep (n.kind_between aim.start version) value;
}

same_choice : {V R : Type 0} (n : Numbering V R) (o : Options) (aim : Aim V) (found : List (Listed V)) (pending : Bool) (a b : Offer V) → All (IsNamed n) found
    → IsCandidate n aim found a → IsCandidate n aim found b → a.listed.release.text ≡ b.listed.release.text → choice_of n o aim pending a ≡ choice_of n o aim pending b
same_choice {V} n o aim found pending a b named first second text =
    let versions : Some a.listed.version ≡ Some b.listed.version =
    sym (All-contains (IsNamed n) found a.listed named first.among) ∙ ap n.version_of text ∙ All-contains (IsNamed n) found b.listed named second.among in
    let version : a.listed.version ≡ b.listed.version = cc versions in
    let values : Some a.new_value ≡ Some b.new_value =
    sym first.new_value ∙ ap (λ (t : List ℕ). n.new_text aim.options.strategy aim.dep.value t) text ∙ second.new_value in
    let value : a.new_value ≡ b.new_value = cc values in
    ap (λ t. made n o aim pending t a.listed.version a.new_value) text ∙ ap (λ v. made n o aim pending b.listed.release.text v a.new_value) version
    ∙ ap (λ t. made n o aim pending b.listed.release.text b.listed.version t) value

one_of : {V R : Type 0} (n : Numbering V R) → IsTotalOrder n.order → (o : Options) (aim : Aim V) (found : List (Listed V)) (pending : Bool) (P : Offer V → Type 0) (a b : Offer V) (c d : Choice)
    → All (IsNamed n) found → ((x : Offer V) → P x → IsCandidate n aim found x) → IsGreatest (offer_cmp n) P a → IsGreatest (offer_cmp n) P b → c ≡ choice_of n o aim pending a → d ≡ choice_of n o aim pending b → c ≡ d
one_of n total o aim found pending P a b c d named candidate g h is also =
    let text = same_text n total a.listed b.listed (h.greatest a g.inside) (g.greatest b h.inside) in
    is ∙ same_choice n o aim found pending a b named (candidate a g.inside) (candidate b h.inside) text ∙ sym also

one_chosen : {V R : Type 0} (n : Numbering V R) → IsTotalOrder n.order → (o : Options) (moment : ℕ) (aim : Aim V) (found : List (Listed V)) (b : Bucket) (c d : Option Choice)
    → All (IsNamed n) found → IsChosen n o moment aim found b c → IsChosen n o moment aim found b d → c ≡ d
one_chosen n total o moment aim found b None None named g h = refl
one_chosen n total o moment aim found b None (Some d) named g h = elim h [
  | inl ready ↦ absurd (g ready.offer ready.greatest.inside.in_bucket)
  | inr pending ↦ absurd (g pending.offer pending.greatest.inside)
]
one_chosen n total o moment aim found b (Some c) None named g h = elim g [
  | inl ready ↦ absurd (h ready.offer ready.greatest.inside.in_bucket)
  | inr pending ↦ absurd (h pending.offer pending.greatest.inside)
]
one_chosen n total o moment aim found b (Some c) (Some d) named g h = elim g [
  | inl ready ↦ elim h [
    | inl other ↦
        ap (λ (x : Choice). Some x)
        (one_of n total o aim found false _ ready.offer other.offer c d named (λ x p. p.in_bucket.candidate) ready.greatest other.greatest ready.same other.same)
    | inr other ↦ absurd (other.none ready.offer ready.greatest.inside)
  ]
  | inr pending ↦ elim h [
    | inl other ↦ absurd (pending.none other.offer other.greatest.inside)
    | inr other ↦
        ap (λ (x : Choice). Some x) (one_of n total o aim found true _ pending.offer other.offer c d named (λ x p. p.candidate) pending.greatest other.greatest pending.same other.same)
  ]
]

abbrev two : Option Choice → List (Option Choice) → List (Option Choice)
two c cs = c ∷ cs

all_chosen : {V R : Type 0} (n : Numbering V R) → IsTotalOrder n.order → (o : Options) (moment : ℕ) (aim : Aim V) (found : List (Listed V)) (bs : List Bucket) (cs ds : List (Option Choice))
    → All (IsNamed n) found → AreChosen n o moment aim found bs cs → AreChosen n o moment aim found bs ds → cs ≡ ds
all_chosen n total o moment aim found [] [] [] named g h = refl
all_chosen n total o moment aim found [] (c ∷ cs) ds named g h = absurd g
all_chosen n total o moment aim found [] [] (d ∷ ds) named g h = absurd h
all_chosen n total o moment aim found (b ∷ bs) [] ds named g h = absurd g
all_chosen n total o moment aim found (b ∷ bs) (c ∷ cs) [] named g h = absurd h
all_chosen n total o moment aim found (b ∷ bs) (c ∷ cs) (d ∷ ds) named g h =
    ap (λ x. two x cs) (one_chosen n total o moment aim found b c d named g.0 h.0) ∙ ap (two d) (all_chosen n total o moment aim found bs cs ds named g.1 h.1)

-- ---- updates

one_list : {V R : Type 0} (n : Numbering V R) → IsTotalOrder n.order → (o : Options) (moment : ℕ) (aim : Aim V) (found : List (Listed V)) (us ws : List Update)
    → All (IsNamed n) found → AreToChosen n o moment aim found us → AreToChosen n o moment aim found ws → us ≡ ws
one_list n total o moment aim found us ws named g h =
    g.same ∙ ap (λ cs. flat_map (updates_to aim.dep aim.options) cs) (all_chosen n total o moment aim found (buckets aim.options) g.choices h.choices named g.chosen h.chosen) ∙ sym h.same

one_match : (b : Bool) (first : List Update) (P : List Update → Type 0) → ((us ws : List Update) → P us → P ws → us ≡ ws) → (us ws : List Update) → MatchBool b (us ≡ first) (P us)
    → MatchBool b (ws ≡ first) (P ws) → us ≡ ws
one_match true first P one us ws g h = g ∙ sym h
one_match false first P one us ws g h = one us ws g h

updates_at : {V R : Type 0} (n : Numbering V R) → IsTotalOrder n.order → (o : Options) (moment : ℕ) (dep : Dep) (options : DepOptions) (found : List (Listed V)) (range : R) (current : List ℕ)
    (version : Option V) (us ws : List Update) → All (IsNamed n) found → AreUpdatesAt n o moment dep options found range current version us → AreUpdatesAt n o moment dep options found range current version ws
    → us ≡ ws
updates_at n total o moment dep options found range current None us ws named g h = g ∙ sym h
updates_at n total o moment dep options found range current (Some version) us ws named g h =
    one_match _ _ _ (λ us ws first second. one_list n total o moment _ found us ws named first second) us ws g h

updates_of : {V R : Type 0} (n : Numbering V R) → IsTotalOrder n.order → (o : Options) (moment : ℕ) (dep : Dep) (found : List (Listed V)) (range : Option R) (current : Option (List ℕ))
    (us ws : List Update) → All (IsNamed n) found → AreUpdates n o moment dep found range current us → AreUpdates n o moment dep found range current ws → us ≡ ws
updates_of n total o moment dep found None None us ws named g h = g ∙ sym h
updates_of n total o moment dep found None (Some current) us ws named g h = g ∙ sym h
updates_of n total o moment dep found (Some range) None us ws named g h = g ∙ sym h
updates_of n total o moment dep found (Some range) (Some current) us ws named g h =
    updates_at n total o moment dep (o.at_dep dep) found range current (n.version_of current) us ws named g h

unless_skipped : {V R : Type 0} (n : Numbering V R) → IsTotalOrder n.order → (o : Options) (moment : ℕ) (dep : Dep) (found : List (Listed V)) (skip : Option Skip) (us ws : List Update)
    → All (IsNamed n) found → AreUnlessSkipped n o moment dep found skip us → AreUnlessSkipped n o moment dep found skip ws → us ≡ ws
unless_skipped n total o moment dep found None us ws named g h = updates_of n total o moment dep found (n.range_of dep.value) dep.current us ws named g h
unless_skipped n total o moment dep found (Some skip) us ws named g h = g ∙ sym h

abbrev answer : Option (List ℕ) → Option Skip → List Update → Picked
answer current skip updates = record { current = current; skip = skip; updates = updates }

pub one_picked : {V R : Type 0} (n : Numbering V R) → IsTotalOrder n.order → (o : Options) (moment : ℕ) (dep : Dep) (releases : Option (List Release)) (p q : Picked)
    → IsPicked n o moment dep releases p → IsPicked n o moment dep releases q → p ≡ q
one_picked n total o moment dep releases p q g h =
    let all = live_releases n (unwrap_or releases []) in
    let current = current_at n total dep.value all (n.range_of dep.value) p.current q.current g.current h.current in
    let skip = g.skip ∙ ap (λ c. skip_of n o (with_current dep c) releases) current ∙ sym h.skip in
    let moved = subst (λ c. AreUnlessSkipped n o moment (with_current dep c) all p.skip p.updates) current g.updates in
    let same = subst (λ s. AreUnlessSkipped n o moment (with_current dep q.current) all s p.updates) skip moved in
    let updates = unless_skipped n total o moment (with_current dep q.current) all q.skip p.updates q.updates (all_named n (unwrap_or releases [])) same h.updates in
    ap (λ c. answer c p.skip p.updates) current ∙ ap (λ s. answer q.current s p.updates) skip ∙ ap (λ us. answer q.current q.skip us) updates

one_from : (from : SourceKind) (o : Options) (moment : ℕ) (dep : Dep) (releases : Option (List Release)) (p q : Picked) → IsPickedFrom from o moment dep releases p
    → IsPickedFrom from o moment dep releases q → p ≡ q
one_from source.Crates o moment dep releases p q g h = one_picked cargo version_total o moment dep releases p q g h
one_from source.Npm o moment dep releases p q g h = one_picked npm version_total o moment dep releases p q g h
one_from source.Docker o moment dep releases p q g h = one_picked docker tag_total o moment dep releases p q g h

pub one_answer : (o : Options) (moment : ℕ) (dep : Dep) (releases : Option (List Release)) → HasOneAnswer o moment dep releases
one_answer o moment dep releases = one_from dep.source o moment dep releases
