-- Two lists of items of the same updates are one list.
use Rattle.std.proofs.Common.{◌≡◌, ℕ, zero, suc, ◌⊎◌, List, [], ◌∷◌, Bool, true, refl, sym, ◌∙◌, ap, subst, inl, inr, arith}
use Rattle.std.specs.Prelude.{ℤ, filter, ◌≢◌}
use Rattle.std.specs.List.{Any, Contains}
use Rattle.std.specs.List.Sorted.{IsStrictlySortedBy}
use Rattle.std.specs.Cmp.{IsTotalOrder}
use Rattle.std.specs.Ordering.{ordering_reverse}
use Rattle.std.specs.declared.cmp.Ordering.{Ordering}
use Rattle.std.specs.declared.cmp.Ordering.TheVariants.{Less}
use Rattle.std.proofs.lemmas.Bool.{cases_Bool}
use Rattle.std.proofs.lemmas.Cmp.{tied_itself}
use Rattle.std.proofs.lemmas.List.Elements.{All-contains, All-from_recursion}
use Rattle.std.proofs.lemmas.Map.Keys.{sorted_head, sorted_tail}
use Rattle.rnv_base.specs.declared.kinds.UpdateKind.{UpdateKind}
use Rattle.rnv_pick.specs.declared.update.Update.{Update}
use Rattle.rnv_plan.specs.declared.group.Group.{Group}
use Rattle.rnv_plan.specs.Items.{branch_name, is_on, priority_of, item_cmp, IsGroup, AreGroups}
use Rattle.rnv_plan.specs.Laws.{GroupsAreUnique}
use Rattle.rnv_plan.proofs.GreatestKind.{one_greatest_kind}
use Rattle.rnv_plan.proofs.Grouped.{same_name}
use Rattle.rnv_plan.proofs.Listed.{item-total}

-- ---- strictly sorted lists of the same elements

abbrev Within : {X : Type 0} → List X → List X → Type 0
Within {X} xs ys = (x : X) → Contains xs x → Contains ys x

here : {X : Type 0} (x : X) (xs : List X) → Contains (x ∷ xs) x
here x xs = (0, omega arith, refl)

later : {X : Type 0} (y : X) (xs : List X) (x : X) → Contains xs x → Contains (y ∷ xs) x
later y xs x there = (suc there.0, omega (arith, there.1), there.2)

first-or-later : {X : Type 0} (y : X) (xs : List X) (x : X) → Contains (y ∷ xs) x → (y ≡ x) ⊎ Contains xs x
first-or-later y xs x (zero, within, is) = inl is
first-or-later y xs x (suc i, within, is) = inr (i, omega arith, is)

nothing : {X : Type 0} (x : X) → Contains [] x → ⊥
nothing x there = omega (arith, there.1)

above-head : {X : Type 0} (R : X → X → Ordering) (x : X) (xs : List X) (y : X) → IsStrictlySortedBy R (x ∷ xs) → Contains xs y → R x y ≡ Less
above-head R x xs y sorted there = All-contains (λ z. R x z ≡ Less) xs y (All-from_recursion (λ z. R x z ≡ Less) xs (sorted_head R x xs sorted)) there

one-way : {X : Type 0} (R : X → X → Ordering) (o : IsTotalOrder R) (x y : X) → R x y ≡ Less → R y x ≡ Less → ⊥
one-way R o x y up down = cc (o.antisymm x y, ap ordering_reverse down)

same-heads : {X : Type 0} (R : X → X → Ordering) (o : IsTotalOrder R) (x y : X) (xs ys : List X) → IsStrictlySortedBy R (x ∷ xs) → IsStrictlySortedBy R (y ∷ ys) → Contains (y ∷ ys) x → Contains (x ∷ xs) y → x ≡ y
same-heads R o x y xs ys left right x-there y-there = elim (first-or-later y ys x x-there) [
  | inl same ↦ sym same
  | inr x-later ↦ elim (first-or-later x xs y y-there) [
    | inl same ↦ same
    | inr y-later ↦ absurd (one-way R o x y (above-head R x xs y left y-later) (above-head R y ys x right x-later))
  ]
]

-- an element of the rest is none of the other list's head, which is the same
rest-within : {X : Type 0} (R : X → X → Ordering) (o : IsTotalOrder R) (x y : X) (xs ys : List X) → x ≡ y → IsStrictlySortedBy R (x ∷ xs) → Within (x ∷ xs) (y ∷ ys) → Within xs ys
rest-within R o x y xs ys heads sorted within z there = elim (first-or-later y ys z (within z (later x xs z there))) [
  | inl head ↦ absurd (cc (tied_itself o x, above-head R x xs z sorted there, ap (R x) (heads ∙ head)))
  | inr found ↦ found
]

one-list : {X : Type 0} (R : X → X → Ordering) (o : IsTotalOrder R) (xs ys : List X) → IsStrictlySortedBy R xs → IsStrictlySortedBy R ys → Within xs ys → Within ys xs → xs ≡ ys
one-list R o [] [] left right there back = refl
one-list R o [] (y ∷ ys) left right there back = absurd (nothing y (back y (here y ys)))
one-list R o (x ∷ xs) [] left right there back = absurd (nothing x (there x (here x xs)))
one-list R o (x ∷ xs) (y ∷ ys) left right there back =
    let heads : x ≡ y = same-heads R o x y xs ys left right (there x (here x xs)) (back y (here y ys)) in
    let rests : xs ≡ ys = one-list R o xs ys (sorted_tail R x xs left) (sorted_tail R y ys right)
    (rest-within R o x y xs ys heads left there) (rest-within R o y x ys xs (sym heads) right back) in
    cc

-- ---- items of one branch

same-parts : (n m : List ℕ) (k l : UpdateKind) (p q : ℤ) (us vs : List Update) → n ≡ m → k ≡ l → p ≡ q → us ≡ vs → ◌≡◌ {A = Group} (record { branch = n; kind = k; priority = p; updates = us }) (record { branch = m; kind = l; priority = q; updates = vs })
same-parts n m k l p q us vs branches kinds priorities lists = cc

pub one-item : (updates : List Update) (a b : Group) → IsGroup updates a → IsGroup updates b → a.branch ≡ b.branch → a ≡ b
one-item updates a b left right branches =
    let lists : a.updates ≡ b.updates = left.all ∙ ap (λ q. filter (is_on q) updates) branches ∙ sym right.all in
    let kinds : a.kind ≡ b.kind = one_greatest_kind a.updates a.kind b.kind left.greatest (rw lists right.greatest) in
    same-parts _ _ _ _ _ _ _ _ branches kinds (left.priority ∙ (ap priority_of lists ∙ sym right.priority)) lists

-- an update on a branch that has some
some-update : (p : Update → Bool) (us : List Update) → filter p us ≢ [] → (u : Update) × Contains us u × (p u ≡ true)
some-update p [] some = absurd (some refl)
some-update p (u ∷ us) some = elim (cases_Bool (p u)) [
  | inl passed ↦ (u, here u us, passed)
  | inr failed ↦
      let rest = some-update p us (λ none. some (rw failed none)) in
      (rest.0, later u us rest.0 rest.1, rest.2)
]

among : (updates : List Update) (xs ys : List Group) → AreGroups updates xs → AreGroups updates ys → Within xs ys
among updates xs ys left right a there =
    let item = All-contains (IsGroup updates) xs a left.each there in
    let some = some-update (is_on a.branch) updates (λ none. item.some (item.all ∙ none)) in
    let u = some.0 in
    let found = All-contains (λ v. Any (λ i. i.branch ≡ branch_name v) ys) updates u right.every some.1 in
    let b = found.1 in
    let there_too : Contains ys b = (found.0, found.2, found.3) in
    let same : b ≡ a = one-item updates b a (All-contains (IsGroup updates) ys b right.each there_too) item (found.4 ∙ same_name (branch_name u) a.branch some.2) in
    subst (Contains ys) same there_too

pub items_are_unique : GroupsAreUnique
items_are_unique updates xs ys left right =
    one-list item_cmp item-total xs ys left.rising right.rising (among updates xs ys left right) (among updates ys xs right left)
