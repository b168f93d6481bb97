-- The items of the groups, sorted, are the items of the updates.
use Rattle.std.proofs.Common.{◌≡◌, ℕ, zero, suc, ◌+◌, ◌<◌, List, [], ◌∷◌, Bool, true, false, Some, length, map, get_or, refl, sym, ◌∙◌, ap, subst, inl, inr, arith}
use Rattle.std.specs.Prelude.{◌≢◌, filter}
use Rattle.std.specs.List.{All, Any, IsDistinct}
use Rattle.std.specs.List.Sorted.{IsPermutation, IsSorted, IsStrictlySortedBy}
use Rattle.std.specs.Map.{keys_of}
use Rattle.std.specs.BTreeMap.{BTreeMap, get, is_at, keys, IsOrdered}
use Rattle.std.specs.Cmp.{IsTotalOrder, then_total, on_total, nat_cmp_total}
use Rattle.std.specs.Cmp.Lexicographic.{slice_cmp}
use Rattle.std.specs.Ordering.{nat_cmp, eq_by_cmp, is_eq, is_lt, ordering_then, ordering_reverse}
use Rattle.std.specs.declared.cmp.Ordering.{Ordering}
use Rattle.std.specs.declared.cmp.Ordering.TheVariants.{Less, Equal, Greater}
use Rattle.std.proofs.lemmas.Bool.{cases_Bool}
use Rattle.std.proofs.lemmas.Cmp.{back_total, eq_by_cmp_equiv, int_cmp_total, nat_list_cmp_total}
use Rattle.std.proofs.lemmas.List.{length-map}
use Rattle.std.proofs.Math.ListN.{get_or-map}
use Rattle.std.proofs.lemmas.List.Elements.{All-map}
use Rattle.std.proofs.lemmas.List.Sorted.{All-permutation, Contains-permutation, IsPermutation-map}
use Rattle.std.proofs.lemmas.Map.Entries.{btree_map_get_place, place_from_lookup}
use Rattle.std.proofs.lemmas.Map.Lookups.{exact_bytes}
use Rattle.std.proofs.lemmas.Map.Keys.{IsDistinct-from_sorted, IsDistinct-IsPermutation, apart_from_distinct, sorted_from_all_adjacent}
use Rattle.std.proofs.lemmas.Option.{slice_get-get_or, get_or_from_slice_get, slice_get_within}
use Rattle.rnv_pick.specs.declared.update.Update.{Update}
use Rattle.rnv_base.specs.Kinds.{rank}
use Rattle.rnv_plan.specs.declared.group.Group.{Group}
use Rattle.rnv_plan.specs.Items.{branch_name, is_on, item_cmp, IsGroup, AreGroups}
use Rattle.rnv_plan.specs.Groups.{not_empty, group_of, item_of}
use Rattle.rnv_plan.proofs.Grouped.{equal, on_own}
use Rattle.rnv_plan.proofs.GreatestKind.{is_greatest_kind}

abbrev Groups : Type 0
Groups = BTreeMap (List ℕ) (List Update)

abbrev name_cmp : List ℕ → List ℕ → Ordering
name_cmp = slice_cmp nat_cmp

abbrev Holds : List Update → Groups → Type 0
Holds updates groups = (q : List ℕ) → get name_cmp groups q ≡ group_of q updates

-- ---- each is the item of its branch

some-is : (us vs : List Update) → not_empty us ≡ Some vs → vs ≡ us
some-is [] vs is = cc is
some-is (u ∷ us) vs is = cc is

some-has : (us vs : List Update) → not_empty us ≡ Some vs → vs ≢ []
some-has [] vs is = cc is
some-has (u ∷ us) vs is = λ none. cc (is, none)

is-item : (updates : List Update) (branch : List ℕ) (us : List Update) → group_of branch updates ≡ Some us → IsGroup updates (item_of (branch, us))
is-item updates branch us group =
    let some = some-has (filter (is_on branch) updates) us group in
    record { some = some; all = some-is (filter (is_on branch) updates) us group; greatest = is_greatest_kind us some; priority = refl }

each : (updates : List Update) (groups : Groups) → IsOrdered name_cmp groups → Holds updates groups → All (IsGroup updates) (map item_of groups.entries)
each updates groups ordered holds = All-map (IsGroup updates) item_of groups.entries (λ i d within.
    let e = get_or groups.entries i d in
    let found = btree_map_get_place nat_list_cmp_total groups i e.0 e.1 ordered (slice_get-get_or groups.entries i d within) in
    is-item updates e.0 e.1 (sym (holds e.0) ∙ found))

-- ---- each update's branch has an item

kept : (p : Update → Bool) (us : List Update) (i : ℕ) (d : Update) → i < length us → p (get_or us i d) ≡ true → (vs : List Update) × (not_empty (filter p us) ≡ Some vs)
kept p [] i d within passes = absurd (omega arith)
kept p (u ∷ us) zero d within passes = (u ∷ filter p us, rw passes refl)
kept p (u ∷ us) (suc i) d within passes = elim (cases_Bool (p u)) [
  | inl passed ↦ (u ∷ filter p us, rw passed refl)
  | inr failed ↦ rw failed (kept p us i d (omega arith) passes)
]

has-item : (updates : List Update) (groups : Groups) → Holds updates groups → (i : ℕ) (d : Update) → i < length updates → Any (λ item. item.branch ≡ branch_name (get_or updates i d)) (map item_of groups.entries)
has-item updates groups holds i d within =
    let u = get_or updates i d in let q = branch_name u in
    let some = kept (is_on q) updates i d within (on_own u) in
    let place = place_from_lookup (is_at (name_cmp q)) groups.entries some.0 (holds q ∙ some.1) in
    let item : Group = item_of (place.1, some.0) in
    let inside : place.0 < length groups.entries = slice_get_within groups.entries place.0 (place.1, some.0) place.2 in
    let there : get_or (map item_of groups.entries) place.0 item ≡ item =
    get_or-map item_of groups.entries place.0 (place.1, some.0) ∙ ap item_of (get_or_from_slice_get groups.entries place.0 (place.1, some.0) (place.1, some.0) place.2) in
    (place.0, item, rw (length-map groups.entries item_of) inside, there, sym (exact_bytes q place.1 (equal (name_cmp q place.1) place.3)))

-- ---- they rise

then-unequal : (o p : Ordering) → is_eq p ≡ false → is_eq (ordering_then o p) ≡ false
then-unequal Less p unequal = refl
then-unequal Equal p unequal = unequal
then-unequal Greater p unequal = refl

turned : (o p : Ordering) → p ≡ ordering_reverse o → is_lt o ≡ false → is_eq p ≡ false → p ≡ Less
turned Less p is not unequal = cc not
turned Equal p is not unequal = cc (is, unequal)
turned Greater p is not unequal = is

pub item-total : IsTotalOrder item_cmp
item-total = then_total (then_total (on_total (λ (i : Group). i.priority) (back_total int_cmp_total)) (on_total (λ (i : Group). rank i.kind) nat_cmp_total)) (on_total (λ (i : Group). i.branch) nat_list_cmp_total)

names : (es : List (List ℕ × List Update)) → map (λ (item : Group). item.branch) (map item_of es) ≡ keys_of es
names [] = refl
names (e ∷ es) = ap (λ rest. e.0 ∷ rest) (names es)

distinct : (groups : Groups) (items : List Group) → IsOrdered name_cmp groups → IsPermutation (map item_of groups.entries) items → IsDistinct (eq_by_cmp name_cmp) (map (λ (item : Group). item.branch) items)
distinct groups items ordered moved =
    let branch : Group → List ℕ = λ item. item.branch in let E = eq_by_cmp name_cmp in
    let before : IsDistinct E (map branch (map item_of groups.entries)) = subst (IsDistinct E) (sym (names groups.entries)) (IsDistinct-from_sorted name_cmp (keys groups) ordered) in
    IsDistinct-IsPermutation E (eq_by_cmp_equiv nat_list_cmp_total).symm _ _ (IsPermutation-map branch (map item_of groups.entries) items moved) before

rising : (items : List Group) → IsDistinct (eq_by_cmp name_cmp) (map (λ (item : Group). item.branch) items) → IsSorted item_cmp items → IsStrictlySortedBy item_cmp items
unfolding IsStrictlySortedBy
rising [] apart sorted = tt
rising (x ∷ xs) apart sorted =
    let branch : Group → List ℕ = λ item. item.branch in
    sorted_from_all_adjacent item-total (x ∷ xs) x (λ k below.
    let a = get_or (x ∷ xs) k x in let b = get_or (x ∷ xs) (k + 1) x in
    let unequal : is_eq (name_cmp a.branch b.branch) ≡ false =
    rw (← get_or-map branch (x ∷ xs) k x, ← get_or-map branch (x ∷ xs) (k + 1) x)
    (apart_from_distinct (eq_by_cmp name_cmp) (map branch (x ∷ xs)) k (k + 1) x.branch apart (omega arith) (omega (arith, length-map (x ∷ xs) branch))) in
    turned (item_cmp b a) (item_cmp a b) (item-total.antisymm a b) (sorted k x (omega arith) below) (then-unequal _ _ unequal))

pub are_items : (updates : List Update) (groups : Groups) (items : List Group) → IsOrdered name_cmp groups → Holds updates groups → IsPermutation (map item_of groups.entries) items → IsSorted item_cmp items → AreGroups updates items
are_items updates groups items ordered holds moved sorted = record {
  rising = rising items (distinct groups items ordered moved) sorted;
  each = All-permutation (IsGroup updates) (map item_of groups.entries) items moved (each updates groups ordered holds);
  every = λ i d within.
      let found = has-item updates groups holds i d within in
      let moved_too = Contains-permutation (map item_of groups.entries) items found.1 moved (found.0, found.2, found.3) in
      (moved_too.0, found.1, moved_too.1, moved_too.2, found.4);
}
