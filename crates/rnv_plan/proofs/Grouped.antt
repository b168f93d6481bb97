-- What is on a branch, with one more element of a list.
use Rattle.std.proofs.Common.{◌≡◌, ℕ, List, [], ◌∷◌, ◌++◌, Bool, true, false, nat_eq, cond, Option, Some, None, map, refl, sym, ◌∙◌, ap, inl, inr}
use Rattle.std.specs.Prelude.{filter, unwrap_or}
use Rattle.std.specs.BTreeMap.{is_at}
use Rattle.std.specs.Cmp.Lexicographic.{pointwise, slice_cmp, texts_ties}
use Rattle.std.specs.Ordering.{nat_cmp, is_eq}
use Rattle.std.specs.declared.cmp.Ordering.{Ordering}
use Rattle.std.specs.declared.cmp.Ordering.TheVariants.{Less, Equal, Greater}
use Rattle.std.proofs.lemmas.Bool.{cases_Bool}
use Rattle.std.proofs.lemmas.Cmp.{nat_list_eq_equiv}
use Rattle.std.proofs.lemmas.Map.Lookups.{exact_bytes}
use Rattle.std.proofs.lemmas.List.{append-nil, map-append}
use Rattle.std.proofs.lemmas.List.Elements.{filter-append}
use Rattle.rnv_pick.specs.declared.update.Update.{Update}
use Rattle.rnv_plan.specs.Items.{branch_name, is_on}
use Rattle.rnv_plan.specs.Groups.{not_empty}

-- ---- the names of branches

pub equal : (o : Ordering) → is_eq o ≡ true → o ≡ Equal
equal Less h = cc h
equal Equal h = refl
equal Greater h = cc h

pub same_name : (a b : List ℕ) → pointwise nat_eq a b ≡ true → a ≡ b
same_name a b same = exact_bytes a b (equal (slice_cmp nat_cmp a b) (sym (texts_ties a b) ∙ same))

pub on_own : (u : Update) → is_on (branch_name u) u ≡ true
on_own u = nat_list_eq_equiv.refl (branch_name u)

-- ---- one more element

module _ {X E : Type 0} (name : X → List ℕ) (part : X → E) where
  abbrev is_at_name : List ℕ → X → Bool
  is_at_name q x = pointwise nat_eq (name x) q

  abbrev parts_on : List ℕ → List X → List E
  parts_on q xs = map part (filter (is_at_name q) xs)

  one-more : (q : List ℕ) (xs : List X) (x : X) → parts_on q (xs ++ x ∷ []) ≡ parts_on q xs ++ map part (cond (is_at_name q x) (x ∷ []) [])
  one-more q xs x = ap (map part) (filter-append (is_at_name q) xs (x ∷ [])) ∙ map-append part (filter (is_at_name q) xs) (cond (is_at_name q x) (x ∷ []) [])

  not_empty-push : (es : List E) (e : E) → not_empty (es ++ e ∷ []) ≡ Some (unwrap_or (not_empty es) [] ++ e ∷ [])
  not_empty-push [] e = refl
  not_empty-push (d ∷ es) e = refl

  group-on : (q : List ℕ) (xs : List X) (x : X) → is_at_name q x ≡ true → not_empty (parts_on q (xs ++ x ∷ [])) ≡ Some (unwrap_or (not_empty (parts_on q xs)) [] ++ part x ∷ [])
  group-on q xs x on = rw (one-more q xs x, on) (not_empty-push (parts_on q xs) (part x))

  group-off : (q : List ℕ) (xs : List X) (x : X) → is_at_name q x ≡ false → not_empty (parts_on q (xs ++ x ∷ [])) ≡ not_empty (parts_on q xs)
  group-off q xs x off = rw (one-more q xs x, off) (ap not_empty (append-nil (parts_on q xs)))

  -- what a map of the groups has after the group of one more element is put in again
  pub group_more : (q k : List ℕ) (x : X) (xs : List X) (group : List E) (before between after : Option (List E)) → k ≡ name x → group ≡ unwrap_or (not_empty (parts_on k xs)) [] ++ part x ∷ [] → before ≡ not_empty (parts_on q xs) → between ≡ cond (is_at (slice_cmp nat_cmp k) q) None before → after ≡ cond (is_at (slice_cmp nat_cmp k) q) (Some group) between → after ≡ not_empty (parts_on q (xs ++ x ∷ []))
  group_more q k x xs group before between after key pushed e f g =
      let test : is_at (slice_cmp nat_cmp k) q ≡ is_at_name q x = sym (texts_ties k q) ∙ ap (λ n. pointwise nat_eq n q) key in
      elim (cases_Bool (is_at_name q x)) [
        | inl on ↦
            let same : k ≡ q = key ∙ same_name (name x) q on in
            g ∙ rw (test, on, pushed, same) (sym (group-on q xs x on))
        | inr off ↦ g ∙ rw (test, off) (f ∙ rw (test, off) (e ∙ sym (group-off q xs x off)))
      ]
