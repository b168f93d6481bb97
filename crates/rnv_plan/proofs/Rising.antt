-- What holds up to a place in a list that rises by a key.
use Rattle.std.proofs.Common.{◌≡◌, ℕ, List, [], ◌∷◌, ◌++◌, sym, ◌∙◌, ap, subst}
use Rattle.std.specs.List.{All, AllByRecursion, AllZip}
use Rattle.std.specs.List.Sorted.{IsStrictlySortedBy}
use Rattle.std.specs.Ordering.{on, nat_cmp, ordering_reverse}
use Rattle.std.specs.Cmp.Lexicographic.{slice_cmp}
use Rattle.std.specs.declared.cmp.Ordering.TheVariants.{Less}
use Rattle.std.proofs.lemmas.Cmp.{nat_list_cmp_total}
use Rattle.std.proofs.lemmas.List.Elements.{All-cons, All-append, All-weaker, All-from_recursion}
use Rattle.std.proofs.lemmas.Map.Keys.{sorted_head, sorted_tail}
use Rattle.rnv_repo.specs.Named.{IsRisingBy}

pub not_both : (n name : List ℕ) → slice_cmp nat_cmp n name ≡ Less → slice_cmp nat_cmp name n ≡ Less → ⊥
not_both n name below above =
    let e = sym below ∙ (nat_list_cmp_total.antisymm n name ∙ ap ordering_reverse above) in cc

pub not_itself : (name : List ℕ) → slice_cmp nat_cmp name name ≡ Less → ⊥
not_itself name below = not_both name name below below

module _ {X : Type 0} (key : X → List ℕ) where
  above : (front : List X) (x : X) (back : List X) → IsRisingBy key (front ++ x ∷ back) → All (λ y. slice_cmp nat_cmp (key x) (key y) ≡ Less) back
  above [] x back rising = All-from_recursion (λ y. slice_cmp nat_cmp (key x) (key y) ≡ Less) back (sorted_head (on key (slice_cmp nat_cmp)) x back rising)
  above (z ∷ front) x back rising = above front x back (sorted_tail (on key (slice_cmp nat_cmp)) z (front ++ x ∷ back) rising)

  -- what holds of those before one holds of each below it
  pub below_one : (P : X → Type 0) (front : List X) (x : X) (back : List X) → IsRisingBy key (front ++ x ∷ back) → All P front → All (λ y. slice_cmp nat_cmp (key y) (key x) ≡ Less → P y) (front ++ x ∷ back)
  below_one P front x back rising before =
      let Q : X → Type 0 = λ y. slice_cmp nat_cmp (key y) (key x) ≡ Less → P y in
      All-append Q front (x ∷ back) (All-weaker P Q (λ y held _. held) front before)
      (All-cons Q x back (λ below. absurd (not_itself (key x) below))
      (All-weaker (λ y. slice_cmp nat_cmp (key x) (key y) ≡ Less) Q (λ y over below. absurd (not_both (key y) (key x) below over)) back (above front x back rising)))

-- ---- of two lists with the same keys, place by place

module _ {A B : Type 0} (k : A → List ℕ) (j : B → List ℕ) (R : A → B → Type 0) (same : (x : A) (y : B) → R x y → j y ≡ k x) where
  below_others : (x : A) (y : B) (xs : List A) (ys : List B) → R x y → AllByRecursion (λ z. slice_cmp nat_cmp (k x) (k z) ≡ Less) xs → AllZip R xs ys → AllByRecursion (λ z. slice_cmp nat_cmp (j y) (j z) ≡ Less) ys
  below_others x y [] [] here below each = tt
  below_others x y [] (v ∷ vs) here below each = absurd each
  below_others x y (u ∷ us) [] here below each = absurd each
  below_others x y (u ∷ us) (v ∷ vs) here below each =
      (subst (λ (n : List ℕ). slice_cmp nat_cmp n (j v) ≡ Less) (sym (same x y here)) (subst (λ (n : List ℕ). slice_cmp nat_cmp (k x) n ≡ Less) (sym (same u v each.0)) below.0), below_others x y us vs here below.1 each.1)

  pub zip_rising : (xs : List A) (ys : List B) → AllZip R xs ys → IsRisingBy k xs → IsRisingBy j ys
  unfolding IsStrictlySortedBy
  zip_rising [] [] each rising = tt
  zip_rising [] (v ∷ vs) each rising = absurd each
  zip_rising (u ∷ us) [] each rising = absurd each
  zip_rising (u ∷ us) (v ∷ vs) each rising = (below_others u v us vs each.0 rising.0 each.1, zip_rising us vs each.1 rising.1)
