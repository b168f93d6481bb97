-- The front of a list that is below a text.
use Rattle.std.proofs.Common.{◌≡◌, ◌+◌, ℕ, suc, arith, take, drop, true, false, cond, List, [], ◌∷◌, refl, sym, ap, ◌∙◌}
use Rattle.std.specs.List.{AllByRecursion, prefix_len}
use Rattle.std.specs.List.Sorted.{IsStrictlySortedBy}
use Rattle.std.specs.Str.{bytes_eq}
use Rattle.std.specs.declared.cmp.Ordering.{Ordering}
use Rattle.std.specs.declared.cmp.Ordering.TheVariants.{Less, Equal, Greater}
use Rattle.std.specs.Ordering.{is_lt}
use Rattle.std.proofs.lemmas.Cmp.{nat_list_cmp_total}
use Rattle.rnv_commands.specs.Difference.{IsBelow}
use Rattle.rnv_repo.specs.Named.{IsRisingBy}
use Rattle.rnv_repo.proofs.Texts.{cmp, same_texts, greater_back, all_weaker}

module _ {X : Type 0} (key : X → List ℕ) (path : List ℕ) where
  abbrev pub count : List X → ℕ
  count xs = prefix_len (λ x. is_lt (cmp (key x) path)) xs

  lt_is : (o : Ordering) → is_lt o ≡ true → o ≡ Less
  lt_is Less e = refl
  lt_is Equal e = cc
  lt_is Greater e = cc

  pub below_front : (xs : List X) → AllByRecursion (λ x. cmp (key x) path ≡ Less) (take (count xs) xs)
  below_front [] = tt
  below_front (x ∷ xs) =
      elim (is_lt (cmp (key x) path)) as (λ b. is_lt (cmp (key x) path) ≡ b → AllByRecursion (λ y. cmp (key y) path ≡ Less) (take (cond b (1 + count xs) 0) (x ∷ xs))) [
        | true ↦ λ is.
            let more : 1 + count xs ≡ suc (count xs) = omega arith in
            rw more (lt_is (cmp (key x) path) is, below_front xs)
        | false ↦ λ is. tt
      ] refl

  pub not_below : (xs rest : List X) (y : X) → drop (count xs) xs ≡ y ∷ rest → is_lt (cmp (key y) path) ≡ false
  not_below [] rest y e = absurd cc
  not_below (x ∷ xs) rest y e =
      elim (is_lt (cmp (key x) path)) as (λ b. is_lt (cmp (key x) path) ≡ b → drop (cond b (1 + count xs) 0) (x ∷ xs) ≡ y ∷ rest → is_lt (cmp (key y) path) ≡ false) [
        | true ↦ λ is h.
            let more : 1 + count xs ≡ suc (count xs) = omega arith in
            not_below xs rest y (rw more at h)
        | false ↦ λ is h. let same : x ≡ y = cc in ap (λ z. is_lt (cmp (key z) path)) (sym same) ∙ is
      ] refl e

  -- what is not below and another is above, with all behind it
  pub above_all : (y : X) (rest : List X) → is_lt (cmp (key y) path) ≡ false → bytes_eq (key y) path ≡ false → IsRisingBy key (y ∷ rest) → IsBelow key path (y ∷ rest)
  unfolding IsStrictlySortedBy
  above_all y rest low other rising =
      let greater : cmp (key y) path ≡ Greater =
      elim (cmp (key y) path) as (λ o. cmp (key y) path ≡ o → o ≡ Greater) [
        | Less ↦ λ is. absurd (cc (low, ap is_lt is))
        | Equal ↦ λ is. absurd (cc (other, same_texts (key y) path is))
        | Greater ↦ λ is. refl
      ] refl in
      let first = greater_back (key y) path greater in
      (first, all_weaker _ _ (λ z h. nat_list_cmp_total.trans path (key y) (key z) first h) rest rising.0)

  pub above_rest : (rest : List X) → ((y : X) (more : List X) → rest ≡ y ∷ more → is_lt (cmp (key y) path) ≡ false) → ((y : X) (more : List X) → rest ≡ y ∷ more → bytes_eq (key y) path ≡ false)
      → IsRisingBy key rest → IsBelow key path rest
  above_rest [] low other rising = tt
  above_rest (y ∷ more) low other rising = above_all y more (low y more refl) (other y more refl) rising
