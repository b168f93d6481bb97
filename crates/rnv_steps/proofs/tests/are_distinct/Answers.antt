use Rattle.std.proofs.Common.{◌≡◌, ◌≤◌, ◌<◌, ◌-◌, ℕ, zero, suc, Bool, true, false, ◌||◌, List, [], ◌∷◌, length, take, drop, get_or, refl, sym, ap, subst, ◌∙◌, arith, drop-cons}
use Rattle.std.specs.List.{list_any, AllByRecursion}
use Rattle.std.specs.Str.{bytes_eq}
use Rattle.std.proofs.lemmas.List.{length-drop}
use Rattle.rnv_outcome.specs.declared.item.Item.{Item}
use Rattle.rnv_steps.specs.Told.{HaveBranches}
use Rattle.rnv_steps.proofs.tests.are_distinct.Goals as goal

all_taken : (i : ℕ) (xs : List Item) → length xs ≤ i → take i xs ≡ xs
all_taken zero [] le = refl
all_taken (suc i) [] le = refl
all_taken zero (x ∷ xs) le = absurd (omega (arith, le))
all_taken (suc i) (x ∷ xs) le = ap (λ (l : List Item). x ∷ l) (all_taken i xs (omega (arith, le)))

none_dropped : (xs : List Item) → drop 0 xs ≡ xs
none_dropped [] = refl
none_dropped (x ∷ xs) = refl

none_passes : {X : Type 0} (p : X → Bool) (xs : List X) → list_any p xs ≡ false → AllByRecursion (λ x. p x ≡ false) xs
none_passes p [] e = tt
none_passes p (x ∷ xs) e =
    elim (p x) as (λ t. p x ≡ t → (t || list_any p xs) ≡ false → AllByRecursion (λ y. p y ≡ false) (x ∷ xs)) [
      | true ↦ λ _ h. cc
      | false ↦ λ is h. (is, none_passes p xs h)
    ] refl e

distinct_more : (items rest : List Item) (i j : ℕ) (x : Item) → i ≡ suc j → i ≤ length items → x ≡ get_or items j x → rest ≡ drop i items → list_any (λ y. bytes_eq x.branch y.branch) rest ≡ false → HaveBranches (drop i items) → HaveBranches (drop j items)
distinct_more items rest i j x e h is cut none d =
    let lt : j < length items = omega arith in
    let whole : drop j items ≡ x ∷ drop i items = drop-cons items j x lt ∙ (λ k. sym is k ∷ drop (sym e k) items) in
    let first : list_any (λ (y : Item). bytes_eq x.branch y.branch) (drop i items) ≡ false = ap (list_any (λ (y : Item). bytes_eq x.branch y.branch)) (sym cut) ∙ none in
    subst HaveBranches (sym whole) (none_passes (λ (y : Item). bytes_eq x.branch y.branch) (drop i items) first, d)

pub loop-rest-preserved : goal.loop-rest-preserved
loop-rest-preserved c d =
    let rest : List Item = c.loop-rest.rest.now in
    let count : length (drop 1 rest) ≡ length rest - 1 = length-drop 1 rest in
    let cut : take (length rest - 1) (drop 1 rest) ≡ drop 1 rest = all_taken (length rest - 1) (drop 1 rest) (omega (arith, count)) in
    c.loop-rest.invariant
    (subst HaveBranches (none_dropped rest)
    (distinct_more rest (take (length rest - 1) (drop 1 rest)) 1 0 c.item-item.result refl (omega (arith, c.in-len1-up.len_at_least)) c.item-item.is cut (sym c.is_among.ensures ∙ c.if-is_among.false) (subst HaveBranches cut d)))
