-- A sorted list falls, and its first element is its greatest.
use Rattle.std.proofs.Common.{◌≡◌, ℕ, zero, suc, ◌<◌, ◌≤◌, true, false, List, [], ◌∷◌, length, get_or, map, refl, ◌∙◌, ap, sym, arith}
use Rattle.std.specs.Cmp.{IsTotalOrder}
use Rattle.std.specs.List.{All, AllByRecursion, Contains}
use Rattle.std.specs.Ordering.{is_gt, is_lt, ordering_reverse}
use Rattle.std.specs.declared.cmp.Ordering.{Ordering}
use Rattle.std.specs.declared.cmp.Ordering.TheVariants.{Less, Equal, Greater}
use Rattle.std.proofs.lemmas.Cmp.{tied_itself}
use Rattle.std.proofs.lemmas.List.Elements.{All-cons, All-contains, All-from_recursion, recursion_from_All}
use Rattle.rnv_pick.specs.Greatest.{IsFalling}

not_less : (r : Ordering) → is_lt r ≡ false → is_gt (ordering_reverse r) ≡ false
not_less Less h = cc h
not_less Equal h = refl
not_less Greater h = refl

pub not_above : {K : Type 0} (R : K → K → Ordering) → IsTotalOrder R → (x y : K) → is_lt (R x y) ≡ false → is_gt (R y x) ≡ false
not_above R o x y h = ap is_gt (o.antisymm y x) ∙ not_less (R x y) h

pub falling_from : {K : Type 0} (R : K → K → Ordering) → IsTotalOrder R → (xs : List K)
    → ((i j : ℕ) (d : K) → i ≤ j → j < length xs → is_lt (R (get_or xs i d) (get_or xs j d)) ≡ false) → IsFalling R xs
falling_from R o [] far = tt
falling_from R o (x ∷ xs) far = (
  recursion_from_All (λ y. is_gt (R y x) ≡ false) xs (λ k d h. not_above R o x (get_or xs k d) (far zero (suc k) d (omega arith) (omega arith))),
  falling_from R o xs (λ i j d up h. far (suc i) (suc j) d (omega arith) (omega arith)),
)

-- nothing in the list is above the first
pub first_greatest : {K : Type 0} (R : K → K → Ordering) → IsTotalOrder R → (c : K) (cs : List K) (d : K) → IsFalling R (c ∷ cs) → Contains (c ∷ cs) d
    → is_gt (R d c) ≡ false
first_greatest {K} R o c cs d falling among =
    let P : K → Type 0 = λ y. is_gt (R y c) ≡ false in
    All-contains P (c ∷ cs) d (All-cons P c cs (ap is_gt (tied_itself o c)) (All-from_recursion P cs falling.0)) among

all_seen : {K L : Type 0} (f : K → L) (P : L → Type 0) (xs : List K) → AllByRecursion (λ y. P (f y)) xs → AllByRecursion P (map f xs)
all_seen f P [] all = tt
all_seen f P (x ∷ xs) all = (all.0, all_seen f P xs all.1)

-- what is seen of a falling list falls
pub falling_seen : {K L : Type 0} (f : K → L) (R : L → L → Ordering) (xs : List K) → IsFalling (λ a b. R (f a) (f b)) xs → IsFalling R (map f xs)
falling_seen f R [] falling = tt
falling_seen f R (x ∷ xs) falling = (all_seen f (λ y. is_gt (R y (f x)) ≡ false) xs falling.0, falling_seen f R xs falling.1)
