-- What holds of each element of a list, as far as a loop has come.
use Rattle.std.proofs.Common.{◌≡◌, ◌<◌, ◌≤◌, ℕ, zero, suc, List, [], ◌∷◌, length, get_or, take, sym, subst, arith}
use Rattle.std.specs.List.{AllByRecursion}

pub all_none : {X : Type 0} (P : X → Type 0) (xs : List X) → AllByRecursion P (take 0 xs)
all_none P [] = tt
all_none P (x ∷ xs) = tt

pub all_more : {X : Type 0} (P : X → Type 0) (xs : List X) (i : ℕ) (x : X) → i < length xs → get_or xs i x ≡ x → P x → AllByRecursion P (take i xs) → AllByRecursion P (take (suc i) xs)
all_more P [] i x less is here all = absurd (omega (arith, less))
all_more P (y ∷ ys) zero x less is here all = (subst P (sym is) here, all_none P ys)
all_more P (y ∷ ys) (suc i) x less is here all = (all.0, all_more P ys i x (omega (arith, less)) is here all.1)

pub all_whole : {X : Type 0} (P : X → Type 0) (xs : List X) (i : ℕ) → length xs ≤ i → AllByRecursion P (take i xs) → AllByRecursion P xs
all_whole P [] i le all = tt
all_whole P (y ∷ ys) zero le all = absurd (omega (arith, le))
all_whole P (y ∷ ys) (suc i) le all = (all.0, all_whole P ys i (omega (arith, le)) all.1)
