-- One more turn of a loop that puts something at the end for each element.
use Rattle.std.proofs.Common.{◌≡◌, ℕ, ◌+◌, ◌<◌, List, [], ◌∷◌, ◌++◌, length, take, get_or, sym, ◌∙◌, ap, add-one, zero-add, append-nil, append_assoc}
use Rattle.std.specs.List.{flat_map, sum_by}
use Rattle.std.proofs.Math.Seq.{take-suc}
use Rattle.std.proofs.lemmas.Grind.{flat_map-append}
use Rattle.std.proofs.lemmas.List.Sums.{sum_by-append}

-- the front of a list with one more element
one-more : {X : Type 0} (xs : List X) (i : ℕ) (x : X) → x ≡ get_or xs i x → i < length xs → take (i + 1) xs ≡ take i xs ++ x ∷ []
one-more xs i x here within = rw add-one (take-suc xs i x within ∙ ap (λ y. take i xs ++ y ∷ []) (sym here))

one-piece : {X Y : Type 0} (f : X → List Y) (xs : List X) (x : X) → flat_map f (xs ++ x ∷ []) ≡ flat_map f xs ++ f x
one-piece f xs x = flat_map-append f xs (x ∷ []) ∙ ap (λ ys. flat_map f xs ++ ys) (append-nil (f x))

pub grows : {X Y : Type 0} (f : X → List Y) (xs : List X) (i : ℕ) (x : X) (start now new : List Y) → x ≡ get_or xs i x → i < length xs → now ≡ start ++ flat_map f (take i xs) → new ≡ now ++ f x → new ≡ start ++ flat_map f (take (i + 1) xs)
grows f xs i x start now new here within so_far more =
    let whole : flat_map f (take (i + 1) xs) ≡ flat_map f (take i xs) ++ f x = ap (flat_map f) (one-more xs i x here within) ∙ one-piece f (take i xs) x in
    let grouped : (start ++ flat_map f (take i xs)) ++ f x ≡ start ++ (flat_map f (take i xs) ++ f x) = append_assoc start (flat_map f (take i xs)) (f x) in
    cc

pub counts : {X : Type 0} (f : X → ℕ) (xs : List X) (i : ℕ) (x : X) → x ≡ get_or xs i x → i < length xs → sum_by f (take (i + 1) xs) ≡ sum_by f (take i xs) + f x
counts f xs i x here within = ap (sum_by f) (one-more xs i x here within) ∙ (sum_by-append f (take i xs) (x ∷ []) ∙ ap (λ n. sum_by f (take i xs) + n) (zero-add (f x)))
