-- The values of each of a list, one after another.
use Rattle.std.proofs.Common.{arith, ◌≡◌, ◌+◌, ◌<◌, ℕ, zero, suc, List, [], ◌∷◌, ◌++◌, length, take, get_or, map, refl, sym, ap, ◌∙◌, Option, Some, None, add-one}
use denote.Ref.{Bor}
use Rattle.rnv_schedule.specs.Words.{each, texts, with_each}

parts_of : {A : Type 0} (a : Option A) (b : Option (List A)) (values : List A) → with_each a b ≡ Some values → (x : A) × (xs : List A) × (a ≡ Some x) × (b ≡ Some xs) × (values ≡ x ∷ xs)
parts_of (Some x) (Some xs) values e = (x, xs, refl, refl, cc)
parts_of (Some x) None values e = absurd cc
parts_of None b values e = absurd cc

step : {A X : Type 0} (f : X → Option A) (xs : List X) (i : ℕ) (d : X) (values : List A) (value : A) → i < length xs → each (map f (take i xs)) ≡ Some values → f (get_or xs i d) ≡ Some value → each (map f (take (suc i) xs)) ≡ Some (values ++ value ∷ [])
step f [] i d values value h e g = absurd (omega arith)
step {A} f (x ∷ xs) zero d values value h e g =
    let none : [] ≡ values = cc in
    ap (λ (o : Option A). with_each o (Some [])) g ∙ ap (λ (l : List A). Some (l ++ value ∷ [])) none
step {A} f (x ∷ xs) (suc i) d values value h e g =
    let parts = parts_of (f x) (each (map f (take i xs))) values e in
    let rest = step f xs i d parts.1 value (omega arith) parts.3 g in
    ap (λ (o : Option A). with_each o (each (map f (take (suc i) xs)))) parts.2
    ∙ (ap (λ (o : Option (List A)). with_each (Some parts.0) o) rest
    ∙ ap (λ (l : List A). Some (l ++ value ∷ [])) (sym parts.4))

pub each_more : {A X : Type 0} (f : X → Option A) (xs : List X) (i : ℕ) (d : X) (values : List A) (value : A) → i < length xs → each (map f (take i xs)) ≡ Some values → f (get_or xs i d) ≡ Some value → each (map f (take (i + 1) xs)) ≡ Some (values ++ value ∷ [])
each_more f xs i d values value h e g = rw add-one (step f xs i d values value h e g)

pub each_none : {A X : Type 0} (f : X → Option A) (xs : List X) (i : ℕ) (d : X) → i < length xs → f (get_or xs i d) ≡ None → each (map f xs) ≡ None
each_none f [] i d h g = absurd (omega arith)
each_none {A} f (x ∷ xs) zero d h g = ap (λ (o : Option A). with_each o (each (map f xs))) g
each_none {A} f (x ∷ xs) (suc i) d h g =
    ap (λ (o : Option (List A)). with_each (f x) o) (each_none f xs i d (omega arith) g) ∙ with_none (f x) where
      with_none : (o : Option A) → with_each o None ≡ None
      with_none None = refl
      with_none (Some a) = refl

pub map-texts : {B : Type 0} (g : List ℕ → B) (xs : List (Bor (List ℕ))) → map g (texts xs) ≡ map (λ x. g x.now) xs
map-texts g [] = refl
map-texts g (x ∷ xs) = ap (λ (l : List _). g x.now ∷ l) (map-texts g xs)
