-- Tests that are joined, tests of all bytes, and choices.
use Rattle.std.proofs.Common.{◌≡◌, ℕ, zero, suc, ◌<◌, Bool, true, false, cond, List, [], ◌∷◌, ◌++◌, length, get_or, Option, Some, None, refl, sym, ap, ◌∙◌, arith, inl, inr, ◌⊎◌}
use Rattle.std.specs.Prelude.{◌&&◌, ◌||◌, not}
use Rattle.std.specs.List.{list_all, list_any}

pub if-true : {A : Type 0} (b : Bool) (x y : A) → b ≡ true → cond b x y ≡ x
if-true true x y e = refl
if-true false x y e = absurd cc

pub if-false : {A : Type 0} (b : Bool) (x y : A) → b ≡ false → cond b x y ≡ y
if-false true x y e = absurd cc
if-false false x y e = refl

pub and_true : (a b : Bool) → (a && b) ≡ true → (a ≡ true) × (b ≡ true)
and_true true b e = (refl, e)
and_true false b e = absurd cc

pub both : (a b : Bool) → a ≡ true → b ≡ true → (a && b) ≡ true
both true b d e = e
both false b d e = absurd cc

pub or_false : (a b : Bool) → (a || b) ≡ false → (a ≡ false) × (b ≡ false)
or_false true b e = absurd cc
or_false false b e = (refl, e)

pub neither : (a b : Bool) → a ≡ false → b ≡ false → (a || b) ≡ false
neither true b d e = absurd cc
neither false b d e = e

pub not_true : (a : Bool) → not a ≡ true → a ≡ false
not_true true e = absurd cc
not_true false e = refl

pub not_false : (a : Bool) → not a ≡ false → a ≡ true
not_false true e = refl
not_false false e = absurd cc

pub some_or_none : {X : Type 0} (o : Option X) → (o ≡ None) ⊎ ((x : X) × (o ≡ Some x))
some_or_none None = inl refl
some_or_none (Some x) = inr (x, refl)

pub all-append : {X : Type 0} (p : X → Bool) (xs ys : List X) → list_all p xs ≡ true → list_all p ys ≡ true → list_all p (xs ++ ys) ≡ true
all-append p [] ys d e = e
all-append p (x ∷ xs) ys d e = let h = and_true (p x) (list_all p xs) d in both (p x) (list_all p (xs ++ ys)) h.0 (all-append p xs ys h.1 e)

pub all-parts : {X : Type 0} (p : X → Bool) (xs ys : List X) → list_all p (xs ++ ys) ≡ true → (list_all p xs ≡ true) × (list_all p ys ≡ true)
all-parts p [] ys e = (refl, e)
all-parts p (x ∷ xs) ys e =
    let h = and_true (p x) (list_all p (xs ++ ys)) e in
    let more = all-parts p xs ys h.1 in
    (both (p x) (list_all p xs) h.0 more.0, more.1)

-- one that fails
pub all-fails : {X : Type 0} (p : X → Bool) (xs : List X) (y : X) (ys : List X) → p y ≡ false → list_all p (xs ++ y ∷ ys) ≡ false
all-fails p [] y ys e = rw e refl
all-fails p (x ∷ xs) y ys e = and-false (p x) (list_all p (xs ++ y ∷ ys)) (all-fails p xs y ys e) where
  and-false : (a b : Bool) → b ≡ false → (a && b) ≡ false
  and-false true b h = h
  and-false false b h = refl

pub all-weaker : {X : Type 0} (p q : X → Bool) (xs : List X) → ((x : X) → p x ≡ true → q x ≡ true) → list_all p xs ≡ true → list_all q xs ≡ true
all-weaker p q [] so e = refl
all-weaker p q (x ∷ xs) so e = let h = and_true (p x) (list_all p xs) e in both (q x) (list_all q xs) (so x h.0) (all-weaker p q xs so h.1)

pub all-at : (p : ℕ → Bool) (xs ys : List ℕ) (i : ℕ) → list_all p xs ≡ true → i < length xs → p (get_or (xs ++ ys) i 0) ≡ true
all-at p [] ys i e lt = absurd (omega arith)
all-at p (x ∷ xs) ys zero e lt = (and_true (p x) (list_all p xs) e).0
all-at p (x ∷ xs) ys (suc i) e lt = all-at p xs ys i (and_true (p x) (list_all p xs) e).1 (omega arith)
