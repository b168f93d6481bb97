-- Lists that are seen through a function.
use Rattle.std.proofs.Common.{arith, ◌≡◌, ◌+◌, ℕ, List, [], ◌∷◌, length, map, Bool, refl, sym, ap, ◌∙◌, cond, Some, None}
use Rattle.std.specs.Prelude.{nat_lt, not, ◌||◌, ◌&&◌}
use Rattle.std.specs.List.{list_all, list_any, position, position_or_len, prefix_len, zip}
use Rattle.std.specs.Cmp.Lexicographic.{pointwise}
use Rattle.std.proofs.lemmas.List.{length-map}

pub prefix_len-map : {A B : Type 0} (f : A → B) (p : B → Bool) (xs : List A) → prefix_len (λ x. p (f x)) xs ≡ prefix_len p (map f xs)
prefix_len-map f p [] = refl
prefix_len-map f p (x ∷ xs) = ap (λ (n : ℕ). cond (p (f x)) (1 + n) 0) (prefix_len-map f p xs)

pub position-map : {A B : Type 0} (f : A → B) (p : B → Bool) (xs : List A) → position (λ x. p (f x)) xs ≡ position p (map f xs)
position-map f p xs =
    ap (λ (n : ℕ). cond (nat_lt n (length xs)) (Some n) None) (prefix_len-map f (λ y. not (p y)) xs)
    ∙ ap (λ (n : ℕ). cond (nat_lt (position_or_len p (map f xs)) n) (Some (position_or_len p (map f xs))) None) (sym (length-map xs f))

pub list_any-map : {A B : Type 0} (f : A → B) (p : B → Bool) (xs : List A) → list_any (λ x. p (f x)) xs ≡ list_any p (map f xs)
list_any-map f p [] = refl
list_any-map f p (x ∷ xs) = ap (λ (b : Bool). p (f x) || b) (list_any-map f p xs)

-- pairs that all pass, of two lists of one length
pub list_all-zip : {A B : Type 0} (f : A → B → Bool) (v : A → List ℕ) (w : B → List ℕ) (e : List ℕ → List ℕ → Bool) → ((x : A) (y : B) → f x y ≡ e (v x) (w y)) → (xs : List A) (ys : List B) → length xs ≡ length ys → list_all (λ p. f p.0 p.1) (zip xs ys) ≡ pointwise e (map v xs) (map w ys)
list_all-zip f v w e same [] [] h = refl
list_all-zip f v w e same [] (y ∷ ys) h = absurd (omega arith)
list_all-zip f v w e same (x ∷ xs) [] h = absurd (omega arith)
list_all-zip f v w e same (x ∷ xs) (y ∷ ys) h =
    ap (λ (b : Bool). b && list_all (λ p. f p.0 p.1) (zip xs ys)) (same x y)
    ∙ ap (λ (b : Bool). e (v x) (w y) && b) (list_all-zip f v w e same xs ys (omega arith))
