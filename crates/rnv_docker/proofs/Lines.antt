-- What a line says by its first and last bytes, and where it is put together.
use Rattle.std.proofs.Common.{◌≡◌, ℕ, Bool, true, false, List, [], ◌∷◌, ◌++◌, refl, sym, ap, ◌∙◌, arith, inl, inr}
use Rattle.std.specs.Prelude.{nat_eq, not, ◌&&◌, ◌||◌}
use Rattle.std.specs.List.{list_all}
use Rattle.std.proofs.lemmas.Bool.{cases_Bool}
use Rattle.std.proofs.lemmas.Bool.Decides.{nat_tests}
use Rattle.rnv_docker.specs.Lines.{is_blank, is_space, is_empty, is_comment, goes_on, begins_with, has_here}
use Rattle.rnv_docker.proofs.Bools.{if-true, if-false, and_true, all-fails, neither}

space-no-backslash : (x : ℕ) → is_space x ≡ true → nat_eq x 92 ≡ false
space-no-backslash x e = grind (arith, nat_tests)

goes_on-empty : (xs : List ℕ) → is_empty xs ≡ true → goes_on xs ≡ false
goes_on-empty [] e = refl
goes_on-empty (x ∷ xs) e =
    let h = and_true (is_space x) (is_empty xs) e in
    if-true (is_empty xs) (nat_eq x 92) (goes_on xs) h.1 ∙ space-no-backslash x h.0

and-false : (a b : Bool) → b ≡ false → (a && b) ≡ false
and-false true b h = h
and-false false b h = refl

behind-empty : (xs ys : List ℕ) → is_empty ys ≡ false → is_empty (xs ++ ys) ≡ false
behind-empty [] ys e = e
behind-empty (x ∷ xs) ys e = and-false (is_space x) (is_empty (xs ++ ys)) (behind-empty xs ys e)

-- what stands behind decides, where it is not empty
pub goes_on-behind : (xs ys : List ℕ) → is_empty ys ≡ false → goes_on (xs ++ ys) ≡ goes_on ys
goes_on-behind [] ys e = refl
goes_on-behind (x ∷ xs) ys e = if-false (is_empty (xs ++ ys)) (nat_eq x 92) (goes_on (xs ++ ys)) (behind-empty xs ys e) ∙ goes_on-behind xs ys e

empty-append : (xs ys : List ℕ) → is_empty xs ≡ true → is_empty ys ≡ true → is_empty (xs ++ ys) ≡ true
empty-append [] ys h e = e
empty-append (x ∷ xs) ys h e = let b = and_true (is_space x) (is_empty xs) h in rw b.0 (empty-append xs ys b.1 e)

and-part : (b c d : Bool) → (b && c) ≡ false → (c ≡ false → d ≡ false) → (b && d) ≡ false
and-part true c d k so = so k
and-part false c d k so = refl

empty-part : (xs ys : List ℕ) → is_empty xs ≡ false → is_empty (xs ++ ys) ≡ false
empty-part [] ys h = absurd cc
empty-part (x ∷ xs) ys h = and-part (is_space x) (is_empty xs) (is_empty (xs ++ ys)) h (empty-part xs ys)

-- else what stands before it
pub goes_on-before : (xs ys : List ℕ) → is_empty ys ≡ true → goes_on (xs ++ ys) ≡ goes_on xs
goes_on-before [] ys e = goes_on-empty ys e
goes_on-before (x ∷ xs) ys e =
    elim (cases_Bool (is_empty xs)) [
      | inl h ↦ if-true (is_empty (xs ++ ys)) (nat_eq x 92) (goes_on (xs ++ ys)) (empty-append xs ys h e) ∙ sym (if-true (is_empty xs) (nat_eq x 92) (goes_on xs) h)
      | inr h ↦ if-false (is_empty (xs ++ ys)) (nat_eq x 92) (goes_on (xs ++ ys)) (empty-part xs ys h) ∙ (goes_on-before xs ys e ∙ sym (if-false (is_empty xs) (nat_eq x 92) (goes_on xs) h))
    ]

pub goes_on-last : (xs : List ℕ) (x : ℕ) → is_space x ≡ false → goes_on (xs ++ x ∷ []) ≡ nat_eq x 92
goes_on-last xs x e = goes_on-behind xs (x ∷ []) (rw e refl)

pub goes_on-space : (xs : List ℕ) (x : ℕ) → is_space x ≡ true → goes_on (xs ++ x ∷ []) ≡ goes_on xs
goes_on-space xs x e = goes_on-before xs (x ∷ []) (rw e refl)

-- no tag byte is a backslash
pub goes_on-no : (xs : List ℕ) → list_all (λ x. not (nat_eq x 92)) xs ≡ true → goes_on xs ≡ false
goes_on-no [] e = refl
goes_on-no (x ∷ xs) e =
    let h = and_true (not (nat_eq x 92)) (list_all (λ x. not (nat_eq x 92)) xs) e in
    elim (cases_Bool (is_empty xs)) [
      | inl b ↦ if-true (is_empty xs) (nat_eq x 92) (goes_on xs) b ∙ denied (nat_eq x 92) h.0
      | inr b ↦ if-false (is_empty xs) (nat_eq x 92) (goes_on xs) b ∙ goes_on-no xs h.1
    ] where
      denied : (b : Bool) → not b ≡ true → b ≡ false
      denied true k = absurd cc
      denied false k = refl

-- a byte that is neither a space nor a tab decides
pub is_comment-front : (xs : List ℕ) (y : ℕ) (ys zs : List ℕ) → is_blank y ≡ false → is_comment (xs ++ y ∷ ys) ≡ is_comment (xs ++ y ∷ zs)
is_comment-front [] y ys zs e = if-false (is_blank y) (is_comment ys) (nat_eq y 35) e ∙ sym (if-false (is_blank y) (is_comment zs) (nat_eq y 35) e)
is_comment-front (x ∷ xs) y ys zs e =
    elim (cases_Bool (is_blank x)) [
      | inl b ↦ if-true (is_blank x) (is_comment (xs ++ y ∷ ys)) (nat_eq x 35) b ∙ (is_comment-front xs y ys zs e ∙ sym (if-true (is_blank x) (is_comment (xs ++ y ∷ zs)) (nat_eq x 35) b))
      | inr b ↦ if-false (is_blank x) (is_comment (xs ++ y ∷ ys)) (nat_eq x 35) b ∙ sym (if-false (is_blank x) (is_comment (xs ++ y ∷ zs)) (nat_eq x 35) b)
    ]

-- a byte other than `<` parts a line
pub has_here-parts : (xs : List ℕ) (y : ℕ) (ys : List ℕ) → nat_eq y 60 ≡ false → has_here (xs ++ y ∷ ys) ≡ (has_here xs || has_here ys)
has_here-parts [] y ys e = rw e refl
has_here-parts (x ∷ []) y ys e =
    let more = has_here-parts [] y ys e in
    joined (nat_eq x 60) (nat_eq y 60) (has_here (y ∷ ys)) (has_here ys) e more where
      joined : (a b c d : Bool) → b ≡ false → c ≡ d → ((a && b) || c) ≡ (((a && false) || false) || d)
      joined true true c d k h = absurd cc
      joined false true c d k h = absurd cc
      joined true false c d k h = h
      joined false false c d k h = h
has_here-parts (x ∷ z ∷ zs) y ys e =
    let more = has_here-parts (z ∷ zs) y ys e in
    joined (nat_eq x 60 && nat_eq z 60) (has_here (z ∷ (zs ++ y ∷ ys))) (has_here (z ∷ zs)) (has_here ys) more where
      joined : (a b c d : Bool) → b ≡ (c || d) → (a || b) ≡ ((a || c) || d)
      joined true b c d h = refl
      joined false b c d h = h

pub has_here-no : (xs : List ℕ) → list_all (λ x. not (nat_eq x 60)) xs ≡ true → has_here xs ≡ false
has_here-no [] e = refl
has_here-no (x ∷ xs) e =
    let h = and_true (not (nat_eq x 60)) (list_all (λ x. not (nat_eq x 60)) xs) e in
    none (nat_eq x 60) (begins_with 60 xs) (has_here xs) h.0 (has_here-no xs h.1) where
      none : (a b c : Bool) → not a ≡ true → c ≡ false → ((a && b) || c) ≡ false
      none true b c k d = absurd cc
      none false b c k d = d
