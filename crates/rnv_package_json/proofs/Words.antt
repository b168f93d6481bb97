-- Numbers and literals are runs of word bytes.
use Rattle.std.proofs.Common.{◌≡◌, ℕ, ◌-◌, Bool, true, false, cond, List, [], ◌∷◌, ◌++◌, length, take, Option, Some, None, refl, sym, ap, subst, ◌∙◌, arith, inl, inr, length-append}
use Rattle.std.specs.Prelude.{nat_eq, ◌||◌, option_and_then, codes}
use Rattle.std.specs.Char.{is_ascii_digit}
use Rattle.std.specs.Str.{bytes_eq}
use Rattle.std.specs.List.{list_all}
use Rattle.std.proofs.lemmas.Bool.Decides.{nat_tests}
use Rattle.std.proofs.lemmas.Bool.{cases_Bool, or_cases}
use Rattle.std.proofs.lemmas.Slice.Eq.{bytes_eq-Decides}
use Rattle.std.proofs.lemmas.List.{take_at}
use Rattle.rnv_package_json.specs.Text.{skip}
use Rattle.rnv_package_json.specs.Word.{after_digits, after_minus, after_sign, after_whole, after_fraction, after_exponent, after_number, is_number, is_end}
use Rattle.rnv_package_json.specs.Word.{is_word_byte, is_word, after_word}
use Rattle.rnv_package_json.proofs.Strings.{chosen}

pub if-true : {A : Type 0} (b : Bool) (x y : A) → b ≡ true → cond b x y ≡ x
if-true true x y e = refl
if-true false x y e = absurd cc

pub if-false : {A : Type 0} (b : Bool) (x y : A) → b ≡ false → cond b x y ≡ y
if-false true x y e = absurd cc
if-false false x y e = refl

-- between the two there are word bytes alone
abbrev Runs : List ℕ → List ℕ → Type 0
Runs xs rest = skip is_word_byte xs ≡ skip is_word_byte rest

digit_in_word : (x : ℕ) → is_ascii_digit x ≡ true → is_word_byte x ≡ true
digit_in_word x e = grind (arith, nat_tests)

Runs-cons : (x : ℕ) (xs : List ℕ) → is_word_byte x ≡ true → Runs (x ∷ xs) xs
Runs-cons x xs e = rw e refl

Runs-digits : (xs : List ℕ) → Runs xs (skip is_ascii_digit xs)
Runs-digits [] = refl
Runs-digits (x ∷ xs) =
    elim (cases_Bool (is_ascii_digit x)) [
      | inl e ↦ Runs-cons x xs (digit_in_word x e) ∙ (Runs-digits xs ∙ ap (λ (l : List ℕ). skip is_word_byte l) (sym (if-true (is_ascii_digit x) (skip is_ascii_digit xs) (x ∷ xs) e)))
      | inr e ↦ ap (λ (l : List ℕ). skip is_word_byte l) (sym (if-false (is_ascii_digit x) (skip is_ascii_digit xs) (x ∷ xs) e))
    ]

after_digits-runs : (xs rest : List ℕ) → after_digits xs ≡ Some rest → Runs xs rest
after_digits-runs [] rest e = absurd cc
after_digits-runs (x ∷ xs) rest e =
    elim (chosen (is_ascii_digit x) (Some (skip is_ascii_digit xs)) None (Some rest) e) [
      | inl h ↦ let same : skip is_ascii_digit xs ≡ rest = cc in Runs-cons x xs (digit_in_word x h.0) ∙ (Runs-digits xs ∙ ap (λ (l : List ℕ). skip is_word_byte l) same)
      | inr h ↦ absurd cc
    ]

after_minus-runs : (xs : List ℕ) → Runs xs (after_minus xs)
after_minus-runs [] = refl
after_minus-runs (x ∷ xs) =
    elim (cases_Bool (nat_eq x 45)) [
      | inl e ↦ Runs-cons x xs (grind (arith, nat_tests)) ∙ ap (λ (l : List ℕ). skip is_word_byte l) (sym (if-true (nat_eq x 45) xs (x ∷ xs) e))
      | inr e ↦ ap (λ (l : List ℕ). skip is_word_byte l) (sym (if-false (nat_eq x 45) xs (x ∷ xs) e))
    ]

after_sign-runs : (xs : List ℕ) → Runs xs (after_sign xs)
after_sign-runs [] = refl
after_sign-runs (x ∷ xs) =
    elim (cases_Bool (nat_eq x 45 || nat_eq x 43)) [
      | inl e ↦ Runs-cons x xs (grind (arith, nat_tests)) ∙ ap (λ (l : List ℕ). skip is_word_byte l) (sym (if-true (nat_eq x 45 || nat_eq x 43) xs (x ∷ xs) e))
      | inr e ↦ ap (λ (l : List ℕ). skip is_word_byte l) (sym (if-false (nat_eq x 45 || nat_eq x 43) xs (x ∷ xs) e))
    ]

after_whole-runs : (xs rest : List ℕ) → after_whole xs ≡ Some rest → Runs xs rest
after_whole-runs [] rest e = absurd cc
after_whole-runs (x ∷ xs) rest e =
    elim (chosen (nat_eq x 48) (Some xs) (after_digits (x ∷ xs)) (Some rest) e) [
      | inl h ↦ let same : xs ≡ rest = cc in Runs-cons x xs (grind (arith, nat_tests)) ∙ ap (λ (l : List ℕ). skip is_word_byte l) same
      | inr h ↦ after_digits-runs (x ∷ xs) rest h.1
    ]

after_fraction-runs : (xs rest : List ℕ) → after_fraction xs ≡ Some rest → Runs xs rest
after_fraction-runs [] rest e = let same : [] ≡ rest = cc in ap (λ (l : List ℕ). skip is_word_byte l) same
after_fraction-runs (x ∷ xs) rest e =
    elim (chosen (nat_eq x 46) (after_digits xs) (Some (x ∷ xs)) (Some rest) e) [
      | inl h ↦ Runs-cons x xs (grind (arith, nat_tests)) ∙ after_digits-runs xs rest h.1
      | inr h ↦ let same : x ∷ xs ≡ rest = cc in ap (λ (l : List ℕ). skip is_word_byte l) same
    ]

after_exponent-runs : (xs rest : List ℕ) → after_exponent xs ≡ Some rest → Runs xs rest
after_exponent-runs [] rest e = let same : [] ≡ rest = cc in ap (λ (l : List ℕ). skip is_word_byte l) same
after_exponent-runs (x ∷ xs) rest e =
    elim (chosen (nat_eq x 101 || nat_eq x 69) (after_digits (after_sign xs)) (Some (x ∷ xs)) (Some rest) e) [
      | inl h ↦ Runs-cons x xs (grind (arith, nat_tests)) ∙ (after_sign-runs xs ∙ after_digits-runs (after_sign xs) rest h.1)
      | inr h ↦ let same : x ∷ xs ≡ rest = cc in ap (λ (l : List ℕ). skip is_word_byte l) same
    ]

pub bind_some : {A B : Type 0} (o : Option A) (f : A → Option B) (y : B) → option_and_then f o ≡ Some y → (x : A) × (o ≡ Some x) × (f x ≡ Some y)
bind_some (Some x) f y e = (x, refl, e)
bind_some None f y e = absurd cc

is_end-none : (o : Option (List ℕ)) → is_end o ≡ true → o ≡ Some []
is_end-none None e = absurd cc
is_end-none (Some []) e = refl
is_end-none (Some (x ∷ xs)) e = absurd cc

number_runs : (w : List ℕ) → is_number w ≡ true → Runs w []
unfolding after_number
number_runs w e =
    let all = is_end-none (after_number w) e in
    let c = bind_some (option_and_then after_fraction (after_whole (after_minus w))) after_exponent [] all in
    let b = bind_some (after_whole (after_minus w)) after_fraction c.0 c.1 in
    after_minus-runs w ∙ (after_whole-runs (after_minus w) b.0 b.1 ∙ (after_fraction-runs b.0 c.0 b.2 ∙ after_exponent-runs c.0 [] c.2))

literal_runs : (w lit : List ℕ) → Runs lit [] → bytes_eq w lit ≡ true → Runs w []
literal_runs w lit h e = ap (λ (l : List ℕ). skip is_word_byte l) ((bytes_eq-Decides w lit).0 e) ∙ h

pub word_runs : (w : List ℕ) → is_word w ≡ true → Runs w []
word_runs w e =
    elim (or_cases (bytes_eq w (codes "true") || bytes_eq w (codes "false") || bytes_eq w (codes "null")) (is_number w) e) [
      | inr number ↦ number_runs w number
      | inl literal ↦ elim (or_cases (bytes_eq w (codes "true") || bytes_eq w (codes "false")) (bytes_eq w (codes "null")) literal) [
        | inr l ↦ literal_runs w (codes "null") refl l
        | inl rest ↦ elim (or_cases (bytes_eq w (codes "true")) (bytes_eq w (codes "false")) rest) [
          | inl l ↦ literal_runs w (codes "true") refl l
          | inr l ↦ literal_runs w (codes "false") refl l
        ]
      ]
    ]

-- a run before a rest is passed
pub skip-over : (p : ℕ → Bool) (w rest : List ℕ) → skip p w ≡ [] → skip p (w ++ rest) ≡ skip p rest
skip-over p [] rest e = refl
skip-over p (x ∷ xs) rest e =
    elim (cases_Bool (p x)) [
      | inl h ↦ rw h (skip-over p xs rest (rw h at e))
      | inr h ↦ absurd (let wrong : x ∷ xs ≡ [] = rw h at e in cc)
    ]

-- the front that is passed, and the rest
pub skip-splits : (p : ℕ → Bool) (xs : List ℕ) → (g : List ℕ) × (xs ≡ g ++ skip p xs) × (list_all p g ≡ true)
skip-splits p [] = ([], refl, refl)
skip-splits p (x ∷ xs) =
    let more = skip-splits p xs in
    elim (cases_Bool (p x)) [
      | inl h ↦ (x ∷ more.0, rw h (ap (λ (l : List ℕ). x ∷ l) more.1), rw (h, more.2) refl)
      | inr h ↦ ([], rw h refl, refl)
    ]

front-is : (w rest : List ℕ) → take (length (w ++ rest) - length rest) (w ++ rest) ≡ w
front-is w rest =
    let n : length (w ++ rest) - length rest ≡ length w = omega (arith, length-append w rest) in
    rw n (take_at w rest (length w) refl)

pub after_word-again : (w rest : List ℕ) → is_word w ≡ true → skip is_word_byte rest ≡ rest → after_word (w ++ rest) ≡ Some rest
unfolding after_word
after_word-again w rest e ends =
    let over : skip is_word_byte (w ++ rest) ≡ rest = skip-over is_word_byte w rest (word_runs w e) ∙ ends in
    rw (over, front-is w rest, e) refl

pub after_word-takes : (xs rest : List ℕ) → after_word xs ≡ Some rest → (w : List ℕ) × (xs ≡ w ++ rest) × (is_word w ≡ true)
unfolding after_word
after_word-takes xs rest e =
    let s = skip-splits is_word_byte xs in
    let front : take (length xs - length (skip is_word_byte xs)) xs ≡ s.0 = subst (λ (l : List ℕ). take (length l - length (skip is_word_byte xs)) l ≡ s.0) (sym s.1) (front-is s.0 (skip is_word_byte xs)) in
    elim (chosen (is_word (take (length xs - length (skip is_word_byte xs)) xs)) (Some (skip is_word_byte xs)) None (Some rest) e) [
      | inl h ↦ let same : skip is_word_byte xs ≡ rest = cc in (s.0, s.1 ∙ ap (λ (l : List ℕ). s.0 ++ l) same, rw (← front) h.0)
      | inr h ↦ absurd cc
    ]
