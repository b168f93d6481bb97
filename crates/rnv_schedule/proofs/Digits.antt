-- Numbers that are read digit by digit, up to a limit.
use Rattle.std.proofs.Common.{arith, ◌≡◌, ◌+◌, ◌-◌, ◌*◌, ◌^◌, ◌<◌, ◌≤◌, ℕ, List, [], ◌∷◌, length, take, get_or, min, Bool, true, false, refl, sym, ap, ◌∙◌, Some}
use Rattle.std.specs.Prelude.{◌&&◌, ◌==◌}
use Rattle.std.specs.Char.{digit_value, is_ascii_digit}
use Rattle.std.specs.List.{list_all}
use Rattle.std.specs.Str.Parse.{AllDigits, digits_value}
use Rattle.std.proofs.Math.Nat.{pow-le-pow_right}
use Rattle.std.proofs.lemmas.Bool.{cond-true}
use Rattle.std.proofs.lemmas.Bool.Decides.{nat_tests}
use Rattle.std.proofs.lemmas.Int.Digits.{digits_value-lt, digits_value_more}
use Rattle.std.proofs.lemmas.List.{take_all}
use Rattle.std.proofs.lemmas.List.Folds.{list_all_more}
use Rattle.rnv_schedule.specs.Numbers.{number_of}

digit_is : (c : ℕ) → is_ascii_digit c ≡ true → (digit_value c ≡ c - 48) × (digit_value c < 10)
digit_is c h = grind (arith, nat_tests)

pub all_more : (text : List ℕ) (i : ℕ) → i < length text → list_all is_ascii_digit (take i text) ≡ true → is_ascii_digit (get_or text i 0) ≡ true → list_all is_ascii_digit (take (i + 1) text) ≡ true
all_more text i h before here = list_all_more is_ascii_digit text i 0 h ∙ ap (λ (b : Bool). b && is_ascii_digit (get_or text i 0)) before ∙ here

pub value_more : (text : List ℕ) (i number next : ℕ) → i < length text → number ≡ min 1_000_000 (digits_value 10 (take i text)) → is_ascii_digit (get_or text i 0) ≡ true → next ≡ min (number * 10 + (get_or text i 0 - 48)) 1_000_000 → next ≡ min 1_000_000 (digits_value 10 (take (i + 1) text))
value_more text i number next h before here e = let more = digits_value_more 10 text i h in let digit = digit_is (get_or text i 0) here in omega arith

pub and_parts : (a b : Bool) → (a && b) ≡ true → (a ≡ true) × (b ≡ true)
and_parts true b h = (refl, h)
and_parts false b h = absurd cc

all_digits : (text : List ℕ) → list_all is_ascii_digit text ≡ true → AllDigits 10 text
all_digits [] h = tt
all_digits (c ∷ text) h =
    let parts = and_parts (is_ascii_digit c) (list_all is_ascii_digit text) h in
    ((digit_is c parts.0).1, all_digits text parts.1)

-- a number of 6 digits is below the limit
short_value : (text : List ℕ) → length text ≤ 6 → list_all is_ascii_digit text ≡ true → digits_value 10 text < 1_000_000
short_value text h all =
    let below = digits_value-lt 10 text (all_digits text all) in
    let wide : 10 ^ length text ≤ 10 ^ 6 = pow-le-pow_right {n = 10} (omega arith) h in
    omega arith

pub short_number : (text : List ℕ) (number i : ℕ) → (length text == 0) ≡ false → length text ≤ i → list_all is_ascii_digit (take i text) ≡ true → number ≡ min 1_000_000 (digits_value 10 (take i text)) → length text ≤ 6 → Some number ≡ number_of text
short_number [] number i some whole all e short = absurd cc
short_number (c ∷ text) number i some whole all e short =
    let same = take_all i (c ∷ text) whole in
    let digits : list_all is_ascii_digit (c ∷ text) ≡ true = ap (list_all is_ascii_digit) (sym same) ∙ all in
    let below = short_value (c ∷ text) short digits in
    let value : number ≡ digits_value 10 (c ∷ text) = e ∙ ap (λ (t : List ℕ). min 1_000_000 (digits_value 10 t)) same ∙ omega arith in
    ap (λ (n : ℕ). Some n) value ∙ sym (cond-true (list_all is_ascii_digit (c ∷ text)) _ _ digits)
