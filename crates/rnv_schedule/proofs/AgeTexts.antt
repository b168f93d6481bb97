-- Reading an age from the left finds its parts, and only those.
use Rattle.std.proofs.Common.{arith, ◌≡◌, ◌+◌, ◌-◌, ◌*◌, ◌<◌, ◌≤◌, ◌↔◌, ℕ, List, [], ◌∷◌, ◌++◌, length, take, drop, Bool, true, false, refl, sym, ap, subst, ◌∙◌, ◌⊎◌, inl, inr, Option, Some, None}
use Rattle.std.specs.Prelude.{◌||◌, ◌==◌, nat_le, if◌then◌else◌, option_map}
use Rattle.std.specs.Char.{is_ascii_digit}
use Rattle.std.specs.List.{list_all, prefix_len}
use Rattle.std.specs.Option.{option_zip}
use Rattle.std.specs.Str.{bytes_eq}
use Rattle.std.specs.Str.Parse.{digits_value}
use Rattle.std.proofs.Math.Seq.{take-append_seam, drop-append_seam}
use Rattle.std.proofs.lemmas.Bool.{cases_Bool, eqb-true, cond-true, cond-false, le-leb, leb-true, lt-leb}
use Rattle.std.proofs.lemmas.List.{append-nil, length-take, length-drop, take_all, take-append-drop}
use Rattle.std.proofs.lemmas.Slice.Eq.{bytes_eq-Decides}
use Rattle.rnv_schedule.specs.Ages.{IsAge, IsOptional, TimeUnit, minute, hour, day, week, age_of, age_with, name_of, past_space, seconds_of, unit_seconds}
use Rattle.rnv_schedule.specs.Numbers.{number_of}
use Rattle.rnv_schedule.proofs.Digits.{and_parts}

-- ---- what stands behind the digits

pub record IsTail (space : List ℕ) (unit : TimeUnit) (plural : List ℕ) : Type 0 where
  pub no_digit : prefix_len is_ascii_digit (space ++ (name_of unit ++ plural)) ≡ 0
  pub unspaced : past_space (space ++ (name_of unit ++ plural)) ≡ name_of unit ++ plural
  pub seconds : unit_seconds (name_of unit ++ plural) ≡ Some (seconds_of unit)

plain : (unit : TimeUnit) → IsTail [] unit [] × IsTail [] unit (115 ∷ []) × IsTail (32 ∷ []) unit [] × IsTail (32 ∷ []) unit (115 ∷ [])
plain minute = (record { no_digit = refl; unspaced = refl; seconds = refl }, record { no_digit = refl; unspaced = refl; seconds = refl }, record { no_digit = refl; unspaced = refl; seconds = refl }, record { no_digit = refl; unspaced = refl; seconds = refl })
plain hour = (record { no_digit = refl; unspaced = refl; seconds = refl }, record { no_digit = refl; unspaced = refl; seconds = refl }, record { no_digit = refl; unspaced = refl; seconds = refl }, record { no_digit = refl; unspaced = refl; seconds = refl })
plain day = (record { no_digit = refl; unspaced = refl; seconds = refl }, record { no_digit = refl; unspaced = refl; seconds = refl }, record { no_digit = refl; unspaced = refl; seconds = refl }, record { no_digit = refl; unspaced = refl; seconds = refl })
plain week = (record { no_digit = refl; unspaced = refl; seconds = refl }, record { no_digit = refl; unspaced = refl; seconds = refl }, record { no_digit = refl; unspaced = refl; seconds = refl }, record { no_digit = refl; unspaced = refl; seconds = refl })

same_tail : (space space' : List ℕ) (unit : TimeUnit) (plural plural' : List ℕ) → space ≡ space' → plural ≡ plural' → IsTail space' unit plural' → IsTail space unit plural
same_tail space space' unit plural plural' e f h = subst (λ (s : List ℕ). IsTail s unit plural) (sym e) (subst (λ (p : List ℕ). IsTail space' unit p) (sym f) h)

tail_of : (space : List ℕ) (unit : TimeUnit) (plural : List ℕ) → IsOptional 32 space → IsOptional 115 plural → IsTail space unit plural
tail_of space unit plural (inl e) (inl f) = same_tail space [] unit plural [] e f (plain unit).0
tail_of space unit plural (inl e) (inr f) = same_tail space [] unit plural (115 ∷ []) e f (plain unit).1
tail_of space unit plural (inr e) (inl f) = same_tail space (32 ∷ []) unit plural [] e f (plain unit).2
tail_of space unit plural (inr e) (inr f) = same_tail space (32 ∷ []) unit plural (115 ∷ []) e f (plain unit).3

-- ---- the unit

tested : Bool → Bool → Bool → Bool → TimeUnit → Bool
tested a b c d minute = a
tested a b c d hour = b
tested a b c d day = c
tested a b c d week = d

chosen : (a b c d : Bool) (seconds : ℕ) → (if a then Some 60 else (if b then Some 3_600 else (if c then Some 86_400 else (if d then Some 604_800 else None)))) ≡ Some seconds → (unit : TimeUnit) × (tested a b c d unit ≡ true) × (seconds ≡ seconds_of unit)
unfolding tested
chosen true b c d seconds e = (minute, refl, cc)
chosen false true c d seconds e = (hour, refl, cc)
chosen false false true d seconds e = (day, refl, cc)
chosen false false false true seconds e = (week, refl, cc)
chosen false false false false seconds e = absurd cc

either : (a b : Bool) → (a || b) ≡ true → (a ≡ true) ⊎ (b ≡ true)
either true b h = inl refl
either false b h = inr h

is_named : List ℕ → TimeUnit → Bool
is_named text unit = bytes_eq text (name_of unit) || bytes_eq text (name_of unit ++ 115 ∷ [])

named : (text : List ℕ) (unit : TimeUnit) → is_named text unit ≡ true → (plural : List ℕ) × IsOptional 115 plural × (text ≡ name_of unit ++ plural)
unfolding is_named
named text unit h = elim (either (bytes_eq text (name_of unit)) (bytes_eq text (name_of unit ++ 115 ∷ [])) h) [
  | inl e ↦ ([], inl refl, (bytes_eq-Decides text (name_of unit)).0 e ∙ sym (append-nil (name_of unit)))
  | inr e ↦ (115 ∷ [], inr refl, (bytes_eq-Decides text (name_of unit ++ 115 ∷ [])).0 e)
]

tested-named : (text : List ℕ) (unit : TimeUnit) → tested (is_named text minute) (is_named text hour) (is_named text day) (is_named text week) unit ≡ is_named text unit
unfolding tested
tested-named text minute = refl
tested-named text hour = refl
tested-named text day = refl
tested-named text week = refl

unit_said : (text : List ℕ) (seconds : ℕ) → unit_seconds text ≡ Some seconds → (unit : TimeUnit) × (plural : List ℕ) × IsOptional 115 plural × (text ≡ name_of unit ++ plural) × (seconds ≡ seconds_of unit)
unfolding is_named
unit_said text seconds e =
    let found = chosen (is_named text minute) (is_named text hour) (is_named text day) (is_named text week) seconds e in
    let parts = named text found.0 (sym (tested-named text found.0) ∙ found.1) in
    (found.0, parts.0, parts.1, parts.2, found.2)

-- ---- the digits

none_some : (n : ℕ) (o : Option ℕ) → o ≡ None → o ≡ Some n → ⊥
none_some n o e f = cc

number_digits : (text : List ℕ) (count : ℕ) → number_of text ≡ Some count → list_all is_ascii_digit text ≡ true
number_digits [] count e = refl
number_digits (c ∷ text) count e = elim (cases_Bool (list_all is_ascii_digit (c ∷ text))) [
  | inl h ↦ h
  | inr h ↦ absurd (none_some count _ (cond-false (list_all is_ascii_digit (c ∷ text)) (Some (digits_value 10 (c ∷ text))) None h) e)
]

prefix_all : (p : ℕ → Bool) (xs ys : List ℕ) → list_all p xs ≡ true → prefix_len p ys ≡ 0 → prefix_len p (xs ++ ys) ≡ length xs
prefix_all p [] ys h e = e
prefix_all p (x ∷ xs) ys h e =
    let parts = and_parts (p x) (list_all p xs) h in
    cond-true (p x) _ _ parts.0 ∙ ap (λ (n : ℕ). 1 + n) (prefix_all p xs ys parts.1 e) ∙ omega arith

-- ---- both ways

spaced : (text : List ℕ) → (space : List ℕ) × IsOptional 32 space × (text ≡ space ++ past_space text)
spaced [] = ([], inl refl, refl)
spaced (b ∷ rest) = elim (cases_Bool (b == 32)) [
  | inl h ↦ (32 ∷ [], inr refl, ap (λ (c : ℕ). c ∷ rest) (eqb-true b 32 h) ∙ ap (λ (t : List ℕ). 32 ∷ t) (sym (cond-true (b == 32) _ _ h)))
  | inr h ↦ ([], inl refl, sym (cond-false (b == 32) _ _ h))
]

product : (a b : Option ℕ) (seconds : ℕ) → option_map (λ p. p.0 * p.1) (option_zip a b) ≡ Some seconds → (count unit : ℕ) × (a ≡ Some count) × (b ≡ Some unit) × (seconds ≡ count * unit)
product (Some count) (Some unit) seconds e = (count, unit, refl, refl, cc)
product (Some count) None seconds e = absurd cc
product None b seconds e = absurd cc

age_said : (digits : ℕ) (text : List ℕ) (seconds : ℕ) → age_with digits text ≡ Some seconds → IsAge text seconds
age_said digits text seconds e = elim (cases_Bool (nat_le digits 5)) [
  | inl h ↦ whole (leb-true digits 5 h) (sym (cond-true (nat_le digits 5) _ _ h) ∙ e)
  | inr h ↦ let none = cond-false (nat_le digits 5) (option_map (λ p. p.0 * p.1) (option_zip (number_of (take digits text)) (unit_seconds (past_space (drop digits text))))) None h in absurd cc
] where
  whole : digits ≤ 5 → option_map (λ p. p.0 * p.1) (option_zip (number_of (take digits text)) (unit_seconds (past_space (drop digits text)))) ≡ Some seconds → IsAge text seconds
  whole short f =
      let numbers = product (number_of (take digits text)) (unit_seconds (past_space (drop digits text))) seconds f in
      let unit = unit_said (past_space (drop digits text)) numbers.1 numbers.3 in
      let space = spaced (drop digits text) in
      let few : length (take digits text) ≤ 5 = omega (arith, length-take digits text) in
      record {
        digits = take digits text;
        space = space.0;
        unit = unit.0;
        plural = unit.1;
        spelled = sym (take-append-drop digits text) ∙ ap (λ (t : List ℕ). take digits text ++ t) (space.2 ∙ ap (λ (t : List ℕ). space.0 ++ t) unit.3);
        short = few;
        spaced = space.1;
        ended = unit.2;
        count = numbers.0;
        counted = numbers.2;
        product = numbers.4 ∙ ap (λ (n : ℕ). numbers.0 * n) unit.4;
      }

age_read : (text : List ℕ) (seconds : ℕ) → IsAge text seconds → age_of text ≡ Some seconds
unfolding age_of
age_read text seconds h =
    let rest : List ℕ = h.space ++ (name_of h.unit ++ h.plural) in
    let tail = tail_of h.space h.unit h.plural h.spaced h.ended in
    let count = prefix_all is_ascii_digit h.digits rest (number_digits h.digits h.count h.counted) tail.no_digit in
    ap (λ (t : List ℕ). age_with (prefix_len is_ascii_digit t) t) h.spelled
    ∙ (ap (λ (n : ℕ). age_with n (h.digits ++ rest)) count
    ∙ (cond-true (nat_le (length h.digits) 5) _ _ (le-leb (length h.digits) 5 h.short)
    ∙ (ap (λ (t : List ℕ). option_map (λ p. p.0 * p.1) (option_zip (number_of t) (unit_seconds (past_space (drop (length h.digits) (h.digits ++ rest)))))) (take-append_seam h.digits rest)
    ∙ (ap (λ (t : List ℕ). option_map (λ p. p.0 * p.1) (option_zip (number_of h.digits) (unit_seconds (past_space t)))) (drop-append_seam h.digits rest)
    ∙ (ap (λ (t : List ℕ). option_map (λ p. p.0 * p.1) (option_zip (number_of h.digits) (unit_seconds t))) tail.unspaced
    ∙ (ap (λ (o : Option ℕ). option_map (λ p. p.0 * p.1) (option_zip (number_of h.digits) o)) tail.seconds
    ∙ (ap (λ (o : Option ℕ). option_map (λ p. p.0 * p.1) (option_zip o (Some (seconds_of h.unit)))) h.counted
    ∙ ap (λ (n : ℕ). Some n) (sym h.product))))))))

pub ages_are : (text : List ℕ) (result : Option ℕ) → result ≡ age_of text → (seconds : ℕ) → (result ≡ Some seconds) ↔ IsAge text seconds
unfolding age_of
ages_are text result e seconds = (
  λ f. age_said (prefix_len is_ascii_digit text) text seconds (sym e ∙ f),
  λ h. e ∙ age_read text seconds h,
)

-- ---- the reader

pub age_long : (text : List ℕ) (digits : ℕ) → digits ≡ prefix_len is_ascii_digit text → 5 < digits → None ≡ age_of text
unfolding age_of
age_long text digits e h = sym (ap (λ (n : ℕ). age_with n text) (sym e) ∙ cond-false (nat_le digits 5) _ _ (lt-leb digits 5 h))

pub age_short : (text : List ℕ) (digits : ℕ) (a b : Option ℕ) → digits ≡ prefix_len is_ascii_digit text → digits ≤ 5 → a ≡ number_of (take digits text) → b ≡ unit_seconds (past_space (drop digits text)) → option_map (λ p. p.0 * p.1) (option_zip a b) ≡ age_of text
unfolding age_of
age_short text digits a b e h f g =
    ap (λ (o : Option ℕ). option_map (λ p. p.0 * p.1) (option_zip o b)) f
    ∙ (ap (λ (o : Option ℕ). option_map (λ p. p.0 * p.1) (option_zip (number_of (take digits text)) o)) g
    ∙ sym (ap (λ (n : ℕ). age_with n text) (sym e) ∙ cond-true (nat_le digits 5) _ _ (le-leb digits 5 h)))

pub rest_is : (n : ℕ) (text : List ℕ) → take (length text - n) (drop n text) ≡ drop n text
rest_is n text = take_all (length text - n) (drop n text) (omega (arith, length-drop n text))
