-- Numbers and the three literals (RFC 8259, sections 3 and 6). Each part takes the bytes and gives what follows it.
use Rattle.std.specs.Prelude.{ℕ, ◌-◌, List, [], ◌∷◌, length, take, Bool, true, false, ◌||◌, ◌==◌, if◌then◌else◌, Option, Some, None, option_and_then, codes}
use Rattle.std.specs.Char.{is_ascii_digit, is_ascii_alphanumeric}
use Rattle.std.specs.Str.{bytes_eq}
use Rattle.rnv_package_json.specs.Text.{skip}

abbrev pub after_digits : List ℕ → Option (List ℕ)
after_digits [] = None
after_digits (x ∷ xs) = if is_ascii_digit x then Some (skip is_ascii_digit xs) else None

abbrev pub after_minus : List ℕ → List ℕ
after_minus [] = []
after_minus (x ∷ xs) = if x == 45 then xs else x ∷ xs

abbrev pub after_sign : List ℕ → List ℕ
after_sign [] = []
after_sign (x ∷ xs) = if (x == 45) || (x == 43) then xs else x ∷ xs

abbrev pub after_whole : List ℕ → Option (List ℕ)
after_whole [] = None
after_whole (x ∷ xs) = if x == 48 then Some xs else after_digits (x ∷ xs)

abbrev pub after_fraction : List ℕ → Option (List ℕ)
after_fraction [] = Some []
after_fraction (x ∷ xs) = if x == 46 then after_digits xs else Some (x ∷ xs)

abbrev pub after_exponent : List ℕ → Option (List ℕ)
after_exponent [] = Some []
after_exponent (x ∷ xs) = if (x == 101) || (x == 69) then after_digits (after_sign xs) else Some (x ∷ xs)

unfoldable pub after_number : List ℕ → Option (List ℕ)
after_number bytes = option_and_then after_exponent (option_and_then after_fraction (after_whole (after_minus bytes)))

abbrev pub is_end : Option (List ℕ) → Bool
is_end None = false
is_end (Some []) = true
is_end (Some (x ∷ xs)) = false

abbrev pub is_number : List ℕ → Bool
is_number bytes = is_end (after_number bytes)

-- letters, digits, plus, minus and point
abbrev pub is_word_byte : ℕ → Bool
is_word_byte x = is_ascii_alphanumeric x || (x == 43) || (x == 45) || (x == 46)

abbrev pub is_word : List ℕ → Bool
is_word w = bytes_eq w (codes "true") || bytes_eq w (codes "false") || bytes_eq w (codes "null") || is_number w

-- what follows the longest run of word bytes, where that is a word
unfoldable pub after_word : List ℕ → Option (List ℕ)
after_word bytes = if is_word (take (length bytes - length (skip is_word_byte bytes)) bytes) then Some (skip is_word_byte bytes) else None
