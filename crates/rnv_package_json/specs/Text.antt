-- White space (RFC 8259, section 2) and what may stand between the quotes of a string (section 7).
use Rattle.std.specs.Prelude.{ℕ, zero, suc, List, [], ◌∷◌, Bool, true, false, ◌&&◌, ◌||◌, ◌==◌, not, nat_le, if◌then◌else◌, Option, Some, None}
use Rattle.std.specs.Char.{is_ascii_hexdigit}
use Rattle.rnv_package_json.specs.declared.text.Within.{Within}
use Rattle.rnv_package_json.specs.declared.text.Within.TheVariants.{Plain, Escaped, Hex}

-- what follows the longest front of bytes that pass
abbrev pub skip : (ℕ → Bool) → List ℕ → List ℕ
skip p [] = []
skip p (x ∷ xs) = if p x then skip p xs else x ∷ xs

abbrev pub is_space : ℕ → Bool
is_space x = (x == 32) || (x == 9) || (x == 10) || (x == 13)

-- the letter after a backslash, but for `u`
abbrev pub is_escape : ℕ → Bool
is_escape x = (x == 34) || (x == 92) || (x == 47) || (x == 98) || (x == 102) || (x == 110) || (x == 114) || (x == 116)

-- where the next byte stands, among characters, behind a backslash or among the last n + 1 hex digits of `\u`
abbrev pub next : Within → ℕ → Option Within
next Plain x = if x == 92 then Some Escaped else (if nat_le 32 x then Some Plain else None)
next Escaped x = if x == 117 then Some (Hex 3) else (if is_escape x then Some Plain else None)
next (Hex zero) x = if is_ascii_hexdigit x then Some Plain else None
next (Hex (suc n)) x = if is_ascii_hexdigit x then Some (Hex n) else None

abbrev pub is_plain : Within → Bool
is_plain Plain = true
is_plain Escaped = false
is_plain (Hex n) = false

-- What follows the quote that closes the string, from such a place in it. None is behind a fault.
abbrev pub after_text : Option Within → List ℕ → Option (List ℕ)
after_text None bytes = None
after_text (Some w) [] = None
after_text (Some w) (x ∷ xs) = if is_plain w && (x == 34) then Some xs else after_text (next w x) xs

-- the inside of a string, from such a place in it
abbrev pub is_inside : Option Within → List ℕ → Bool
is_inside None bytes = false
is_inside (Some w) [] = is_plain w
is_inside (Some w) (x ∷ xs) = not (is_plain w && (x == 34)) && is_inside (next w x) xs
