-- Texts and numbers as they are printed.
use Rattle.std.specs.Prelude.{ℕ, List, [], ◌∷◌, ◌++◌, map, ◌||◌, ◌==◌, nat_lt, if◌then◌else◌}
use Rattle.std.specs.Fmt.{decimal}

-- a control character is printed as a space
abbrev pub shown_byte : ℕ → ℕ
shown_byte b = if nat_lt b 32 || (b == 127) then 32 else b

abbrev pub shown : List ℕ → List ℕ
shown text = map shown_byte text

abbrev pub line_end : List ℕ
line_end = 10 ∷ []

-- a text from outside, or a number, behind what is said of it
abbrev pub with_text : List ℕ → List ℕ → List ℕ
with_text words text = words ++ shown text

abbrev pub with_number : List ℕ → ℕ → List ℕ
with_number words n = words ++ decimal n
