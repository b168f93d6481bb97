-- A text from outside, as it stands in a line.
use Rattle.std.specs.Prelude.{ℕ, List, map, ◌||◌, ◌==◌, nat_lt, if◌then◌else◌}

-- a control character, which is below U+0020 or U+007F, becomes a space
abbrev pub printable_byte : ℕ → ℕ
printable_byte b = if nat_lt b 32 || (b == 127) then 32 else b

abbrev pub printable : List ℕ → List ℕ
printable text = map printable_byte text
