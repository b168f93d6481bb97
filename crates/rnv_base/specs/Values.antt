-- The characters of a value in the files that name dependencies.
use Rattle.std.specs.Prelude.{ℕ, ◌==◌, ◌&&◌, ◌||◌, nat_le, nat_lt, not, Bool, List, length}
use Rattle.std.specs.Char.{is_ascii_alphanumeric}
use Rattle.std.specs.List.{list_all}

-- printable ASCII without the quote, the apostrophe and the backslash
abbrev pub is_quotable_byte : ℕ → Bool
is_quotable_byte b = nat_le 32 b && nat_le b 126 && not (b == 34) && not (b == 39) && not (b == 92)

-- what may stand between quotes
abbrev pub is_quotable : List ℕ → Bool
is_quotable text = list_all is_quotable_byte text

-- a letter, a digit, `_`, `.` or `-`
abbrev pub is_tag_byte : ℕ → Bool
is_tag_byte b = is_ascii_alphanumeric b || b == 95 || b == 46 || b == 45

-- what may stand for a tag, which has no quotes around it
abbrev pub is_tag_text : List ℕ → Bool
is_tag_text text = nat_lt 0 (length text) && list_all is_tag_byte text
