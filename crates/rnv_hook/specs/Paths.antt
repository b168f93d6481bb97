-- `IsPath` as a test.
use Rattle.std.specs.Prelude.{ℕ, List, length, Bool, not, ◌&&◌, ◌==◌, nat_lt, nat_le, codes}
use Rattle.std.specs.List.{list_all}
use Rattle.std.specs.Str.{is_utf8}
use Rattle.std.specs.Cmp.Lexicographic.{pointwise}
use Rattle.rnv_base.specs.Names.{segments}

-- no control character
abbrev pub is_printable : ℕ → Bool
is_printable b = nat_le 32 b && not (b == 127)

-- a segment is not empty, `.` or `..`
abbrev pub is_segment : List ℕ → Bool
is_segment part = nat_lt 0 (length part) && not (pointwise ◌==◌ part (codes ".")) && not (pointwise ◌==◌ part (codes ".."))

-- 1 to 1,000 bytes of UTF-8 without control characters, whose segments stay in their folder
abbrev pub is_path : List ℕ → Bool
is_path path =
    nat_lt 0 (length path) && nat_le (length path) 1000 && is_utf8 path && list_all is_printable path
    && list_all is_segment (segments path)
