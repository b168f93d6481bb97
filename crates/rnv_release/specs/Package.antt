-- `IsPackageName` as a test.
use Rattle.std.specs.Prelude.{ℕ, List, length, Bool, not, ◌&&◌, ◌==◌, nat_lt, nat_le, codes}
use Rattle.std.specs.List.{list_all}
use Rattle.std.specs.Cmp.Lexicographic.{pointwise}
use Rattle.rnv_base.specs.Names.{is_package_byte, segments}

-- a segment is not empty, `.` or `..`
abbrev pub is_segment : List ℕ → Bool
is_segment part = nat_lt 0 (length part) && not (pointwise ◌==◌ part (codes ".")) && not (pointwise ◌==◌ part (codes ".."))

abbrev pub is_package_name : List ℕ → Bool
is_package_name name = nat_lt 0 (length name) && nat_le (length name) 214 && list_all is_package_byte name && list_all is_segment (segments name)
