-- The image of a stage, and the tag in it.
use Rattle.std.specs.Prelude.{ℕ, List, [], ◌∷◌, length, Bool, ◌&&◌, ◌||◌, ◌==◌, not, nat_le, nat_lt, if◌then◌else◌, codes, Option, Some, None, option_and_then}
use Rattle.std.specs.List.{list_all, list_any}
use Rattle.std.specs.Str.{bytes_eq}
use Rattle.rnv_docker.specs.Stages.{is_same}

-- what stands before and behind the last colon
abbrev pub parted : ℕ → List ℕ → Option (List ℕ × List ℕ) → Option (List ℕ × List ℕ)
parted x xs None = if x == 58 then Some ([], xs) else None
parted x xs (Some p) = Some (x ∷ p.0, p.1)

abbrev pub at_colon : List ℕ → Option (List ℕ × List ℕ)
at_colon [] = None
at_colon (x ∷ xs) = parted x xs (at_colon xs)

-- No control character, no backslash, no `$` of a variable and no `@` of a digest.
abbrev pub is_plain_byte : ℕ → Bool
is_plain_byte x = nat_le 32 x && not (x == 127) && not (x == 92) && not (x == 36) && not (x == 64)

-- `scratch`, a stage before it, or an image that is not plain
abbrev pub is_passed : List (List ℕ) → List ℕ → Bool
is_passed earlier image = bytes_eq image (codes "scratch") || list_any (λ name. is_same name image) earlier || not (list_all is_plain_byte image)

abbrev pub is_no_slash : ℕ → Bool
is_no_slash x = not (x == 47)

-- A colon before a slash is that of a registry's port.
abbrev pub is_tag : List ℕ → Bool
is_tag text = nat_lt 0 (length text) && list_all is_no_slash text

abbrev pub if_tag : List (List ℕ) → List ℕ → List ℕ × List ℕ → Option (List ℕ × List ℕ)
if_tag earlier image p = if not (is_passed earlier image) && is_tag p.1 then Some p else None

-- The image without its tag, and the tag, where the image is a find. The NAMEs are those of earlier stages.
abbrev pub tagged : List (List ℕ) → List ℕ → Option (List ℕ × List ℕ)
tagged earlier image = option_and_then (if_tag earlier image) (at_colon image)
