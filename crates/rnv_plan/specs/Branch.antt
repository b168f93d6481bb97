-- The name of a branch: `renovate/`, the package as a topic, and the new major number.
use Rattle.std.specs.Prelude.{ℕ, List, [], ◌∷◌, ◌++◌, Bool, false, ◌||◌, ◌&&◌, ◌==◌, not, if◌then◌else◌, map, filter, reverse, codes}
use Rattle.std.specs.Char.{is_ascii_lowercase, is_ascii_digit, to_ascii_lowercase}
use Rattle.std.specs.Fmt.{decimal}

-- a small letter, a digit, a point or an underscore
abbrev pub is_plain : ℕ → Bool
is_plain x = is_ascii_lowercase x || is_ascii_digit x || (x == 46) || (x == 95)

abbrev pub plain_or_dash : ℕ → ℕ
plain_or_dash x = if is_plain x then x else 45

-- in small letters, without `@`, each other byte a dash
abbrev pub written : List ℕ → List ℕ
written name = map plain_or_dash (filter (λ x. not (x == 64)) (map to_ascii_lowercase name))

abbrev pub begins_with_dash : List ℕ → Bool
begins_with_dash [] = false
begins_with_dash (x ∷ xs) = x == 45

-- of the dashes in a row the last one stays
abbrev pub single_dashes : List ℕ → List ℕ
single_dashes [] = []
single_dashes (x ∷ xs) = if (x == 45) && begins_with_dash xs then single_dashes xs else x ∷ single_dashes xs

-- without the longest front of bytes that pass
abbrev pub skip : (ℕ → Bool) → List ℕ → List ℕ
skip p [] = []
skip p (x ∷ xs) = if p x then skip p xs else x ∷ xs

abbrev pub is_edge : ℕ → Bool
is_edge x = (x == 45) || (x == 46)

-- without dashes and points at both ends
abbrev pub trimmed : List ℕ → List ℕ
trimmed s = reverse (skip is_edge (reverse (skip is_edge s)))

abbrev pub or_x : List ℕ → List ℕ
or_x [] = codes "x"
or_x (x ∷ xs) = x ∷ xs

-- the package as a part of a branch name
unfoldable pub sanitised : List ℕ → List ℕ
sanitised name = or_x (trimmed (single_dashes (written name)))

abbrev pub branch_of : List ℕ → ℕ → List ℕ
branch_of name major = codes "renovate/" ++ (sanitised name ++ (codes "-" ++ (decimal major ++ codes ".x")))
