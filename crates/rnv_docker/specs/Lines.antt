-- The lines of a Dockerfile, which line feeds end.
use Rattle.std.specs.Prelude.{ℕ, List, [], ◌∷◌, Bool, false, ◌&&◌, ◌||◌, ◌==◌, not, if◌then◌else◌}
use Rattle.std.specs.List.{list_all, slice_split}

abbrev pub lines : List ℕ → List (List ℕ)
lines file = slice_split (λ x. x == 10) file

-- a space or a tab
abbrev pub is_blank : ℕ → Bool
is_blank x = (x == 32) || (x == 9)

-- a space, a tab or a carriage return
abbrev pub is_space : ℕ → Bool
is_space x = is_blank x || (x == 13)

abbrev pub is_empty : List ℕ → Bool
is_empty line = list_all is_space line

-- The first byte other than a space and a tab is `#`.
abbrev pub is_comment : List ℕ → Bool
is_comment [] = false
is_comment (x ∷ xs) = if is_blank x then is_comment xs else x == 35

-- Empty lines and comments are taken out, also within an instruction.
abbrev pub is_left : List ℕ → Bool
is_left line = not (is_empty line) && not (is_comment line)

-- The last byte other than a space, a tab and a carriage return is a backslash.
abbrev pub goes_on : List ℕ → Bool
goes_on [] = false
goes_on (x ∷ xs) = if is_empty xs then x == 92 else goes_on xs

abbrev pub begins_with : ℕ → List ℕ → Bool
begins_with c [] = false
begins_with c (x ∷ xs) = x == c

-- `<<` stands in it, which may begin a here-document.
abbrev pub has_here : List ℕ → Bool
has_here [] = false
has_here (x ∷ xs) = ((x == 60) && begins_with 60 xs) || has_here xs
