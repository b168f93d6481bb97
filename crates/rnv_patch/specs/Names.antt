-- How a path is named in a diff, as git does it.
use Rattle.std.specs.Prelude.{ℕ, ◌+◌, ◌/◌, ◌%◌, ◌==◌, nat_lt, nat_le, Bool, ◌||◌, if◌then◌else◌, List, [], ◌∷◌, ◌++◌, flat_map}
use Rattle.std.specs.List.{list_any}

-- a control character, a byte above 127, `"` or `\`
abbrev pub is_escaped : ℕ → Bool
is_escaped b = nat_lt b 32 || nat_le 127 b || b == 34 || b == 92

-- a byte in three octal digits
abbrev pub octal : ℕ → List ℕ
octal b = (48 + b / 64) ∷ (48 + b / 8 % 8) ∷ (48 + b % 8) ∷ []

-- what stands behind the `\`
abbrev pub escape : ℕ → List ℕ
escape b =
    if b == 34 then 34 ∷ [] else if b == 92 then 92 ∷ []
    else if b == 7 then 97 ∷ [] else if b == 8 then 98 ∷ [] else if b == 9 then 116 ∷ []
    else if b == 10 then 110 ∷ [] else if b == 11 then 118 ∷ [] else if b == 12 then 102 ∷ []
    else if b == 13 then 114 ∷ [] else octal b

abbrev pub escaped : ℕ → List ℕ
escaped b = if is_escaped b then 92 ∷ escape b else b ∷ []

-- the path behind `a/` or `b/`; between quotes where a byte is escaped
abbrev pub named : List ℕ → List ℕ → List ℕ
named front path =
    if list_any is_escaped path then 34 ∷ front ++ (flat_map escaped path ++ 34 ∷ []) else front ++ path

-- what ends a name at the end of a line: a tab, where the name has a space
abbrev pub name_end : List ℕ → List ℕ
name_end path = if list_any (λ b. b == 32) path then 9 ∷ [] else []
