-- The lines of a text.
use Rattle.std.specs.Prelude.{ℕ, ◌-◌, ◌==◌, Bool, false, if◌then◌else◌, List, [], ◌∷◌, length, map, slice_get, Option, None, Some}
use denote.Ref.{Bor}

abbrev pub with_front : ℕ → List (List ℕ) → List (List ℕ)
with_front b [] = (b ∷ []) ∷ []
with_front b (line ∷ lines) = (b ∷ line) ∷ lines

-- each line ends with its line feed, but the last one may have none
abbrev pub lines : List ℕ → List (List ℕ)
lines [] = []
lines (b ∷ bs) = if b == 10 then (10 ∷ []) ∷ lines bs else with_front b (lines bs)

abbrev pub is_feed : Option ℕ → Bool
is_feed None = false
is_feed (Some b) = b == 10

-- whether a line ends with a line feed
abbrev pub is_ended : List ℕ → Bool
is_ended line = is_feed (slice_get line (length line - 1))

-- lines that are lent
abbrev pub lent : List (Bor (List ℕ)) → List (List ℕ)
lent lines = map (λ line. line.now) lines
