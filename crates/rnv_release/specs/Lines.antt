-- The lines of a document, which line feeds end.
use Rattle.std.specs.Prelude.{ℕ, List, [], Bool, ◌||◌, ◌==◌, Option, Some, None}
use Rattle.std.specs.List.{list_all, slice_split}

abbrev pub is_feed : ℕ → Bool
is_feed b = b == 10

-- what stands before, between and behind the line feeds
abbrev pub lines : List ℕ → List (List ℕ)
lines bytes = slice_split is_feed bytes

-- no lines where nothing stands behind a line, not even a line feed
abbrev pub lines_of : Option (List ℕ) → List (List ℕ)
lines_of None = []
lines_of (Some bytes) = lines bytes

-- a space, a tab or a carriage return
abbrev pub is_space : ℕ → Bool
is_space b = b == 32 || b == 9 || b == 13

abbrev pub is_blank : List ℕ → Bool
is_blank line = list_all is_space line
