-- A line as its words.
use Rattle.std.specs.Prelude.{ℕ, List, [], ◌∷◌, ◌++◌, if◌then◌else◌}
use Rattle.rnv_docker.specs.Lines.{is_space}

-- Each word has the spaces before it; behind the last word stand spaces too.
pub data Words : Type 0 where
  spaces : List ℕ → Words
  word : List ℕ → List ℕ → Words → Words

-- the line
abbrev pub spelled : Words → List ℕ
spelled (spaces gap) = gap
spelled (word gap text ws) = gap ++ (text ++ spelled ws)

-- one more space, or another byte, before the words
abbrev pub spaced : ℕ → Words → Words
spaced x (spaces gap) = spaces (x ∷ gap)
spaced x (word gap text ws) = word (x ∷ gap) text ws

abbrev pub lettered : ℕ → Words → Words
lettered x (spaces gap) = word [] (x ∷ []) (spaces gap)
lettered x (word [] text ws) = word [] (x ∷ text) ws
lettered x (word (y ∷ gap) text ws) = word [] (x ∷ []) (word (y ∷ gap) text ws)

-- the longest runs of other bytes than spaces, tabs and carriage returns
abbrev pub words : List ℕ → Words
words [] = spaces []
words (x ∷ xs) = if is_space x then spaced x (words xs) else lettered x (words xs)
