-- What a unified diff says of a file: the hunks that take its old lines to its new ones.
use Rattle.std.specs.Prelude.{◌≡◌, ℕ, ◌+◌, List, [], ◌∷◌, ◌++◌, length}

-- a line of a hunk: it is in both files, in the old one alone, or in the new one alone
pub data Change : Type 0 where
  kept : List ℕ → Change
  removed : List ℕ → Change
  added : List ℕ → Change

-- the lines of the old file
abbrev pub old_lines : List Change → List (List ℕ)
old_lines [] = []
old_lines (kept line ∷ changes) = line ∷ old_lines changes
old_lines (removed line ∷ changes) = line ∷ old_lines changes
old_lines (added line ∷ changes) = old_lines changes

-- the lines of the new file
abbrev pub new_lines : List Change → List (List ℕ)
new_lines [] = []
new_lines (kept line ∷ changes) = line ∷ new_lines changes
new_lines (removed line ∷ changes) = new_lines changes
new_lines (added line ∷ changes) = line ∷ new_lines changes

-- changes, and how many lines stand before them in the old file and in the new one
pub record Hunk : Type 0 where
  pub old_before : ℕ
  pub new_before : ℕ
  pub changes : List Change

-- A hunk takes some of the old lines to new ones, where so many lines of both files stand before these: some lines
-- stay, then the hunk stands where it says that it does, with its lines; of what is behind it, Rest holds.
pub record HunkTakes (h : Hunk) (old_at new_at : ℕ) (old new : List (List ℕ)) (Rest : ℕ → ℕ → List (List ℕ) → List (List ℕ) → Type 0) : Type 0 where
  pub stay : List (List ℕ)
  pub old_rest : List (List ℕ)
  pub new_rest : List (List ℕ)
  pub old_is : old ≡ stay ++ (old_lines h.changes ++ old_rest)
  pub new_is : new ≡ stay ++ (new_lines h.changes ++ new_rest)
  pub old_place : h.old_before ≡ old_at + length stay
  pub new_place : h.new_before ≡ new_at + length stay
  pub rest : Rest (h.old_before + length (old_lines h.changes)) (h.new_before + length (new_lines h.changes)) old_rest new_rest

-- Hunks take old lines to new ones, where so many lines of both files stand before these.
abbrev pub TakeFrom : List Hunk → ℕ → ℕ → List (List ℕ) → List (List ℕ) → Type 0
TakeFrom [] old_at new_at old new = old ≡ new
TakeFrom (h ∷ hunks) old_at new_at old new = HunkTakes h old_at new_at old new (TakeFrom hunks)

-- Hunks take the lines of a file to others.
abbrev pub Take : List Hunk → List (List ℕ) → List (List ℕ) → Type 0
Take hunks old new = TakeFrom hunks 0 0 old new
