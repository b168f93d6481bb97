-- The one hunk between a common front and a common end of two lists of lines.
use Rattle.std.specs.Prelude.{◌≡◌, ℕ, ◌-◌, List, [], ◌∷◌, ◌++◌, length, take, drop, map}
use Rattle.rnv_patch.specs.Diff.{kept, removed, added, Hunk}

-- the lines of context
abbrev pub last_three : List (List ℕ) → List (List ℕ)
last_three lines = drop (length lines - 3) lines

abbrev pub first_three : List (List ℕ) → List (List ℕ)
first_three lines = take 3 lines

-- behind so many lines of both files: lines that stay, lines that are removed, lines that are added, lines that stay
abbrev pub hunk_of : ℕ → List (List ℕ) → List (List ℕ) → List (List ℕ) → List (List ℕ) → Hunk
hunk_of before context old new after = record {
  old_before = before;
  new_before = before;
  changes = map kept context ++ (map removed old ++ (map added new ++ map kept after));
}

abbrev pub trimmed_hunk : List (List ℕ) → List (List ℕ) → List (List ℕ) → List (List ℕ) → Hunk
trimmed_hunk front old new end = hunk_of (length front - 3) (last_three front) old new (first_three end)

-- both begin with the same line, or end with it
pub record BeginAlike (old new : List (List ℕ)) : Type 0 where
  pub line : List ℕ
  pub old_rest : List (List ℕ)
  pub new_rest : List (List ℕ)
  pub old_is : old ≡ line ∷ old_rest
  pub new_is : new ≡ line ∷ new_rest

pub record EndAlike (old new : List (List ℕ)) : Type 0 where
  pub line : List ℕ
  pub old_rest : List (List ℕ)
  pub new_rest : List (List ℕ)
  pub old_is : old ≡ old_rest ++ line ∷ []
  pub new_is : new ≡ new_rest ++ line ∷ []

-- The hunk has only what is between the longest common front and the longest common end of the rest, and three lines
-- of context on each side, or as many as there are.
pub record IsTrimmed (old new : List (List ℕ)) (h : Hunk) : Type 0 where
  pub front : List (List ℕ)
  pub old_middle : List (List ℕ)
  pub new_middle : List (List ℕ)
  pub end : List (List ℕ)
  pub old_is : old ≡ front ++ (old_middle ++ end)
  pub new_is : new ≡ front ++ (new_middle ++ end)
  pub begins : ¬ BeginAlike old_middle new_middle
  pub ends : ¬ EndAlike old_middle new_middle
  pub hunk_is : h ≡ trimmed_hunk front old_middle new_middle end
