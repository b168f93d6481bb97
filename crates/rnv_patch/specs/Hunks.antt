-- The hunks of a diff, and what a function that writes them adds.
use Rattle.std.specs.Prelude.{◌≡◌, ℕ, List, [], ◌∷◌, ◌++◌}
use Rattle.rnv_patch.specs.Diff.{Hunk, Take}
use Rattle.rnv_patch.specs.Trimmed.{IsTrimmed}
use Rattle.rnv_patch.specs.Written.{hunks_text}

-- no hunk, or one with only what is between the common front and the common end
abbrev pub AreShort : List (List ℕ) → List (List ℕ) → List Hunk → Type 0
AreShort old new [] = Unit {0}
AreShort old new (h ∷ []) = IsTrimmed old new h
AreShort old new (h ∷ i ∷ hunks) = ⊥

-- short hunks that take the old lines to the new ones
pub record AreHunks (old new : List (List ℕ)) (hunks : List Hunk) : Type 0 where
  pub take : Take hunks old new
  pub short : AreShort old new hunks

-- the text of such hunks at the end
pub record AddHunks (old new : List (List ℕ)) (before after : List ℕ) : Type 0 where
  pub hunks : List Hunk
  pub are : AreHunks old new hunks
  pub text : after ≡ before ++ hunks_text hunks
