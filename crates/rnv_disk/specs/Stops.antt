-- What a stop may leave, over time.
use Rattle.std.specs.Prelude.{◌≡◌, ◌⊎◌, ℕ, ◌≤◌, List}
use Rattle.rnv_disk.specs.declared.device.FileNo.{FileNo}
use Rattle.rnv_disk.specs.Images.{Image, part}

-- the moment, as a number that never falls, and what a stop at some moment since a given one may
-- have left
pub record Past : Type 1 where
  pub moment : ℕ
  pub left : ℕ → Image → Type 0
  -- a moment since a later one is a moment since an earlier one
  pub earlier : (t u : ℕ) (c : Image) → t ≤ u → left u c → left t c

-- what a stop at this moment may leave
abbrev pub LeftNow : Past → Image → Type 0
LeftNow past c = past.left past.moment c

-- whatever a stop at this moment leaves, the file holds these bytes
abbrev pub IsDurable : FileNo → Past → List ℕ → Type 0
IsDurable file past bytes = (c : Image) → LeftNow past c → part file c ≡ bytes

-- One call: what a stop within it or after it may leave comes by the step from what one before it
-- may leave.
pub record Elapses (step : Image → Image → Type 0) (old new : Past) : Type 0 where
  pub later : old.moment ≤ new.moment
  pub nothing_else : (t : ℕ) (c : Image) → t ≤ old.moment → new.left t c → old.left t c ⊎ LeftNow new c
  pub keeps : (t : ℕ) (c : Image) → t ≤ old.moment → old.left t c → new.left t c
  pub follows : (c : Image) → LeftNow new c → (d : Image) × LeftNow old d × step d c

-- A run of calls: any stop since it began leaves what has P.
pub record LeavesOnly (old new : Past) (P : Image → Type 0) : Type 0 where
  pub later : old.moment ≤ new.moment
  pub each : (c : Image) → new.left old.moment c → P c
  -- for a run that began earlier
  pub before : (t : ℕ) (c : Image) → t ≤ old.moment → new.left t c → old.left t c ⊎ P c
