-- The bytes of both files, and what a call or a stop within it does to them.
use Rattle.std.specs.Prelude.{◌≡◌, ◌⊎◌, ℕ, ◌+◌, ◌/◌, ◌≤◌, max, List, ◌++◌, length, take, drop}
use Rattle.rnv_disk.specs.declared.device.FileNo.{FileNo}
use Rattle.rnv_disk.specs.declared.device.FileNo.TheVariants.{Zero, One}

-- the bytes of file `Zero`, and those of file `One`
pub record Image : Type 0 where
  pub zero : List ℕ
  pub one : List ℕ

-- the bytes of a file
abbrev pub part : FileNo → Image → List ℕ
part Zero i = i.zero
part One i = i.one

-- the image with these bytes in a file
abbrev pub with_part : FileNo → List ℕ → Image → Image
with_part Zero x i = record { zero = x; one = i.one }
with_part One x i = record { zero = i.zero; one = x }

-- the other file's bytes stay
abbrev pub SameElsewhere : FileNo → Image → Image → Type 0
SameElsewhere Zero old new = new.one ≡ old.one
SameElsewhere One old new = new.zero ≡ old.zero

-- a step of one file, at which the other stays
pub record On (file : FileNo) (step : List ℕ → List ℕ → Type 0) (old new : Image) : Type 0 where
  pub here : step (part file old) (part file new)
  pub there : SameElsewhere file old new

-- nothing changes
abbrev pub Same : Image → Image → Type 0
Same old new = new ≡ old

-- the bytes after a write from an offset on
abbrev pub put : ℕ → List ℕ → List ℕ → List ℕ
put at bytes old = take at old ++ bytes ++ drop (at + length bytes) old

-- A write of n bytes from an offset on, cut short: the range may hold any bytes, what lies past the
-- old end may be missing from any place on, and the bytes outside the range stay. (Any numbers, so
-- any bytes.)
pub record Torn (at n : ℕ) (old new : List ℕ) : Type 0 where
  pub before : take at new ≡ take at old
  pub after : drop (at + n) new ≡ drop (at + n) old
  pub no_shorter : length old ≤ length new
  pub no_longer : length new ≤ max (length old) (at + n)

-- half of the bytes of a write from an offset on have reached a file, or none
abbrev pub IsHalf : ℕ → List ℕ → List ℕ → List ℕ → Type 0
IsHalf at bytes old new = (new ≡ put at (take (length bytes / 2) bytes) old) ⊎ (new ≡ old)

-- A cut to n bytes that may or may not have happened: the bytes past its length may hold anything,
-- and those before it stay.
pub record CutTo (n : ℕ) (old new : List ℕ) : Type 0 where
  pub front : take n new ≡ take n old
  pub no_longer : length new ≤ length old
