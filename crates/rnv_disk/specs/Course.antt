-- The calls that a disk in memory has done, and what a stop after or within them may leave.
use Rattle.std.specs.Prelude.{◌≡◌, ◌⊎◌, ℕ, ◌-◌, ◌≤◌, nat_le, Bool, true, ◌&&◌, List, [], ◌∷◌, ◌++◌, length, take, drop, reverse, refl}
use Rattle.std.proofs.Common.{inl, sym, subst}
use Rattle.std.proofs.Math.Nat.{le_trans, le_refl}
use Rattle.std.proofs.Math.Seq.{take-length}
use Rattle.rnv_disk.specs.declared.device.FileNo.{FileNo}
use Rattle.rnv_disk.specs.declared.call.Call.{Call}
use Rattle.rnv_disk.specs.declared.call.Call.TheVariants.{Write, Cut, Sync}
use Rattle.rnv_disk.specs.Images.{Image, part, with_part, put, On, Torn, CutTo}
use Rattle.rnv_disk.specs.Stops.{Past, LeftNow}

-- what both files held at first, and the calls since, the oldest first
pub record Course : Type 0 where
  pub first : Image
  pub calls : List Call

-- the file that a call is done on
abbrev pub file_of : Call → FileNo
file_of (Write file at bytes) = file
file_of (Cut file n) = file
file_of (Sync file) = file

-- the file's bytes after a call, from those before it
abbrev pub part_after : Call → List ℕ → List ℕ
part_after (Write file at bytes) old = put at bytes.bytes old
part_after (Cut file n) old = take n old
part_after (Sync file) old = old

-- The file's bytes after a stop within a call, with the given bytes in the range that it leaves
-- open, as far as they reach into it: what is written, or what lies past a cut.
abbrev pub part_torn : Call → List ℕ → List ℕ → List ℕ
part_torn (Write file at bytes) torn old = put at (take (length bytes.bytes) torn) old
part_torn (Cut file n) torn old = take n old ++ take (length old - n) torn
part_torn (Sync file) torn old = old

-- what a read gives after a call, from what one before it gives
abbrev pub one_after : Call → Image → Image
one_after call i = with_part (file_of call) (part_after call (part (file_of call) i)) i

-- what a read gives after a stop within a call
abbrev pub one_torn : Call → List ℕ → Image → Image
one_torn call torn i = with_part (file_of call) (part_torn call torn (part (file_of call) i)) i

-- what a read gives after these calls, the newest first
abbrev pub after : Image → List Call → Image
after first [] = first
after first (call ∷ older) = one_after call (after first older)

-- what a read gives after a stop within the first of these calls, which follow the older ones
abbrev pub after_part : Image → List Call → List Call → List ℕ → Image
after_part first older [] torn = after first older
after_part first older (call ∷ later) torn = one_torn call torn (after first older)

-- whether a write begins within its file
abbrev pub fits : Call → Image → Bool
fits (Write file at bytes) i = nat_le at (length (part file i))
fits (Cut file n) i = true
fits (Sync file) i = true

-- whether each of these calls, the newest first, begins within its file
abbrev pub all_fit : Image → List Call → Bool
all_fit first [] = true
all_fit first (call ∷ older) = fits call (after first older) && all_fit first older

-- what a stop after one more call may leave beside what a read gives
abbrev pub Leaves : Call → Image → (Image → Type 0) → Image → Type 0
Leaves (Write file at bytes) seen before c = (d : Image) × (before d × On file (Torn at (length bytes.bytes)) d c)
Leaves (Cut file n) seen before c = (d : Image) × (before d × On file (CutTo n) d c)
Leaves (Sync file) seen before c = before c × (part file c ≡ part file seen)

-- what a stop after these calls may leave, the newest first
abbrev pub IsImage : Image → List Call → Image → Type 0
IsImage first [] c = c ≡ first
IsImage first (call ∷ older) c = (c ≡ after first (call ∷ older)) ⊎ Leaves call (after first older) (IsImage first older) c

-- what a stop after the first t calls, or after more of them, may have left
pub record LeftSince (course : Course) (t : ℕ) (c : Image) : Type 0 where
  pub count : ℕ
  pub since : t ≤ count
  pub so_far : count ≤ length course.calls
  pub image : IsImage course.first (reverse (take count course.calls)) c

-- what a read gives
abbrev pub seen_of : Course → Image
seen_of course = after course.first (reverse course.calls)

-- what stops may leave; the moment is the number of calls
abbrev pub past_of : Course → Past
past_of course = record {
  moment = length course.calls;
  left = LeftSince course;
  earlier = λ t u c le left. record { count = left.count; since = le_trans le left.since; so_far = left.so_far; image = left.image };
}

-- what a read gives after a stop within the call with this number, from 0, or after all of them
abbrev pub stopped_of : Course → ℕ → List ℕ → Image
stopped_of course call torn =
    after_part course.first (reverse (take call course.calls)) (drop call course.calls) torn

-- what a read gives is one of the images
pub is_image : (first : Image) (calls : List Call) → IsImage first calls (after first calls)
is_image first [] = refl
is_image first (call ∷ older) = inl refl

pub reads_as_image : (course : Course) → LeftNow (past_of course) (seen_of course)
reads_as_image course = record {
  count = length course.calls;
  since = le_refl (length course.calls);
  so_far = le_refl (length course.calls);
  image =
      let P : List Call → Type 0 = λ calls. IsImage course.first (reverse calls) (seen_of course) in
      subst P (sym (take-length course.calls)) (is_image course.first (reverse course.calls));
}
