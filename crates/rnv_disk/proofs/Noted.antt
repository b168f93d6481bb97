-- What each call of a disk in memory changes, and what stops then leave.
use Rattle.std.proofs.Common.{◌≡◌, inl, inr, ℕ, ◌≤◌, [], ◌∷◌, ◌++◌, length, take, reverse, Result, Ok, Err, OnOk, OnErr, refl, sym, ◌∙◌, subst, arith}
use Rattle.rnv_base.specs.Buffer.{Buffer}
use Rattle.rnv_disk.specs.declared.device.FileNo.{FileNo}
use Rattle.rnv_disk.specs.declared.call.Call.{Call}
use Rattle.rnv_disk.specs.declared.call.Call.TheVariants.{Write, Cut, Sync}
use Rattle.rnv_disk.specs.Images.{Image, Same, part, put, On, Torn, CutTo}
use Rattle.rnv_disk.specs.Stops.{Past, Elapses}
use Rattle.rnv_disk.specs.Course.{Course, IsImage, is_image, seen_of, past_of}
use Rattle.rnv_disk.proofs.Ranges.{torn_put, torn_wider, on_wider, cut_take, on_part, part_kept}
use Rattle.rnv_disk.proofs.OneMore.{none, longer, one_more}

-- the course after a call that was done or refused
pub noted : {T E : Type 0} (result : Result T E) (old new : Course) (call : Call) (step : Image → Image → Type 0)
    → ((c : Image) → step c c) → Elapses step (past_of old) (past_of (longer old call))
    → OnOk result (new ≡ record old { calls = old.calls ++ call ∷ [] }) → OnErr result (new ≡ old) → Elapses step (past_of old) (past_of new)
noted (Ok done) old new call step stays time ok err = subst (λ (x : Course). Elapses step (past_of old) (past_of x)) (sym ok) time
noted (Err e) old new call step stays time ok err = subst (λ (x : Course). Elapses step (past_of old) (past_of x)) (sym err) (none (past_of old) step stays)

module _ (course : Course) (file : FileNo) where
  abbrev seen : Image
  seen = seen_of course

  pub write_more : (at n : ℕ) (kept : Buffer) → at ≤ length (part file seen) → length kept.bytes ≡ n
      → Elapses (On file (Torn at n)) (past_of course) (past_of (longer course (Write file at kept)))
  write_more at n kept le is_n = one_more course (Write file at kept) (On file (Torn at n)) comes
    where
      comes : (c : Image) → IsImage course.first (Write file at kept ∷ reverse course.calls) c → (d : Image) × IsImage course.first (reverse course.calls) d × On file (Torn at n) d c
      comes c (inl is) = (
        seen,
        is_image course.first (reverse course.calls),
        subst (λ (i : Image). On file (Torn at n) seen i) (sym is) (on_part file (Torn at n) (put at kept.bytes (part file seen)) seen (torn_put at n kept.bytes (part file seen) le (omega (arith, is_n)))),
      )
      comes c (inr from) = (from.0, from.1.0, subst (λ (m : ℕ). On file (Torn at m) from.0 c) is_n from.1.1)

  pub cut_more : (n : ℕ) → Elapses (On file (CutTo n)) (past_of course) (past_of (longer course (Cut file n)))
  cut_more n = one_more course (Cut file n) (On file (CutTo n)) comes
    where
      comes : (c : Image) → IsImage course.first (Cut file n ∷ reverse course.calls) c → (d : Image) × IsImage course.first (reverse course.calls) d × On file (CutTo n) d c
      comes c (inl is) = (
        seen,
        is_image course.first (reverse course.calls),
        subst (λ (i : Image). On file (CutTo n) seen i) (sym is) (on_part file (CutTo n) (take n (part file seen)) seen (cut_take n (part file seen))),
      )
      comes c (inr from) = (from.0, from.1.0, from.1.1)

  pub sync_more : Elapses Same (past_of course) (past_of (longer course (Sync file)))
  sync_more = one_more course (Sync file) Same comes
    where
      comes : (c : Image) → IsImage course.first (Sync file ∷ reverse course.calls) c → (d : Image) × IsImage course.first (reverse course.calls) d × Same d c
      comes c (inl is) = (seen, is_image course.first (reverse course.calls), is ∙ part_kept file seen)
      comes c (inr from) = (c, from.0, refl)

-- a write that is cut short may be the front of a longer one
pub torn_longer : (file : FileNo) (at n m : ℕ) (old new : Past) → n ≤ m → Elapses (On file (Torn at n)) old new → Elapses (On file (Torn at m)) old new
torn_longer file at n m old new le time = record {
  later = time.later;
  nothing_else = time.nothing_else;
  keeps = time.keeps;
  follows = λ c left.
      let from = time.follows c left in
      (from.0, from.1, on_wider file (Torn at n) (Torn at m) (λ x y torn. torn_wider at n m x y le torn) from.0 c from.2);
}
