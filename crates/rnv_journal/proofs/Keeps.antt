-- Calls that keep the readings of a disk.
use Rattle.std.proofs.Common.{◌≢◌, ◌≤◌, inl, inr, ℕ, List, ◌∷◌, refl}
use Rattle.rnv_disk.specs.declared.device.FileNo.TheVariants.{Zero}
use Rattle.rnv_disk.specs.Images.{Image}
use Rattle.rnv_disk.specs.Stops.{Past, LeftNow, IsDurable, LeavesOnly}
use Rattle.rnv_disk.proofs.Moments.{started, joined, widened, ended}
use Rattle.rnv_journal.specs.File.{made, end_of, IsBegun, IsInMaking}
use Rattle.rnv_journal.specs.Reading.{EachReading}
use Rattle.rnv_journal.specs.Readings.{HasReadingsNow, IsReadingNow, EachReadingNow, ReadsOnly, KeepsReadings, IsOneImage, IsTornFrom}
use Rattle.rnv_journal.proofs.Steps.{closing_reads, beginning_reads, filling_reads, finishing_reads}

module _ (limit : ℕ) where
  -- each reading at a moment is one of those at that moment
  pub each_now : (past : Past) → HasReadingsNow limit past → EachReadingNow limit (IsReadingNow limit past) past
  each_now past has c left = record { some = has c left; each = λ list reading. record { image = c; left = left; reading = reading } }

  has_now : (P : List (List ℕ) → Type 0) (past : Past) → EachReadingNow limit P past → HasReadingsNow limit past
  has_now P past each c left = (each c left).some

  -- a call that does nothing
  pub keeps_self : (past : Past) → KeepsReadings limit past past
  keeps_self past has = started past (λ c. EachReading limit (IsReadingNow limit past) c) (each_now past has)

  -- one call after another
  pub keeps_both : (old mid new : Past) → KeepsReadings limit old mid → KeepsReadings limit mid new → KeepsReadings limit old new
  keeps_both old mid new one two has = joined old mid new (λ c. EachReading limit (IsReadingNow limit old) c) first
      (widened mid new (λ c. EachReading limit (IsReadingNow limit mid) c) (λ c. EachReading limit (IsReadingNow limit old) c) back
      (two (has_now (IsReadingNow limit old) mid between)))
    where
      first : ReadsOnly limit old mid (IsReadingNow limit old)
      first = one has

      between : EachReadingNow limit (IsReadingNow limit old) mid
      between c left = ended old mid (λ c. EachReading limit (IsReadingNow limit old) c) first c left

      back : (c : Image) → EachReading limit (IsReadingNow limit mid) c → EachReading limit (IsReadingNow limit old) c
      back c each = record { some = each.some; each = λ list reading. let now = each.each list reading in (between now.image now.left).each list now.reading }

  -- a run at whose every moment a stop leaves what it could have left before
  pub keeps_left : (old new : Past) → LeavesOnly old new (LeftNow old) → KeepsReadings limit old new
  keeps_left old new run has = widened old new (LeftNow old) (λ c. EachReading limit (IsReadingNow limit old) c) (each_now old has) run

  module _ (old new : Past) where
    pub closing_keeps : (ps : List (List ℕ)) (g : ℕ) → IsOneImage limit old ps g → g ≢ 0 → LeavesOnly old new (IsTornFrom old (end_of ps) 1) → KeepsReadings limit old new
    closing_keeps ps g one torn run has = closing_reads limit ps old new (IsReadingNow limit old) g one.rest one.image torn one.durable (each_now old has) run

    pub beginning_keeps : (file : List ℕ) → 14 ≤ limit → IsDurable Zero old file → IsInMaking file → (IsBegun file → ⊥) → LeavesOnly old new (IsTornFrom old 0 1)
        → KeepsReadings limit old new
    beginning_keeps file enough durable making other run has = beginning_reads limit enough (IsReadingNow limit old) old new file durable making (each_now old has) other run

    pub filling_keeps : (file : List ℕ) → 14 ≤ limit → IsDurable Zero old file → IsBegun file → LeavesOnly old new (IsTornFrom old 1 13) → KeepsReadings limit old new
    filling_keeps file enough durable begun run has = filling_reads limit enough (IsReadingNow limit old) old new file durable (inr (inl begun)) (each_now old has) begun run

    pub finishing_keeps : 14 ≤ limit → IsDurable Zero old (0 ∷ made) → LeavesOnly old new (IsTornFrom old 0 1) → KeepsReadings limit old new
    finishing_keeps enough durable run has =
        let making : IsInMaking (0 ∷ made) = inr (inr (record { first = λ e. cc; rest = refl })) in
        finishing_reads limit enough (IsReadingNow limit old) old new (0 ∷ made) durable making (each_now old has) refl run
