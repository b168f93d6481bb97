-- For the layer above, which names lists of byte strings alone: how what is said of readings goes on.
use Rattle.std.proofs.Common.{◌≡◌, ◌≤◌, ℕ, List, inl, inr, ⊎_elim, subst, sym, ◌∙◌}
use Rattle.rnv_disk.specs.Images.{Image}
use Rattle.rnv_disk.specs.Stops.{Past, LeftNow}
use Rattle.rnv_disk.proofs.Moments.{started, joined, widened, ended}
use Rattle.rnv_journal.specs.FileReading.{FileReadsAs}
use Rattle.rnv_journal.specs.Reading.{EachReading, IsWrongAt, ReadsAs}
use Rattle.rnv_journal.specs.Readings.{IsReadingNow, EachReadingNow, ReadsOnly, ReadsOnlySince, KeepsReadings, IsAtRest}
use Rattle.rnv_journal.proofs.Each.{one_image}
use Rattle.rnv_journal.proofs.Wrong.{image_made, wrong_unread}

one_file_read : (limit : ℕ) (file : List ℕ) (ps qs : List (List ℕ)) → FileReadsAs limit file ps → FileReadsAs limit file qs → ps ≡ qs
one_file_read limit file ps qs (inl m) (inl n) = m.1 ∙ sym n.1
one_file_read limit file ps qs (inl m) (inr n) = absurd (image_made limit file _ _ _ n.image m.0)
one_file_read limit file ps qs (inr m) (inl n) = absurd (image_made limit file _ _ _ m.image n.0)
one_file_read limit file ps qs (inr m) (inr n) = (one_image limit file ps qs _ _ _ _ m.image n.image).0

module _ (limit : ℕ) where
  -- an image reads as one list at most
  pub one_read : (c : Image) (ps qs : List (List ℕ)) → ReadsAs limit c ps → ReadsAs limit c qs → ps ≡ qs
  one_read c ps qs one two = one_file_read limit c.zero ps qs one two

  -- and as none where its bytes go wrong
  pub wrong_reads : (c : Image) (offset : ℕ) (ps : List (List ℕ)) → IsWrongAt limit c offset → ReadsAs limit c ps → ⊥
  wrong_reads c offset ps wrong reads = wrong_unread limit c.zero offset ps wrong reads

  -- what an image reads as that a stop leaves now is one of the readings now
  pub reading_now : (past : Past) (c : Image) (list : List (List ℕ)) → LeftNow past c → ReadsAs limit c list → IsReadingNow limit past list
  reading_now past c list left reads = record { image = c; left = left; reading = inl reads }

  -- what holds of each reading may be said more weakly
  pub each_weaker : (P Q : List (List ℕ) → Type 0) → ((list : List (List ℕ)) → P list → Q list) → (c : Image) → EachReading limit P c → EachReading limit Q c
  each_weaker P Q weaker c each = record { some = each.some; each = λ list reading. weaker list (each.each list reading) }

  pub reads_weaker : (old new : Past) (P Q : List (List ℕ) → Type 0) → ((list : List (List ℕ)) → P list → Q list) → ReadsOnly limit old new P → ReadsOnly limit old new Q
  reads_weaker old new P Q weaker run = widened old new (λ c. EachReading limit P c) (λ c. EachReading limit Q c) (each_weaker P Q weaker) run

  -- before the first call
  pub reads_first : (past : Past) (P : List (List ℕ) → Type 0) → EachReadingNow limit P past → ReadsOnly limit past past P
  reads_first past P each = started past (λ c. EachReading limit P c) each

  -- one run after another
  pub reads_then : (old mid new : Past) (P : List (List ℕ) → Type 0) → ReadsOnly limit old mid P → ReadsOnly limit mid new P → ReadsOnly limit old new P
  reads_then old mid new P one two = joined old mid new (λ c. EachReading limit P c) one two

  -- after a run
  pub reads_after : (old new : Past) (P : List (List ℕ) → Type 0) → ReadsOnly limit old new P → EachReadingNow limit P new
  reads_after old new P run = ended old new (λ c. EachReading limit P c) run

  -- at rest at a list, each reading is so if the list is
  pub rest_reads : (past : Past) (list : List (List ℕ)) (P : List (List ℕ) → Type 0) → IsAtRest limit past list → P list → EachReadingNow limit P past
  rest_reads past list P rest here c left = each_weaker (λ reading. reading ≡ list) P (λ reading same. subst P (sym same) here) c (rest.settled c left)

  -- where each reading on entry is so, each reading at any moment of a call that keeps the readings is so
  pub kept_reads : (old new : Past) (P : List (List ℕ) → Type 0) → EachReadingNow limit P old → KeepsReadings limit old new → ReadsOnly limit old new P
  kept_reads old new P each keeps =
      reads_weaker old new (IsReadingNow limit old) P (λ list now. (each now.image now.left).each list now.reading) (keeps (λ c left. (each c left).some))

  -- since the run began
  pub reads_since : (old new : Past) (P : List (List ℕ) → Type 0) → ReadsOnly limit old new P → ReadsOnlySince limit old.moment new P
  reads_since old new P run = run.each

  -- what holds since a moment goes on through a run
  pub since_then : (moment : ℕ) (old new : Past) (P : List (List ℕ) → Type 0) → moment ≤ old.moment → ReadsOnlySince limit moment old P → ReadsOnly limit old new P
      → ReadsOnlySince limit moment new P
  since_then moment old new P le before run c left = ⊎_elim (before c) (λ each. each) (run.before moment c le left)

  -- a run does not go back in time
  pub reads_later : (old new : Past) (P : List (List ℕ) → Type 0) → ReadsOnly limit old new P → old.moment ≤ new.moment
  reads_later old new P run = run.later
