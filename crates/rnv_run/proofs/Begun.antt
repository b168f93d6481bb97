-- A call that begins one run or none.
use Rattle.std.proofs.Common.{◌≡◌, ◌⊎◌, ◌≤◌, inl, inr, ℕ, List, map, sym, ap, subst, ◌∙◌, arith}
use Rattle.rnv_disk.specs.Images.{Image}
use Rattle.rnv_disk.specs.Stops.{LeavesOnly, Past}
use Rattle.rnv_repo.specs.declared.write.Write.{Write}
use Rattle.rnv_journal.proofs.Uses.{each_weaker}
use Rattle.rnv_journal.specs.Reading.{EachReading}
use Rattle.rnv_journal.specs.Readings.{HasReadingsNow, IsReadingNow, KeepsReadings, ReadsOnly}
use Rattle.rnv_spelling.specs.Spelling.{spelling}
use Rattle.rnv_forge.specs.Forge.{LeavesWrites, SpellSome}
use Rattle.rnv_commands.proofs.Stops.{leaves_at}
use Rattle.rnv_run.specs.Begun.{BeginsOrStays, LeavesOf, LeftOf}
use Rattle.rnv_run.specs.Begun.LeftOf.{begun, kept}
use Rattle.rnv_run.specs.Front.{IsFront, SpellsFront}

module _ (limit : ℕ) (over : List Write → List Write → Type 0) where
  pub begins_later : (entry exit : Past) (old : List Write) → BeginsOrStays limit over entry exit old → entry.moment ≤ exit.moment
  begins_later entry exit old (inl stays) = stays.later
  begins_later entry exit old (inr begins) = begins.2.later

  -- the same of the disk that is handed back, within the limit of a journal
  pub begins_at : {D : Type 0} (past : D → Past) (n : ℕ) (entry : Past) (old : List Write) (back disk : D) → n ≡ limit → back ≡ disk → BeginsOrStays n over entry (past disk) old → BeginsOrStays limit over entry (past back) old
  begins_at past n entry old back disk same is (inl stays) = inl (leaves_at past n limit entry (λ ws. ws ≡ old) back disk same is stays)
  begins_at past n entry old back disk same is (inr begins) = inr (begins.0, begins.1, leaves_at past n limit entry (IsFront old begins.0 0) back disk same is begins.2)

  module _ (entry mid exit : Past) where
    join : (R : Image → Type 0) → ((c : Image) → R c → LeftOf limit over entry c) → ReadsOnly limit entry mid (IsReadingNow limit entry) → LeavesOnly mid exit R → LeavesOnly entry exit (LeftOf limit over entry)
    join R into first run = record {
      later = omega (arith, first.later, run.later);
      each = λ c left. by c (run.before entry.moment c first.later left);
      before = λ t c le left. since_then t c le (run.before t c (omega (arith, le, first.later)) left);
    }
      where
        by : (c : Image) → mid.left entry.moment c ⊎ R c → LeftOf limit over entry c
        by c (inl left) = kept (first.each c left)
        by c (inr r) = into c r

        since_then : (t : ℕ) (c : Image) → t ≤ entry.moment → mid.left t c ⊎ R c → entry.left t c ⊎ LeftOf limit over entry c
        since_then t c le (inl left) = and_then (first.before t c le left)
          where
            and_then : entry.left t c ⊎ EachReading limit (IsReadingNow limit entry) c → entry.left t c ⊎ LeftOf limit over entry c
            and_then (inl before) = inl before
            and_then (inr reads) = inr (kept reads)
        since_then t c le (inr r) = inr (into c r)

    -- a start that keeps the readings, and behind it such a call over one of them
    pub one_call : (old : List Write) → KeepsReadings limit entry mid → IsReadingNow limit entry (map spelling old) → BeginsOrStays limit over mid exit old → LeavesOf limit over entry exit
    one_call old keeps reading run some = by run
      where
        same : (list : List (List ℕ)) → SpellSome (λ ws. ws ≡ old) list → IsReadingNow limit entry list
        same list s = subst (IsReadingNow limit entry) (sym (s.spelled.spells ∙ ap (map spelling) s.each)) reading

        by : BeginsOrStays limit over mid exit old → LeavesOnly entry exit (LeftOf limit over entry)
        by (inl stays) = join (λ c. EachReading limit (SpellSome (λ ws. ws ≡ old)) c) (λ c r. kept (each_weaker limit (SpellSome (λ ws. ws ≡ old)) (IsReadingNow limit entry) same c r)) (keeps some) stays
        by (inr begins) = join (λ c. EachReading limit (SpellsFront old begins.0 0) c) (λ c r. begun old begins.0 reading begins.1 r) (keeps some) begins.2

    -- the same where only a disk that is told has that reading
    pub told_call : (tells : Type 0) (old : List Write) → KeepsReadings limit entry mid → (tells → IsReadingNow limit entry (map spelling old)) → ((t : ℕ) (c : Image) → exit.left t c → tells) → BeginsOrStays limit over mid exit old
        → LeavesOf limit over entry exit
    told_call tells old keeps reading told run some = record {
      later = let one : entry.moment ≤ mid.moment = (keeps some).later in let two : mid.moment ≤ exit.moment = begins_later mid exit old run in omega (arith, one, two);
      each = λ c left. (one_call old keeps (reading (told entry.moment c left)) run some).each c left;
      before = λ t c le left. (one_call old keeps (reading (told t c left)) run some).before t c le left;
    }

  -- what keeps the readings begins no run
  pub keeps_begins : (entry exit : Past) → KeepsReadings limit entry exit → LeavesOf limit over entry exit
  keeps_begins entry exit keeps some =
      let run = keeps some in
      record {
        later = run.later;
        each = λ c left. kept (run.each c left);
        before = λ t c le left. by t c (run.before t c le left);
      }
    where
      by : (t : ℕ) (c : Image) → entry.left t c ⊎ EachReading limit (IsReadingNow limit entry) c → entry.left t c ⊎ LeftOf limit over entry c
      by t c (inl before) = inl before
      by t c (inr reads) = inr (kept reads)
