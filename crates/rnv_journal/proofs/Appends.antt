-- An append: a write behind the gate at the end, and then a write of 1 into that gate.
use Rattle.std.proofs.Common.{◌≡◌, ◌≤◌, ◌⊎◌, inl, ℕ, ◌+◌, List, [], ◌∷◌, ◌++◌, length, drop, refl, sym, ◌∙◌, ap, subst, arith, append_assoc}
use Rattle.rnv_disk.specs.declared.device.FileNo.TheVariants.{Zero}
use Rattle.rnv_disk.specs.Images.{Image, put}
use Rattle.rnv_disk.specs.Stops.{Past, LeftNow, IsDurable, LeavesOnly}
use Rattle.rnv_disk.proofs.Moments.{joined, widened}
use Rattle.rnv_journal.specs.File.{body, spelled, end_of, counted}
use Rattle.rnv_journal.specs.Reading.{EachReading}
use Rattle.rnv_journal.specs.Readings.{ReadsOnly, IsAtRest, IsNext, IsTornFrom}
use Rattle.rnv_journal.proofs.Changed.{length_spelled, put_gate, put_behind, drop_one}
use Rattle.rnv_journal.proofs.Each.{spelled_push, closed_of}
use Rattle.rnv_journal.proofs.Steps.{behind_reads, opening_reads, one_file}

-- what is read of a disk at rest
pub rest_spelled : (limit : ℕ) (past : Past) (ps : List (List ℕ)) (seen : Image) → IsAtRest limit past ps → LeftNow past seen
    → seen.zero ≡ spelled ps 0 (drop (end_of ps + 1) seen.zero)
rest_spelled limit past ps seen rest left =
    let is = closed_of limit seen.zero ps (rest.settled seen left) (rest.made seen left) in
    let same = is.1.spells in
    let behind = ap (λ (f : List ℕ). drop (end_of ps + 1) f) same ∙ drop_one ps 0 is.0 in
    same ∙ ap (λ (r : List ℕ). spelled ps 0 r) (sym behind)

pub rest_within : (limit : ℕ) (past : Past) (ps : List (List ℕ)) (seen : Image) → IsAtRest limit past ps → LeftNow past seen → end_of ps + 1 ≤ length seen.zero
rest_within limit past ps seen rest left = omega (arith, ap length (rest_spelled limit past ps seen rest left), length_spelled ps 0 (drop (end_of ps + 1) seen.zero))

-- readings that grow by one list
abbrev pub OldOrNew : List (List ℕ) → List ℕ → List (List ℕ) → Type 0
OldOrNew ps p list = (list ≡ ps) ⊎ (list ≡ ps ++ p ∷ [])

module _ (tells : Type 0) (limit : ℕ) (ps : List (List ℕ)) (p : List ℕ) (old mid new : Past) (seen : Image) (told : (c : Image) → LeftNow mid c → tells)
    (now : tells → LeftNow old seen) (rest : IsAtRest limit old ps) where
  -- what stands behind the entry that was written
  abbrev behind : List ℕ
  behind = drop (length (body p ++ 0 ∷ [])) (drop (end_of ps + 1) seen.zero)

  pub written_durable : IsDurable Zero mid (put (end_of ps + 1) (body p ++ 0 ∷ []) seen.zero) → IsDurable Zero mid (spelled ps 0 (body p ++ 0 ∷ behind))
  written_durable durable c left =
      let t = told c left in
      let is = rest_spelled limit old ps seen rest (now t) in
      durable c left ∙ ap (λ (f : List ℕ). put (end_of ps + 1) (body p ++ 0 ∷ []) f) is ∙ put_behind ps 0 (body p ++ 0 ∷ []) (drop (end_of ps + 1) seen.zero)
      ∙ ap (λ (r : List ℕ). spelled ps 0 r) (append_assoc (body p) (0 ∷ []) behind)

  -- the first write alone
  pub first_reads : LeavesOnly old mid (IsTornFrom old (end_of ps + 1) (length (body p ++ 0 ∷ []))) → ReadsOnly limit old mid (OldOrNew ps p)
  first_reads run =
      widened old mid (λ c. EachReading limit (λ list. list ≡ ps) c) (λ c. EachReading limit (OldOrNew ps p) c)
      (λ c each. record { some = each.some; each = λ list reading. inl (each.each list reading) }) (behind_reads limit ps old mid _ rest run)

  -- both
  pub both_read : LeavesOnly old mid (IsTornFrom old (end_of ps + 1) (length (body p ++ 0 ∷ []))) → IsDurable Zero mid (put (end_of ps + 1) (body p ++ 0 ∷ []) seen.zero)
      → counted (ps ++ p ∷ []) ≤ limit → LeavesOnly mid new (IsTornFrom mid (end_of ps) 1) → ReadsOnly limit old new (OldOrNew ps p)
  both_read first durable within second =
      joined old mid new (λ c. EachReading limit (OldOrNew ps p) c) (first_reads first)
      (opening_reads limit ps mid new p behind (written_durable durable) within second)

  -- and then the disk is at rest at the longer list
  pub both_rest : IsDurable Zero mid (put (end_of ps + 1) (body p ++ 0 ∷ []) seen.zero) → counted (ps ++ p ∷ []) ≤ limit
      → ((file : List ℕ) → IsDurable Zero mid file → IsDurable Zero new (put (end_of ps) (1 ∷ []) file)) → IsAtRest limit new (ps ++ p ∷ [])
  both_rest durable within writes =
      let file = spelled ps 0 (body p ++ 0 ∷ behind) in
      let is = put_gate ps 0 1 (body p ++ 0 ∷ behind) ∙ spelled_push ps p 0 behind in
      let kept = subst (λ (f : List ℕ). IsDurable Zero new f) is (writes file (written_durable durable)) in
      one_file limit new (spelled (ps ++ p ∷ []) 0 behind) (ps ++ p ∷ []) behind kept (record { spells = refl; ends = λ e. cc; within = within })

-- what was written, by its place and its bytes
module _ (limit : ℕ) (ps : List (List ℕ)) (p : List ℕ) (end : ℕ) (line : List ℕ) (next : IsNext limit ps p end line) (old mid new : Past) where
  pub next_first : LeavesOnly old mid (IsTornFrom old (end + 1) (length line)) → LeavesOnly old mid (IsTornFrom old (end_of ps + 1) (length (body p ++ 0 ∷ [])))
  next_first run = subst (λ (l : List ℕ). LeavesOnly old mid (IsTornFrom old (end_of ps + 1) (length l))) next.spells
      (subst (λ (n : ℕ). LeavesOnly old mid (IsTornFrom old (n + 1) (length line))) next.place run)

  pub next_durable : (seen : List ℕ) → IsDurable Zero mid (put (end + 1) line seen) → IsDurable Zero mid (put (end_of ps + 1) (body p ++ 0 ∷ []) seen)
  next_durable seen durable = subst (λ (l : List ℕ). IsDurable Zero mid (put (end_of ps + 1) l seen)) next.spells
      (subst (λ (n : ℕ). IsDurable Zero mid (put (n + 1) line seen)) next.place durable)

  pub next_second : LeavesOnly mid new (IsTornFrom mid end 1) → LeavesOnly mid new (IsTornFrom mid (end_of ps) 1)
  next_second run = subst (λ (n : ℕ). LeavesOnly mid new (IsTornFrom mid n 1)) next.place run

  pub next_writes : ((file : List ℕ) → IsDurable Zero mid file → IsDurable Zero new (put end (1 ∷ []) file))
      → (file : List ℕ) → IsDurable Zero mid file → IsDurable Zero new (put (end_of ps) (1 ∷ []) file)
  next_writes writes = subst (λ (n : ℕ). (file : List ℕ) → IsDurable Zero mid file → IsDurable Zero new (put n (1 ∷ []) file)) next.place writes
