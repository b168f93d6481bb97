-- What the journal is read as at any moment of a write that is synced.
use Rattle.std.proofs.Common.{◌≡◌, ◌≢◌, ◌≤◌, ◌⊎◌, inl, inr, ℕ, ◌+◌, List, [], ◌∷◌, ◌++◌, length, drop, refl, sym, ap, subst, arith}
use Rattle.rnv_disk.specs.declared.device.FileNo.TheVariants.{Zero}
use Rattle.rnv_disk.specs.Images.{Image, put, Torn}
use Rattle.rnv_disk.specs.Stops.{Past, LeftNow, IsDurable, LeavesOnly}
use Rattle.rnv_disk.proofs.Moments.{widened}
use Rattle.rnv_journal.specs.File.{body, made, spelled, end_of, counted, IsImage, IsBegun, IsInMaking}
use Rattle.rnv_journal.specs.FileReading.{IsTorn, EachFileReading}
use Rattle.rnv_journal.specs.Reading.{EachReading}
use Rattle.rnv_journal.specs.Readings.{EachReadingNow, ReadsOnly, IsAtRest, IsOneImage, IsTornFrom}
use Rattle.rnv_journal.proofs.Founds.{end_push}
use Rattle.rnv_journal.proofs.Wrong.{image_made}
use Rattle.rnv_journal.proofs.Each.{spelled_push, making_each, closed_each, gate_each, closed_of}
use Rattle.rnv_journal.proofs.Changed.{made_whole, length_spelled, put_gate, torn_gate, torn_behind, torn_first, torn_short, torn_rest}

-- where each stop leaves one file, a torn write of it
from_one : (past : Past) (file : List ℕ) (at n : ℕ) (c : Image) → IsDurable Zero past file → IsTornFrom past at n c → Torn at n file c.zero
from_one past file at n c durable from = subst (λ (f : List ℕ). Torn at n f c.zero) (durable from.image from.left) from.torn.here

module _ (limit : ℕ) (ps : List (List ℕ)) (old new : Past) where
  -- at rest, a write behind the gate at the end
  pub behind_reads : (n : ℕ) → IsAtRest limit old ps → LeavesOnly old new (IsTornFrom old (end_of ps + 1) n) → ReadsOnly limit old new (λ list. list ≡ ps)
  behind_reads n rest run = widened old new (IsTornFrom old (end_of ps + 1) n) (λ c. EachReading limit (λ list. list ≡ ps) c) each run
    where
      each : (c : Image) → IsTornFrom old (end_of ps + 1) n c → EachReading limit (λ list. list ≡ ps) c
      each c from =
          let was = closed_of limit from.image.zero ps (rest.settled from.image from.left) (rest.made from.image from.left) in
          let torn = subst (λ (f : List ℕ). Torn (end_of ps + 1) n f c.zero) was.1.spells from.torn.here in
          let is = torn_behind ps 0 n was.0 c.zero torn in
          closed_each limit (λ list. list ≡ ps) c.zero ps is.0 (record { spells = is.1; ends = was.1.ends; within = was.1.within }) refl

  -- a write of 1 into the gate at the end, in front of an entry and a gate 0
  pub opening_reads : (p r : List ℕ) → IsDurable Zero old (spelled ps 0 (body p ++ 0 ∷ r)) → counted (ps ++ p ∷ []) ≤ limit
      → LeavesOnly old new (IsTornFrom old (end_of ps) 1) → ReadsOnly limit old new (λ list. (list ≡ ps) ⊎ (list ≡ ps ++ p ∷ []))
  opening_reads p r durable within run = widened old new (IsTornFrom old (end_of ps) 1) (λ c. EachReading limit P c) each run
    where
      P : List (List ℕ) → Type 0
      P list = (list ≡ ps) ⊎ (list ≡ ps ++ p ∷ [])

      opens : IsImage limit (spelled ps 1 (body p ++ 0 ∷ r)) (ps ++ p ∷ []) 0 r
      opens = record { spells = spelled_push ps p 0 r; ends = λ e. cc; within = within }

      each : (c : Image) → IsTornFrom old (end_of ps) 1 c → EachReading limit P c
      each c from =
          let is = torn_gate ps 0 (body p ++ 0 ∷ r) c.zero (from_one old _ (end_of ps) 1 c durable from) in
          subst (λ (f : List ℕ). EachFileReading limit P f) (sym is.1)
          (gate_each limit ps (ps ++ p ∷ []) (body p ++ 0 ∷ r) r opens P is.0 (omega (arith, within, end_push ps p)) (inl refl) (inr refl))

  -- a write of 0 into a torn gate at the end
  pub closing_reads : (P : List (List ℕ) → Type 0) (g : ℕ) (r : List ℕ) → IsImage limit (spelled ps g r) ps g r → g ≢ 0 → IsDurable Zero old (spelled ps g r)
      → EachReadingNow limit P old → LeavesOnly old new (IsTornFrom old (end_of ps) 1) → ReadsOnly limit old new P
  closing_reads P g r image torn durable before run = widened old new (IsTornFrom old (end_of ps) 1) (λ c. EachReading limit P c) each run
    where
      each : (c : Image) → IsTornFrom old (end_of ps) 1 c → EachReading limit P c
      each c from =
          let is = torn_gate ps g r c.zero (from_one old _ (end_of ps) 1 c durable from) in
          let was = subst (λ (f : List ℕ). EachFileReading limit P f) (durable from.image from.left) (before from.image from.left) in
          let tear : IsTorn limit (spelled ps g r) (spelled ps 1 r) = record { payloads = ps; gate = g; rest = r; image = image; torn = torn; is_opened = refl } in
          let closed = was.some.opened (spelled ps 1 r) tear in
          let here : P ps = was.each ps (inl (inr (record { gate = g; rest = r; image = image }))) in
          let there : P closed.payloads = was.each closed.payloads (inr (spelled ps 1 r, tear, inr (record { gate = 0; rest = closed.rest; image = closed.image }))) in
          subst (λ (f : List ℕ). EachFileReading limit P f) (sym is.1) (gate_each limit ps closed.payloads r closed.rest closed.image P is.0 image.within here there)

-- each stop leaves one file, whose gate at the end is 0
pub one_file : (limit : ℕ) (past : Past) (file : List ℕ) (ps : List (List ℕ)) (r : List ℕ) → IsDurable Zero past file → IsImage limit file ps 0 r → IsAtRest limit past ps
one_file limit past file ps r durable image = record {
  settled = λ c left. subst (λ (f : List ℕ). EachFileReading limit (λ list. list ≡ ps) f) (sym (durable c left)) (closed_each limit (λ list. list ≡ ps) file ps r image refl);
  made = λ c left making. image_made limit file ps 0 r image (subst IsInMaking (durable c left) making);
}

-- a file in making, or without entries
module _ (limit : ℕ) (enough : 14 ≤ limit) (P : List (List ℕ) → Type 0) (old new : Past) (file : List ℕ) (durable : IsDurable Zero old file) (making : IsInMaking file)
    (before : EachReadingNow limit P old) where
  empty : (c : Image) → LeftNow old c → P []
  empty c left = (before c left).each [] (inl (inl (subst IsInMaking (sym (durable c left)) making, refl)))

  either : (c : Image) → P [] → IsInMaking c.zero ⊎ (c.zero ≡ spelled [] 0 []) → EachReading limit P c
  either c here (inl is) = making_each limit P c.zero is here
  either c here (inr is) = closed_each limit P c.zero [] [] (record { spells = is; ends = λ e. cc; within = enough }) here

  making_reads : (at n : ℕ) → ((c : Image) → Torn at n file c.zero → IsInMaking c.zero ⊎ (c.zero ≡ spelled [] 0 []))
      → LeavesOnly old new (IsTornFrom old at n) → ReadsOnly limit old new P
  making_reads at n torn run = widened old new (IsTornFrom old at n) (λ c. EachReading limit P c)
      (λ c from. either c (empty from.image from.left) (torn c (from_one old file at n c durable from))) run

  -- the first byte, where the file is not begun
  pub beginning_reads : (IsBegun file → ⊥) → LeavesOnly old new (IsTornFrom old 0 1) → ReadsOnly limit old new P
  beginning_reads other = making_reads 0 1 (λ c torn. first c torn making)
    where
      first : (c : Image) → Torn 0 1 file c.zero → IsInMaking file → IsInMaking c.zero ⊎ (c.zero ≡ spelled [] 0 [])
      first c torn (inl short) = inl (torn_short file c.zero short torn)
      first c torn (inr (inl begun)) = absurd (other begun)
      first c torn (inr (inr all)) = torn_first file c.zero all.rest torn

  -- what stands behind the first byte
  pub filling_reads : IsBegun file → LeavesOnly old new (IsTornFrom old 1 13) → ReadsOnly limit old new P
  filling_reads begun = making_reads 1 13 (λ c torn. inl (inr (inl (torn_rest file c.zero begun torn))))

  -- the first byte, where the rest is made
  pub finishing_reads : drop 1 file ≡ made → LeavesOnly old new (IsTornFrom old 0 1) → ReadsOnly limit old new P
  finishing_reads rest = making_reads 0 1 (λ c torn. torn_first file c.zero rest torn)

-- a gate at the end that is closed
pub closed_rests : (limit : ℕ) (past : Past) (ps : List (List ℕ)) → IsOneImage limit past ps 0 → IsAtRest limit past ps
closed_rests limit past ps one = one_file limit past (spelled ps 0 one.rest) ps one.rest one.durable one.image

pub written_rests : (limit : ℕ) (old new : Past) (ps : List (List ℕ)) (g : ℕ) → IsOneImage limit old ps g
    → ((file : List ℕ) → IsDurable Zero old file → IsDurable Zero new (put (end_of ps) (0 ∷ []) file)) → IsAtRest limit new ps
written_rests limit old new ps g one writes =
    let durable = subst (λ (f : List ℕ). IsDurable Zero new f) (put_gate ps g 0 one.rest) (writes (spelled ps g one.rest) one.durable) in
    one_file limit new (spelled ps 0 one.rest) ps one.rest durable (record { spells = refl; ends = λ e. cc; within = one.image.within })

-- a file without entries
pub made_rests : (limit : ℕ) (past : Past) → 14 ≤ limit → IsDurable Zero past (1 ∷ made) → IsAtRest limit past []
made_rests limit past enough durable = one_file limit past (1 ∷ made) [] [] durable (record { spells = made_whole; ends = λ e. cc; within = enough })

-- where each stop leaves one file, which is an image
pub one_of : (limit : ℕ) (past : Past) (file : List ℕ) (ps : List (List ℕ)) (g : ℕ) (r : List ℕ) → IsDurable Zero past file → IsImage limit file ps g r → IsOneImage limit past ps g
one_of limit past file ps g r durable image = record {
  rest = r;
  image = record { spells = refl; ends = image.ends; within = image.within };
  durable = subst (λ (f : List ℕ). IsDurable Zero past f) image.spells durable;
}

pub end_within : (limit : ℕ) (file : List ℕ) (ps : List (List ℕ)) (g : ℕ) (r : List ℕ) → IsImage limit file ps g r → end_of ps ≤ length file
end_within limit file ps g r image = omega (arith, ap length image.spells, length_spelled ps g r)
