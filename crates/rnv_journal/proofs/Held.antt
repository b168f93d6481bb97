-- What a journal holds, and what the first prepared byte string makes of it.
use Rattle.std.proofs.Common.{◌≡◌, ◌≢◌, ◌≤◌, ◌<◌, ◌⊎◌, ◌+◌, ◌-◌, ℕ, zero, suc, Bool, false, Result, Err, IsErrOf, List, [], ◌∷◌, ◌++◌, length, get_or, take, refl, sym, ◌∙◌, ap, subst, arith, append_assoc, append-nil, length-append}
use Rattle.std.proofs.lemmas.List.Elements.{All-nil}
use Rattle.rnv_base.specs.Buffer.{Buffer}
use Rattle.rnv_disk.specs.Stops.{Past}
use Rattle.rnv_journal.specs.declared.line.Line.{Line}
use Rattle.rnv_journal.specs.File.{end_of, counted}
use Rattle.rnv_journal.specs.Found.{strings}
use Rattle.rnv_journal.specs.Held.{Held, payloads, appended, IsLine, IsHeld, IsTooLong}
use Rattle.rnv_journal.specs.declared.journal.PrepareError.{PrepareError}
use Rattle.rnv_journal.specs.declared.journal.PrepareError.TheVariants.{Full}
use Rattle.rnv_journal.specs.Readings.{ReadsOnly, IsAtRest, IsNext, IsOldOrAppended}
use Rattle.rnv_journal.proofs.Wrong.{least_end}

-- the offsets add up
pub end_append : (ps qs : List (List ℕ)) → end_of (ps ++ qs) + 13 ≡ end_of ps + end_of qs
end_append [] qs = omega arith
end_append (p ∷ ps) qs = omega (arith, end_append ps qs)

-- the end is below that of a longer list
pub end_longer : (ps qs : List (List ℕ)) → end_of ps ≤ end_of (ps ++ qs)
end_longer ps qs = omega (arith, end_append ps qs, least_end qs)

-- the length after more byte strings, from the end
pub counted_append : (ps qs : List (List ℕ)) → counted (ps ++ qs) ≡ end_of ps + (end_of qs - 13) + 1
counted_append ps qs = omega (arith, end_append ps qs, least_end qs)

pub strings_append : (xs ys : List Buffer) → strings (xs ++ ys) ≡ strings xs ++ strings ys
strings_append [] ys = refl
strings_append (x ∷ xs) ys = ap (λ (l : List (List ℕ)). x.bytes ∷ l) (strings_append xs ys)

pub end_small : (entries : List Buffer) (capacity : ℕ) (prepared : List Line) (limit end : ℕ) → IsHeld entries capacity prepared limit end → end < 4294967295
end_small entries capacity prepared limit end held =
    omega (arith, held.place, held.within, held.small, end_longer (strings entries) (payloads prepared))

-- what an append of the first prepared byte string writes
pub next_is : (entries : List Buffer) (capacity : ℕ) (line : Line) (more : List Line) (limit end : ℕ) → IsHeld entries capacity (line ∷ more) limit end
    → IsNext limit (strings entries) line.payload.bytes end line.written.bytes
next_is entries capacity line more limit end held = record {
  place = held.place;
  spells = held.lines 0 line (omega arith);
  within =
      let all : strings entries ++ (line.payload.bytes ∷ payloads more) ≡ (strings entries ++ line.payload.bytes ∷ []) ++ payloads more = sym (append_assoc (strings entries) (line.payload.bytes ∷ []) (payloads more)) in
      omega (arith, held.within, ap end_of all, end_longer (strings entries ++ line.payload.bytes ∷ []) (payloads more));
}

-- the first prepared byte string joins the entries
pub held_next : (entries : List Buffer) (capacity : ℕ) (line : Line) (more : List Line) (limit end : ℕ) → IsHeld entries capacity (line ∷ more) limit end
    → IsHeld (entries ++ line.payload ∷ []) capacity more limit (end + (5 + length line.payload.bytes))
held_next entries capacity line more limit end held =
    let longer = strings_append entries (line.payload ∷ []) in
    let all : strings entries ++ (line.payload.bytes ∷ payloads more) ≡ (strings entries ++ line.payload.bytes ∷ []) ++ payloads more = sym (append_assoc (strings entries) (line.payload.bytes ∷ []) (payloads more)) in
    record {
      place = omega (arith, held.place, ap end_of longer, end_append (strings entries) (line.payload.bytes ∷ []));
      within = subst (λ (l : List (List ℕ)). counted (l ++ payloads more) ≤ limit) (sym longer) (subst (λ (l : List (List ℕ)). counted l ≤ limit) all held.within);
      small = held.small;
      room = omega (arith, held.room, length-append entries (line.payload ∷ []));
      lines = λ k d less. held.lines (suc k) d (omega (arith, less));
    }

-- the same by the place of the first
pub first_next : (entries : List Buffer) (capacity : ℕ) (prepared : List Line) (limit end : ℕ) (first : Line) → IsHeld entries capacity prepared limit end → prepared ≢ []
    → first ≡ get_or prepared 0 first → IsNext limit (strings entries) first.payload.bytes end first.written.bytes
first_next entries capacity [] limit end first held some is = absurd (some refl)
first_next entries capacity (line ∷ more) limit end first held some is =
    subst (λ (l : Line). IsNext limit (strings entries) l.payload.bytes end l.written.bytes) (sym is) (next_is entries capacity line more limit end held)

pub first_is : (prepared : List Line) (first : Line) → prepared ≢ [] → first ≡ get_or prepared 0 first → first.payload.bytes ∷ [] ≡ take 1 (payloads prepared)
first_is [] first some is = absurd (some refl)
first_is (line ∷ more) first some is = ap (λ (l : Line). l.payload.bytes ∷ []) is

pub payloads_append : (xs ys : List Line) → payloads (xs ++ ys) ≡ payloads xs ++ payloads ys
payloads_append [] ys = refl
payloads_append (x ∷ xs) ys = ap (λ (l : List (List ℕ)). x.payload.bytes ∷ l) (payloads_append xs ys)

-- nothing is prepared
pub held_none : (entries : List Buffer) (capacity : ℕ) (prepared none : List Line) (limit end : ℕ) → IsHeld entries capacity prepared limit end → none ≡ []
    → IsHeld entries capacity none limit end
held_none entries capacity prepared none limit end held is = subst (λ (l : List Line). IsHeld entries capacity l limit end) (sym is) (record {
  place = held.place;
  within = omega (arith, held.within, ap end_of (append-nil (strings entries)), end_longer (strings entries) (payloads prepared));
  small = held.small;
  room = omega (arith, held.room);
  lines = All-nil IsLine;
})

-- each of some byte strings is shorter than a file that holds them all
pub part_short : (list : List Buffer) (k : ℕ) (d : Buffer) → k < length list → 5 + length (get_or list k d).bytes + 13 ≤ end_of (strings list)
part_short [] k d less = absurd (omega (arith, less))
part_short (b ∷ list) zero d less = omega (arith, least_end (strings list))
part_short (b ∷ list) (suc k) d less = omega (arith, part_short list k d (omega (arith, less)))

-- the refusal of what is too long
pub too_long : (held : Held) (list : List (List ℕ)) (length limit n m : ℕ) → IsTooLong held list length limit
    → (IsErrOf {T = Unit {0}} (Err (Full length limit)) (Full n m) → IsTooLong held list n m) × (IsTooLong held list n m → IsErrOf {T = Unit {0}} (Err (Full length limit)) (Full n m))
too_long held list length limit n m long = (
  λ e. let l : length ≡ n = cc in let r : limit ≡ m = cc in subst (λ (k : ℕ). IsTooLong held list k m) l (subst (λ (k : ℕ). IsTooLong held list length k) r long),
  λ other. let l : length ≡ n = long.length_is ∙ sym other.length_is in let r : limit ≡ m = long.limit_is ∙ sym other.limit_is in cc,
)

-- what is not too long is not refused so
pub not_long : (held : Held) (list : List (List ℕ)) (result : Result (Unit {0}) PrepareError) (n m : ℕ) → counted (held.entries ++ list) ≤ held.limit → (IsErrOf result (Full n m) → ⊥)
    → (IsErrOf result (Full n m) → IsTooLong held list n m) × (IsTooLong held list n m → IsErrOf result (Full n m))
not_long held list result n m within other = (λ e. absurd (other e), λ long. absurd (omega (arith, within, long.above)))

-- one append, from what the journal holds
module _ (entries : List Buffer) (capacity : ℕ) (prepared : List Line) (limit end : ℕ) (closed : Bool) (held : Held) (old new : Past) (first : Line) (line : List ℕ)
    (view : record { entries = strings entries; prepared = payloads prepared; limit = limit; closed = closed } ≡ held) (kept : IsHeld entries capacity prepared limit end)
    (some : held.prepared ≢ []) (is : first ≡ get_or prepared 0 first) (written : line ≡ first.written.bytes) (rest : held.closed ≡ false → IsAtRest held.limit old held.entries)
    (not_closed : closed ≡ false) where
  opened : held.closed ≡ false
  opened = sym (ap (λ (h : Held). h.closed) view) ∙ not_closed

  filled : prepared ≢ []
  filled none = some (sym (ap (λ (h : Held). h.prepared) view) ∙ ap payloads none)

  next : IsNext held.limit held.entries first.payload.bytes end line
  next = subst (λ (l : List ℕ). IsNext held.limit held.entries first.payload.bytes end l) (sym written)
      (subst (λ (h : Held). IsNext h.limit h.entries first.payload.bytes end first.written.bytes) view (first_next entries capacity prepared limit end first kept filled is))

  one : first.payload.bytes ∷ [] ≡ take 1 held.prepared
  one = first_is prepared first filled is ∙ ap (λ (h : Held). take 1 h.prepared) view

  pub append_reads : ((m : ℕ) (list : List (List ℕ)) (payload : List ℕ) → IsNext m list payload end line → IsAtRest m old list
      → ReadsOnly m old new (λ reading. (reading ≡ list) ⊎ (reading ≡ list ++ payload ∷ []))) → ReadsOnly held.limit old new (IsOldOrAppended held)
  append_reads reads =
      subst (λ (l : List (List ℕ)). ReadsOnly held.limit old new (λ list. (list ≡ held.entries) ⊎ (list ≡ held.entries ++ l))) one
      (reads held.limit held.entries first.payload.bytes next (rest opened))

  pub append_rests : ((m : ℕ) (list : List (List ℕ)) (payload : List ℕ) → IsNext m list payload end line → IsAtRest m old list → IsAtRest m new (list ++ payload ∷ []))
      → IsAtRest held.limit new (appended held).entries
  append_rests rests =
      subst (λ (l : List (List ℕ)). IsAtRest held.limit new (held.entries ++ l)) one (rests held.limit held.entries first.payload.bytes next (rest opened))
