-- The first of some byte strings that spell writes, and the others.
use Rattle.std.proofs.Common.{◌≡◌, ◌≤◌, ◌+◌, ℕ, List, [], ◌∷◌, ◌++◌, length, map, take, drop, Option, Some, None, inl, inr, refl, sym, ◌∙◌, ap, subst, arith, append_assoc}
use Rattle.std.specs.List.{AllByRecursion, cons_option}
use Rattle.std.proofs.lemmas.List.{take-append-drop}
use Rattle.rnv_disk.specs.Stops.{Past}
use Rattle.rnv_repo.specs.declared.write.Write.{Write}
use Rattle.rnv_repo.specs.Store.{ArePermitted}
use Rattle.rnv_repo.specs.WellFormed.{IsWellFormed}
use Rattle.rnv_journal.specs.File.{counted}
use Rattle.rnv_journal.specs.Held.{Held, appended}
use Rattle.rnv_journal.specs.Readings.{IsAtRest, IsOldOrAppended, ReadsOnly}
use Rattle.rnv_journal.proofs.Uses.{reads_weaker}
use Rattle.rnv_spelling.specs.Reading.{whole_write}
use Rattle.rnv_spelling.specs.Spelling.{spelling}
use Rattle.rnv_forge.specs.Forge.{IsOldOrNext, LeavesWrites, SpellSome}
use Rattle.rnv_forge.specs.Held.{HoldsWrites}
use Rattle.rnv_forge.specs.Laws.{spelled_both}
use Rattle.rnv_forge.specs.Writes.{IsSpelledBy, entry_length, writes_in}
use Rattle.rnv_forge.proofs.Writes.{writes_append}

-- no more writes are read than there are byte strings
no_more : (ps : List (List ℕ)) → length (writes_in ps) ≤ length ps
no_more [] = omega arith
no_more (p ∷ ps) = elim (whole_write p) as (λ (o : Option Write). length (cons_option o (writes_in ps)) ≤ length (p ∷ ps)) [ Some w ↦ omega (arith, no_more ps) | None ↦ omega (arith, no_more ps) ]

pub length_map : (ws : List Write) → length (map spelling ws) ≡ length ws
length_map [] = refl
length_map (w ∷ ws) = omega (arith, length_map ws)

pub take_none : {X : Type 0} (xs : List X) → take 0 xs ≡ []
take_none [] = refl
take_none (x ∷ xs) = refl

pub drop_none : {X : Type 0} (xs : List X) → drop 0 xs ≡ xs
drop_none [] = refl
drop_none (x ∷ xs) = refl

-- one byte string more
longer_by : (es : List (List ℕ)) (p : List ℕ) → counted (es ++ p ∷ []) ≡ counted es + (5 + length p)
longer_by [] p = omega arith
longer_by (e ∷ es) p = omega (arith, longer_by es p)

-- the next write makes the journal longer by its entry
pub next_longer : (held : Held) (past : Past) → HoldsWrites held past → (w : Write) (ws : List Write) → writes_in held.prepared ≡ w ∷ ws
    → counted (appended held).entries ≡ counted held.entries + entry_length w
next_longer held past h w ws is =
    let all : held.prepared ≡ spelling w ∷ map spelling ws = h.prepared.spells ∙ ap (λ (l : List Write). map spelling l) is in
    let first : take 1 held.prepared ≡ spelling w ∷ [] = ap (λ (l : List (List ℕ)). take 1 l) all ∙ ap (λ (l : List (List ℕ)). spelling w ∷ l) (take_none (map spelling ws)) in
    ap (λ (l : List (List ℕ)). counted (held.entries ++ l)) first ∙ longer_by held.entries (spelling w)

-- the first and the others
pub record Splits (ps : List (List ℕ)) : Type 0 where
  pub first : IsSpelledBy (take 1 ps) (take 1 (writes_in ps))
  pub first_read : writes_in (take 1 ps) ≡ take 1 (writes_in ps)
  pub others : IsSpelledBy (drop 1 ps) (drop 1 (writes_in ps))
  pub others_read : writes_in (drop 1 ps) ≡ drop 1 (writes_in ps)

split_by : (p : List ℕ) (ps : List (List ℕ)) (o : Option Write) → whole_write p ≡ o → IsSpelledBy (p ∷ ps) (cons_option o (writes_in ps)) → Splits (p ∷ ps)
split_by p ps (Some w) read s =
    let one : take 1 (p ∷ ps) ≡ p ∷ [] = ap (λ (l : List (List ℕ)). p ∷ l) (take_none ps) in
    let rest : drop 1 (p ∷ ps) ≡ ps = drop_none ps in
    let all : writes_in (p ∷ ps) ≡ w ∷ writes_in ps = ap (λ (o : Option Write). cons_option o (writes_in ps)) read in
    let one_read : writes_in (p ∷ []) ≡ w ∷ [] = ap (λ (o : Option Write). cons_option o []) read in
    let first : take 1 (writes_in (p ∷ ps)) ≡ w ∷ [] = ap (λ (l : List Write). take 1 l) all ∙ ap (λ (l : List Write). w ∷ l) (take_none (writes_in ps)) in
    let others : drop 1 (writes_in (p ∷ ps)) ≡ writes_in ps = ap (λ (l : List Write). drop 1 l) all ∙ drop_none (writes_in ps) in
    record {
      first = record {
        spells = one ∙ ap (λ (q : List ℕ). q ∷ []) (let e = s.spells in let k : p ≡ spelling w = cc in k) ∙ ap (λ (l : List Write). map spelling l) (sym first);
        well_formed = subst (λ (l : List Write). AllByRecursion IsWellFormed l) (sym first) (s.well_formed.0, tt);
      };
      first_read = ap writes_in one ∙ one_read ∙ sym first;
      others = record {
        spells = rest ∙ (let e = s.spells in let k : ps ≡ map spelling (writes_in ps) = cc in k) ∙ ap (λ (l : List Write). map spelling l) (sym others);
        well_formed = subst (λ (l : List Write). AllByRecursion IsWellFormed l) (sym others) s.well_formed.1;
      };
      others_read = ap writes_in rest ∙ sym others;
    }
split_by p ps None read s = absurd (omega (arith, ap length s.spells, length_map (writes_in ps), no_more ps))

pub split : (ps : List (List ℕ)) → IsSpelledBy ps (writes_in ps) → Splits ps
split [] s = record { first = s; first_read = refl; others = s; others_read = refl }
split (p ∷ ps) s = split_by p ps (whole_write p) refl s

module _ (held : Held) (past : Past) (h : HoldsWrites held past) where
  parts : Splits held.prepared
  parts = split held.prepared h.prepared

  next_entries : IsSpelledBy (held.entries ++ take 1 held.prepared) (writes_in held.entries ++ take 1 (writes_in held.prepared))
  next_entries = spelled_both held.entries (take 1 held.prepared) (writes_in held.entries) (take 1 (writes_in held.prepared)) h.entries parts.first

  pub next_writes : writes_in (held.entries ++ take 1 held.prepared) ≡ writes_in held.entries ++ take 1 (writes_in held.prepared)
  next_writes = writes_append held.entries (take 1 held.prepared) ∙ ap (λ (l : List Write). writes_in held.entries ++ l) parts.first_read

  pub next_prepared : writes_in (drop 1 held.prepared) ≡ drop 1 (writes_in held.prepared)
  next_prepared = parts.others_read

  pub next_reads : (new : Past) → ReadsOnly held.limit past new (IsOldOrAppended held) → LeavesWrites held.limit past new (IsOldOrNext (writes_in held.entries) (writes_in held.prepared))
  next_reads new run = reads_weaker held.limit past new (IsOldOrAppended held) (SpellSome (IsOldOrNext (writes_in held.entries) (writes_in held.prepared))) each run
    where
      each : (list : List (List ℕ)) → IsOldOrAppended held list → SpellSome (IsOldOrNext (writes_in held.entries) (writes_in held.prepared)) list
      each list (inl is) = record { writes = writes_in held.entries; spelled = subst (λ (l : List (List ℕ)). IsSpelledBy l (writes_in held.entries)) (sym is) h.entries; each = inl refl }
      each list (inr is) = record {
        writes = writes_in held.entries ++ take 1 (writes_in held.prepared);
        spelled = subst (λ (l : List (List ℕ)). IsSpelledBy l (writes_in held.entries ++ take 1 (writes_in held.prepared))) (sym is) next_entries;
        each = inr refl;
      }

  -- all of them are those from before
  pub next_whole : writes_in (held.entries ++ take 1 held.prepared) ++ writes_in (drop 1 held.prepared) ≡ writes_in held.entries ++ writes_in held.prepared
  next_whole =
      ap (λ (l : List Write). l ++ writes_in (drop 1 held.prepared)) next_writes
      ∙ ap (λ (l : List Write). (writes_in held.entries ++ take 1 (writes_in held.prepared)) ++ l) next_prepared
      ∙ append_assoc (writes_in held.entries) (take 1 (writes_in held.prepared)) (drop 1 (writes_in held.prepared))
      ∙ ap (λ (l : List Write). writes_in held.entries ++ l) (take-append-drop 1 (writes_in held.prepared))

  pub next_holds : (new : Past) → IsAtRest held.limit new (held.entries ++ take 1 held.prepared) → HoldsWrites (appended held) new
  next_holds new rest = record {
    entries = subst (λ (l : List Write). IsSpelledBy (held.entries ++ take 1 held.prepared) l) (sym next_writes) next_entries;
    prepared = subst (λ (l : List Write). IsSpelledBy (drop 1 held.prepared) l) (sym next_prepared) parts.others;
    permitted = subst (λ (l : List Write). ArePermitted l []) (sym next_whole) h.permitted;
    within = subst (λ (l : List (List ℕ)). counted l ≤ held.limit) (sym (append_assoc held.entries (take 1 held.prepared) (drop 1 held.prepared) ∙ ap (λ (l : List (List ℕ)). held.entries ++ l) (take-append-drop 1 held.prepared))) h.within;
    small = h.small;
    rests = λ open'. rest;
  }
