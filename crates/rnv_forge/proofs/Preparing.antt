-- What is prepared in the journal of a store.
use Rattle.std.proofs.Common.{◌≡◌, ◌≤◌, ◌-◌, ◌^◌, ℕ, true, false, List, [], ◌++◌, length, min, refl, sym, ap, subst, ◌∙◌, arith, append-nil}
use Rattle.rnv_disk.specs.Stops.{Past}
use Rattle.rnv_repo.specs.declared.write.Write.{Write}
use Rattle.rnv_repo.specs.Store.{ArePermitted, IsSoundStore, after}
use Rattle.rnv_repo.specs.WellFormed.{IsOrderly, IsWellFormed}
use Rattle.rnv_repo.proofs.Sound.{sound_from_nothing}
use Rattle.rnv_journal.specs.File.{counted, end_of}
use Rattle.rnv_journal.specs.Held.{Held, IsTooLong}
use Rattle.rnv_journal.proofs.Uses.{reads_first, rest_reads}
use Rattle.rnv_journal.proofs.Held.{end_longer}
use Rattle.rnv_forge.specs.Forge.{IsOverfull, LeavesWrites, SpellSome}
use Rattle.rnv_forge.specs.Held.{HoldsWrites, IsPrepared}
use Rattle.rnv_forge.specs.Laws.{length_counted, spelled_both}
use Rattle.rnv_forge.specs.Writes.{AreWrites, IsSpelledBy, length_of, writes_in}
use Rattle.rnv_forge.proofs.Writes.{all_each, many_counted, permitted_both, permitted_front}

-- the store of a journal's entries is sound
pub sound_after : (ps : List (List ℕ)) → AreWrites ps → IsSoundStore (after (writes_in ps) [])
sound_after ps are = sound_from_nothing (writes_in ps) (all_each IsWellFormed IsOrderly (λ w fits. fits.orderly) (writes_in ps) are.spelled.well_formed) are.permitted

-- there are few entries
pub few : (ps qs : List (List ℕ)) (limit : ℕ) → counted (ps ++ qs) ≤ limit → limit ≤ 4294967295 → length ps ≤ 900000000
few ps qs limit within small = omega (arith, within, small, many_counted ps, end_longer ps qs)

-- a journal's length with writes
pub spelled_length : (ps qs : List (List ℕ)) (vs ws : List Write) → IsSpelledBy ps vs → IsSpelledBy qs ws → counted (ps ++ qs) ≡ length_of (vs ++ ws)
spelled_length ps qs vs ws a b = ap counted (spelled_both ps qs vs ws a b).spells ∙ length_counted (vs ++ ws)

pub is_overfull : (held : Held) (ps : List (List ℕ)) (ws : List Write) (n most : ℕ) → AreWrites held.entries → IsSpelledBy ps ws → ArePermitted ws (after (writes_in held.entries) [])
    → IsTooLong held ps n most → IsOverfull (writes_in held.entries) ws held.limit n most
is_overfull held ps ws n most are spelled permitted long =
    let same = spelled_length held.entries ps (writes_in held.entries) ws are.spelled spelled in
    record {
      permitted = permitted;
      above = omega (arith, long.above, same);
      length_is = long.length_is ∙ ap (λ (k : ℕ). min k (2 ^ 64 - 1)) same;
      limit_is = long.limit_is;
    }

module _ (held : Held) (past : Past) (h : HoldsWrites held past) where
  pub held_are : AreWrites held.entries
  held_are = record { spelled = h.entries; permitted = permitted_front (writes_in held.entries) (writes_in held.prepared) [] h.permitted }

  -- nothing is prepared
  pub held_cleared : HoldsWrites (record held { prepared = [] }) past
  held_cleared = record {
    entries = h.entries;
    prepared = record { spells = refl; well_formed = tt };
    permitted = permitted_both (writes_in held.entries) [] [] held_are.permitted tt;
    within = omega (arith, h.within, ap end_of (append-nil held.entries), end_longer held.entries held.prepared);
    small = h.small;
    rests = h.rests;
  }

  pub held_prepared : (ws : List Write) (new : Held) → IsPrepared held ws new → HoldsWrites new past
  held_prepared ws new p = subst (λ (n : Held). HoldsWrites n past) (sym p.is) (record {
    entries = h.entries;
    prepared = subst (λ (l : List Write). IsSpelledBy p.payloads l) (sym p.read) p.spelled;
    permitted = subst (λ (l : List Write). ArePermitted (writes_in held.entries ++ l) []) (sym p.read) (permitted_both (writes_in held.entries) ws [] held_are.permitted p.permitted);
    within = p.within;
    small = h.small;
    rests = h.rests;
  })

  -- a fault has closed the journal
  pub held_closed : (new : Past) → HoldsWrites (record held { closed = true }) new
  held_closed new = record { entries = h.entries; prepared = h.prepared; permitted = h.permitted; within = h.within; small = h.small; rests = λ open'. absurd cc }

  pub held_stays : held.closed ≡ false → LeavesWrites held.limit past past (λ ws. ws ≡ writes_in held.entries)
  held_stays open' =
      let here : SpellSome (λ ws. ws ≡ writes_in held.entries) held.entries = record { writes = writes_in held.entries; spelled = h.entries; each = refl } in
      reads_first held.limit past (SpellSome (λ ws. ws ≡ writes_in held.entries)) (rest_reads held.limit past held.entries (SpellSome (λ ws. ws ≡ writes_in held.entries)) (h.rests open') here)

  pub prepared_within : (ws : List Write) (new : Held) → IsPrepared held ws new → length_of (writes_in held.entries ++ ws) ≤ held.limit
  prepared_within ws new p = omega (arith, p.within, spelled_length held.entries p.payloads (writes_in held.entries) ws h.entries p.spelled)

-- the length does not depend on what was prepared
pub too_long_of : (held new : Held) (ps qs : List (List ℕ)) (n most : ℕ) → new ≡ record held { prepared = qs } → IsTooLong new ps n most → IsTooLong held ps n most
too_long_of held new ps qs n most is long =
    let then : IsTooLong (record held { prepared = qs }) ps n most = subst (λ (h : Held). IsTooLong h ps n most) is long in
    record { not_closed = then.not_closed; above = then.above; length_is = then.length_is; limit_is = then.limit_is }

pub permitted_of : (held new : Held) (qs : List (List ℕ)) (ws : List Write) → new ≡ record held { prepared = qs } → ArePermitted ws (after (writes_in new.entries) []) → ArePermitted ws (after (writes_in held.entries) [])
permitted_of held new qs ws is permitted = subst (λ (h : Held). ArePermitted ws (after (writes_in h.entries) [])) is permitted
