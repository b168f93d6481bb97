-- The laws of a store's journal.
use Rattle.std.proofs.Common.{◌≡◌, ◌+◌, ◌*◌, ◌≤◌, ◌<◌, ℕ, false, List, [], ◌∷◌, ◌++◌, length, map, refl, sym, ◌∙◌, ap, subst, arith}
use Rattle.std.specs.List.{AllByRecursion}
use Rattle.std.proofs.lemmas.List.{map-append}
use Rattle.rnv_disk.specs.Stops.{Past}
use Rattle.rnv_repo.specs.declared.request.Request.{Request}
use Rattle.rnv_repo.specs.declared.repo.Repo.{Repo}
use Rattle.rnv_repo.specs.declared.write.Write.{Write}
use Rattle.rnv_repo.specs.Bounded.{IsBounded}
use Rattle.rnv_repo.specs.Store.{ArePermitted, IsSoundStore, after, applied}
use Rattle.rnv_repo.specs.WellFormed.{IsOrderly, IsWellFormed}
use Rattle.rnv_repo.proofs.Bounds.{IsWithin, within_after}
use Rattle.rnv_repo.proofs.Sound.{sound_from_nothing}
use Rattle.rnv_repo.proofs.Texts.{all_weaker}
use Rattle.rnv_journal.specs.File.{counted}
use Rattle.rnv_journal.specs.Held.{Held}
use Rattle.rnv_journal.specs.Readings.{IsAtRest}
use Rattle.rnv_spelling.specs.Spelling.{spelling}
use Rattle.rnv_forge.specs.Held.{HoldsWrites}
use Rattle.rnv_forge.specs.Writes.{IsSpelledBy, writes_in, length_of}

pub all_both : {X : Type 0} (P : X → Type 0) (xs ys : List X) → AllByRecursion P xs → AllByRecursion P ys → AllByRecursion P (xs ++ ys)
all_both P [] ys a b = b
all_both P (x ∷ xs) ys a b = (a.0, all_both P xs ys a.1 b)

pub spelled_both : (ps qs : List (List ℕ)) (vs ws : List Write) → IsSpelledBy ps vs → IsSpelledBy qs ws → IsSpelledBy (ps ++ qs) (vs ++ ws)
spelled_both ps qs vs ws a b = record {
  spells = ap (λ (l : List (List ℕ)). l ++ qs) a.spells ∙ ap (λ (l : List (List ℕ)). map spelling vs ++ l) b.spells ∙ sym (map-append spelling vs ws);
  well_formed = all_both IsWellFormed vs ws a.well_formed b.well_formed;
}

-- the journal counts the length of the writes
pub length_counted : (ws : List Write) → counted (map spelling ws) ≡ length_of ws
length_counted [] = refl
length_counted (w ∷ ws) = omega (arith, length_counted ws)

counted_longer : (ps qs : List (List ℕ)) → counted ps ≤ counted (ps ++ qs)
counted_longer [] [] = omega arith
counted_longer [] (q ∷ qs) = omega (arith, counted_longer [] qs)
counted_longer (p ∷ ps) qs = omega (arith, counted_longer ps qs)

-- what holds of the writes that stand, and of the store that they make

all_standing : {X : Type 0} (P : X → Type 0) (xs ys : List X) → AllByRecursion P (xs ++ ys) → AllByRecursion P xs
all_standing P [] ys a = tt
all_standing P (x ∷ xs) ys a = (a.0, all_standing P xs ys a.1)

permitted_standing : (vs ws : List Write) (store : List Repo) → ArePermitted (vs ++ ws) store → ArePermitted vs store
permitted_standing [] ws store p = tt
permitted_standing (v ∷ vs) ws store p = (p.0, permitted_standing vs ws (applied v store) p.1)

few_standing : (vs ws : List Write) → 5 * length vs + 14 ≤ length_of (vs ++ ws)
few_standing [] [] = omega arith
few_standing [] (w ∷ ws) = omega (arith, few_standing [] ws)
few_standing (v ∷ vs) ws = omega (arith, few_standing vs ws)

pub store_sound : (ws prepared : List Write) → AllByRecursion IsWellFormed (ws ++ prepared) → ArePermitted (ws ++ prepared) [] → IsSoundStore (after ws [])
store_sound ws prepared fits permitted =
    sound_from_nothing ws (all_weaker IsWellFormed IsOrderly (λ w h. h.orderly) ws (all_standing IsWellFormed ws prepared fits)) (permitted_standing ws prepared [] permitted)

pub store_bounded : (ws prepared : List Write) (limit : ℕ) → ArePermitted (ws ++ prepared) [] → length_of (ws ++ prepared) ≤ limit → limit ≤ 4294967295 → AllByRecursion IsBounded (after ws [])
store_bounded ws prepared limit permitted within small = all_weaker (IsWithin (length ws)) IsBounded each (after ws []) (within_after ws (permitted_standing ws prepared [] permitted))
  where
    few : length ws ≤ 900000000
    few = omega (arith, few_standing ws prepared, within, small)

    each : (r : Repo) → IsWithin (length ws) r → IsBounded r
    each r h = record {
      revision = omega (arith, h.revision, few);
      numbers = all_weaker (λ (q : Request). q.number ≤ length ws) (λ (q : Request). q.number < 2147483648) (λ q le. omega (arith, le, few)) r.requests h.numbers;
    }

module _ (held : Held) (past : Past) (h : HoldsWrites held past) where
  pub held_well_formed : AllByRecursion IsWellFormed (writes_in held.entries ++ writes_in held.prepared)
  held_well_formed = all_both IsWellFormed (writes_in held.entries) (writes_in held.prepared) h.entries.well_formed h.prepared.well_formed

  pub held_within : length_of (writes_in held.entries ++ writes_in held.prepared) ≤ held.limit
  held_within =
      let all = spelled_both held.entries held.prepared (writes_in held.entries) (writes_in held.prepared) h.entries h.prepared in
      omega (arith, h.within, ap counted all.spells, length_counted (writes_in held.entries ++ writes_in held.prepared))

  pub held_length : counted held.entries ≡ length_of (writes_in held.entries)
  held_length = ap counted h.entries.spells ∙ length_counted (writes_in held.entries)

  pub held_no_longer : counted held.entries ≤ held.limit
  held_no_longer = omega (arith, counted_longer held.entries held.prepared, h.within)

  pub held_at_rest : held.closed ≡ false → IsAtRest held.limit past (map spelling (writes_in held.entries))
  held_at_rest open' = subst (λ (l : List (List ℕ)). IsAtRest held.limit past l) h.entries.spells (h.rests open')
