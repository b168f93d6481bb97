-- What a forge holds that has no disk.
use Rattle.std.specs.Prelude.{◌≤◌, ℕ, List, [], ◌++◌, length, take, drop}
use Rattle.std.proofs.Common.{◌∷◌, arith, subst, sym}
use Rattle.std.specs.List.{AllByRecursion}
use Rattle.std.proofs.lemmas.List.{take-append-drop}
use Rattle.rnv_disk.specs.Stops.{Past}
use Rattle.rnv_repo.specs.declared.write.Write.{Write}
use Rattle.rnv_repo.specs.Store.{ArePermitted}
use Rattle.rnv_repo.specs.WellFormed.{IsWellFormed}
use Rattle.rnv_journal.specs.Readings.{IsAtRest}
use Rattle.rnv_forge.specs.Writes.{length_of}

-- the writes, of which the first so many stand, are permitted in their turn and within the limit
pub record HoldsInMemory (all : List Write) (done limit : ℕ) : Type 0 where
  pub well_formed : AllByRecursion IsWellFormed all
  pub permitted : ArePermitted all []
  pub within : length_of all ≤ limit
  pub small : limit ≤ 4294967295
  pub standing : done ≤ length all

-- without a disk a stop leaves no image
abbrev pub no_past : Past
no_past = record { moment = 0; left = λ t c. ⊥; earlier = λ t u c le none. none }

-- writes that stand are no longer than they and those behind them
length_standing : (vs ws : List Write) → length_of vs ≤ length_of (vs ++ ws)
length_standing [] [] = omega arith
length_standing [] (w ∷ ws) = omega (arith, length_standing [] ws)
length_standing (v ∷ vs) ws = omega (arith, length_standing vs ws)

-- the laws of a forge of which no stop leaves an image

pub nothing_at_rest : (limit : ℕ) (list : List (List ℕ)) → IsAtRest limit no_past list
nothing_at_rest limit list = record { settled = λ c none. absurd none; made = λ c none. absurd none }

module _ (all : List Write) (done limit : ℕ) (h : HoldsInMemory all done limit) where
  pub in_memory_well_formed : AllByRecursion IsWellFormed (take done all ++ drop done all)
  in_memory_well_formed = subst (λ (l : List Write). AllByRecursion IsWellFormed l) (sym (take-append-drop done all)) h.well_formed

  pub in_memory_permitted : ArePermitted (take done all ++ drop done all) []
  in_memory_permitted = subst (λ (l : List Write). ArePermitted l []) (sym (take-append-drop done all)) h.permitted

  pub in_memory_within : length_of (take done all ++ drop done all) ≤ limit
  in_memory_within = subst (λ (l : List Write). length_of l ≤ limit) (sym (take-append-drop done all)) h.within

  pub in_memory_length : length_of (take done all) ≤ limit
  in_memory_length = omega (arith, length_standing (take done all) (drop done all), in_memory_within)
