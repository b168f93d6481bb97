use Rattle.std.proofs.Common.{◌≡◌, ◌≤◌, ℕ, List, length, drop}
use Rattle.std.specs.List.{find}
use Rattle.std.specs.BTreeMap.{get_by_text}
use Rattle.rnv_cargo.specs.Named.{has_key}
use Rattle.rnv_cargo.proofs.finding.index.Given as goal

abbrev pub invariant-loop-at : goal.invariant-loop-at
invariant-loop-at l = record {
  within : l.at ≤ length l.spots;
  told : (key : List ℕ) → get_by_text l.index key ≡ find (has_key key) (drop l.at l.spots);
}

abbrev pub decreases-loop-at : goal.decreases-loop-at
decreases-loop-at l = l.at
