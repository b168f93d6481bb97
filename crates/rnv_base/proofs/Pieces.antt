-- What `all` answers over the pieces of a text.
use Rattle.std.proofs.Common.{ℕ, ◌<◌, List, [], length, IsTrue, Bool, true, false, ◌↔◌, All, refl}
use Rattle.std.specs.Bool.{MatchBool}
use Rattle.std.specs.List.{AllWithin, HoldsAt}
use Rattle.std.proofs.lemmas.List.Elements.{All-from_all_within}

pub every_piece : (P : List ℕ → Type 0) (r : Bool) (pieces : List (List ℕ)) → MatchBool r (AllWithin P pieces 0 (length pieces)) ((k : ℕ) × (k < length pieces) × HoldsAt (λ piece. ¬ P piece) pieces k) → IsTrue r ↔ All P pieces
every_piece P true pieces every = (λ t. All-from_all_within P pieces every, λ all. refl)
every_piece P false pieces (k, within, not) = (λ t. absurd (cc t), λ all. absurd (not [] (all k [] within)))
