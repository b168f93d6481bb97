use Rattle.std.proofs.Common.{◌≡◌, ◌++◌, ◌∷◌, ◌∙◌, [], List, ℕ, length, refl, ap, rules}
use Rattle.std.specs.Int.{w32, to_be_bytes}
use Rattle.rnv_journal.proofs.Numbers.{be_four}
use Rattle.rnv_journal.proofs.line.written_line.Goals as goal

pub returns : goal.returns
returns c =
    let payload : List ℕ = c.args.payload.bytes in
    let all : c.new.result.bytes ≡ (to_be_bytes w32 (length payload) ++ payload) ++ 0 ∷ [] = search rules in
    (refl, all ∙ ap (λ (l : List ℕ). (l ++ payload) ++ 0 ∷ []) (be_four (length payload) c.requires))
