use Rattle.std.proofs.Common.{◌≤◌, ◌+◌, ◌-◌, ◌∙◌, ◌∷◌, ℕ, List, length, take, drop, sym, ap, arith, length-drop}
use Rattle.std.proofs.lemmas.List.{take_all}
use Rattle.rnv_release.specs.Lines.{lines}
use Rattle.rnv_release.proofs.Feeds.{feed-at, no-feed}
use Rattle.rnv_release.proofs.lines.next_line.Goals as goal

pub returns-in-Some-clause-lines : goal.returns-in-Some-clause-lines
returns-in-Some-clause-lines c =
    let bytes : List ℕ = c.args.bytes.now in
    let at = c.in-Some.at in
    let found = feed-at bytes at (sym c.in-Some.ensures) in
    let rest : List ℕ = drop (at + 1) bytes in
    let within : length rest ≤ length bytes - (at + 1) = omega (arith, length-drop (at + 1) bytes) in
    found.1 ∙ ap (λ (r : List ℕ). take at bytes ∷ lines r) (sym (take_all (length bytes - (at + 1)) rest within))

pub returns-in-None-clause-lines : goal.returns-in-None-clause-lines
returns-in-None-clause-lines c = no-feed c.args.bytes.now (sym c.in-None.ensures)
