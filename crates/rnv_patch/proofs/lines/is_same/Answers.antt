use Rattle.std.proofs.Common.{List, ℕ, Bor, [], get_or}
use Rattle.std.proofs.Math.ListN.{get_or-map}
use Rattle.rnv_patch.specs.Lines.{lent}
use Rattle.rnv_patch.proofs.SameLines.{same_lines}
use Rattle.rnv_patch.proofs.lines.is_same.Goals as goal

pub returns : goal.returns
returns c =
    let now = λ (line : Bor (List ℕ)). line.now in
    let none : Bor (List ℕ) = record { ref_ptr = (0, 0); now = [] } in
    same_lines c.eq.result (get_or (lent c.args.old.now) c.args.i []) (get_or (lent c.args.new.now) c.args.j [])
    (get_or c.args.old.now c.args.i none).now (get_or c.args.new.now c.args.j none).now c.eq.ensures
    (get_or-map now c.args.old.now c.args.i none) (get_or-map now c.args.new.now c.args.j none)
