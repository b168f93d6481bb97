use Rattle.std.proofs.Common.{List, ℕ, sym, subst, take, drop, length, ◌-◌}
use Rattle.rnv_manager.specs.Steps.{IsNewValue}
use Rattle.rnv_manager.proofs.Edited.{with-first, with-later}
use Rattle.rnv_manager.proofs.expected.new_value.Goals as goal

pub returns-then-edit-index : goal.returns-then-edit-index
returns-then-edit-index c = λ n h.
    subst (λ (v : List ℕ). IsNewValue c.args.edits.now c.args.index c.args.old.now n v (take (length c.args.edits.now - 1) (drop 1 c.args.edits.now))) (sym c.as_str.ensures)
    (with-first c.args.edits.now c.args.index n c.args.old.now c.edit-item.result c.in-len1-up.len_at_least c.edit-item.is c.if-edit-index.true h)

pub returns-else-edit-index : goal.returns-else-edit-index
returns-else-edit-index c = λ n h. with-later c.args.edits.now c.args.index n c.args.old.now c.edit-item.result c.in-len1-up.len_at_least c.edit-item.is c.if-edit-index.false h
