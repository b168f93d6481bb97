use Rattle.std.proofs.Common.{◌≡◌, [], cond, flat_map, string_bytes, take}
use Rattle.rnv_dashboard.specs.Lines.{ended}
use Rattle.rnv_dashboard.specs.Page.{is_same, item_line}
use Rattle.rnv_dashboard.proofs.item_lines.items_text.Given as goal

abbrev pub invariant-loop-item : goal.invariant-loop-item
invariant-loop-item l = string_bytes l.lines ≡ flat_map (λ i. cond (is_same i.section l.section) (ended (item_line i)) []) (take l.item-index l.items)
