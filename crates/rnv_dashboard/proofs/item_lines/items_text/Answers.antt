use Rattle.std.proofs.Common.{◌∙◌, sym, ap, flat_map, cond, []}
use Rattle.std.proofs.lemmas.List.{take_all}
use Rattle.rnv_dashboard.specs.Lines.{ended}
use Rattle.rnv_dashboard.specs.Page.{is_same, item_line}
use Rattle.rnv_dashboard.proofs.Texts.{text_of_picked}
use Rattle.rnv_dashboard.proofs.item_lines.items_text.Goals as goal

pub returns : goal.returns
returns c = c.loop-item.invariant ∙ ap (flat_map (λ i. cond (is_same i.section c.args.section) (ended (item_line i)) [])) (take_all c.loop-item.item-index c.args.items.now c.loop-item-test.false) ∙ sym (text_of_picked item_line (λ i. is_same i.section c.args.section) c.args.items.now)
