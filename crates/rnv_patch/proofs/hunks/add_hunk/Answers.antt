use Rattle.std.proofs.Common.{◌∙◌, ◌++◌, sym, ap}
use Rattle.rnv_patch.proofs.Trims.{add_up, lent_hunk, on_ok}
use Rattle.rnv_patch.proofs.hunks.add_hunk.Goals as goal

pub returns : goal.returns
returns c = on_ok c.add_lines-4.result
    (λ e. add_up _ _ _ _ _ _ _ _ _ _ _ c.in_ok-add_header.ensures c.in_ok-add_lines.ensures c.in_ok-add_lines-2.ensures c.in_ok-add_lines-3.ensures e
    ∙ ap (λ t. c.args.out.now.items ++ t) (sym (lent_hunk c.args.before c.args.context.now c.args.old.now c.args.new.now c.args.after.now)))
    c.add_lines-4.ensures
