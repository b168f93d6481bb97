use Rattle.std.proofs.Common.{refl}
use Rattle.rnv_patch.specs.Lines.{lent}
use Rattle.rnv_patch.proofs.Trims.{on_ok}
use Rattle.rnv_patch.proofs.Cuts.{front_lent, end_lent, parts_hunk, with_hunk}
use Rattle.rnv_patch.proofs.trimming.add_trimmed.Goals as goal

pub returns : goal.returns
returns c =
    let front = c.common_front-front.ensures in
    let end = c.common_end-end.ensures in
    let old = c.args.old.now in
    let new = c.args.new.now in
    let olds = c.split_at.result.1.now in
    let news = c.split_at-2.result.1.now in
    on_ok c.add_hunk.result
    (with_hunk (lent old) (lent new) c.args.out.now.items c.add_hunk.new.out.items _
    (parts_hunk old new c.split_at.result.0.now olds news c.split_at-3.result.0.now c.split_at-4.result.0.now c.split_at-3.result.1.now _ _
    c.common_front-front.result c.common_end-end.result c.saturating_sub-start.result c.min.result
    (front_lent old new c.common_front-front.result front.in_old front.in_new front.same front.differ)
    (end_lent olds news c.common_end-end.result end.in_old end.in_new end.same end.differ)
    (record {
      before_is = c.split_at.ensures.front;
      olds_are = c.split_at.ensures.back;
      news_are = c.split_at-2.ensures.back;
      oldm_is = c.split_at-3.ensures.front;
      behind_is = c.split_at-3.ensures.back;
      newm_is = c.split_at-4.ensures.front;
      start_is = c.saturating_sub-start.ensures;
      context_is = refl;
      most_is = c.min.ensures;
      after_is = refl;
    })))
    c.add_hunk.ensures
