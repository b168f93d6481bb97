use Rattle.std.proofs.Common.{Some}
use Rattle.rnv_patch.proofs.Parts.{one_part}
use Rattle.rnv_patch.proofs.SameLines.{other_texts}
use Rattle.rnv_patch.proofs.Trims.{on_ok}
use Rattle.rnv_patch.proofs.diffs.add_difference.Goals as goal

pub returns : goal.returns
returns c = on_ok c.add_changed.result
    (one_part c.args.path.now (Some c.args.old.now) c.args.new.now _ _ (other_texts c.args.old.now c.args.new.now c.if-eq.ensures))
    c.add_changed.ensures
