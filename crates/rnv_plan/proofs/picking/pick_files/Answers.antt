use Rattle.rnv_plan.proofs.Picks.{file_picked}
use Rattle.rnv_plan.proofs.picking.pick_files.Goals as goal

pub loop-file-preserved : goal.loop-file-preserved
loop-file-preserved c =
    let more = file_picked c.args.moment c.args.indexes.now c.loop-file.yielded c.loop-file.picked c.in-Some.file c.in_ok-deps.deps c.loop-file.invariant c.in_ok-deps.ensures in
    rw c.in_ok-push.ensures.ok more
