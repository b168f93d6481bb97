use Rattle.std.proofs.Common.{ap}
use Rattle.std.proofs.lemmas.List.{map_more}
use Rattle.rnv_plan.specs.Named.{with_name}
use Rattle.rnv_plan.proofs.kept.with_names.Goals as goal

pub loop-update-preserved : goal.loop-update-preserved
loop-update-preserved c =
    let longer = map_more with_name c.args.updates.now c.loop-update.update-index c.update-item.result c.loop-update-test.true in
    let here = c.in_ok-with_name.ensures in
    let is = ap with_name c.update-item.is in
    let pushed = c.in_ok-push.ensures.items in
    let so_far = c.loop-update.invariant in
    cc
