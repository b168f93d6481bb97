use Rattle.rnv_plan.proofs.Finds.{deps-one_more}
use Rattle.rnv_plan.proofs.taken.deps.Goals as goal

pub loop-one-preserved : goal.loop-one-preserved
loop-one-preserved c = deps-one_more c.args.path.now c.args.manager c.args.found.now c.loop-one.one-index _ c.loop-one.deps c.push.new.self c.in_ok-dep.field-0 c.loop-one-test.true c.loop-one.invariant c.in_ok-dep.ensures c.in_ok-push.ensures.ok
