use Rattle.rnv_manager.specs.Steps.{span_of}
use Rattle.rnv_manager.proofs.Edited.{end_fits}
use Rattle.rnv_manager.proofs.Replacing.{pushed, apart-on}
use Rattle.rnv_manager.proofs.replaced.spans.Goals as goal

pub overflow_add-end : goal.overflow_add-end
overflow_add-end c = end_fits c.args.found.now c.loop-f.f-index c.loop-f.invariant.apart.0 c.args.file_len _ c.loop-f-test.true c.loop-f.invariant.apart.1 c.ranges.file_len

pub loop-f-preserved : goal.loop-f-preserved
loop-f-preserved c = record {
  spans = pushed span_of c.args.found.now c.loop-f.f-index _ c.loop-f-test.true _ _ c.in_ok-push.ensures.items c.loop-f.invariant.spans;
  apart = apart-on c.args.found.now c.loop-f.f-index c.loop-f.invariant.apart.0 c.args.file_len c.loop-f-test.true c.loop-f.invariant.apart.1;
}
