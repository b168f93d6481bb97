use Rattle.rnv_spelling.proofs.Readings.{goes_on}
use Rattle.rnv_spelling.specs.Reading.{parts_at}
use Rattle.rnv_spelling.proofs.spelled.read_parts.Goals as goal

pub loop-preserved : goal.loop-preserved
loop-preserved g c =
    rw c.in_ok-push.ensures.ok
    (goes_on g.T.Spelled.reading c.loop.parts c.args.count c.loop.counter c.loop.rest.now c.in_ok-part.part c.in_ok-part.behind.now (parts_at g.T.Spelled.reading c.args.count c.args.bytes.now) c.loop-test.true c.in_ok-part.ensures c.loop.invariant)
