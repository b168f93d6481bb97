use Rattle.rnv_docker.specs.Read.{state}
use Rattle.rnv_docker.proofs.Steps.{step-none, step-some}
use Rattle.rnv_docker.proofs.reading.read_line.Goals as goal

pub returns-in_default-clause-ok : goal.returns-in_default-clause-ok
returns-in_default-clause-ok c = step-none (state c.args.reading.now) c.args.line.now c.args.end c.continues-reading.result c.in_default.ensures.stage c.continues-reading.ensures

pub returns-clause-ok : goal.returns-clause-ok
returns-clause-ok c =
    step-some (state c.args.reading.now) c.args.line.now c.args.end c.continues-reading.result c.in-Some.image.now c.in-Some.back.now _ _ c.in-Some.ensures.stage c.continues-reading.ensures c.in_ok-add.ensures.ok c.find-reading.ensures
