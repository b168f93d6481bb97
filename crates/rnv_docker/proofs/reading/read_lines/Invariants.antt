use Rattle.rnv_docker.specs.Lines.{lines}
use Rattle.rnv_docker.specs.Read.{state, run}
use Rattle.rnv_docker.proofs.Steps.{Goes, left}
use Rattle.rnv_docker.proofs.reading.read_lines.Given as goal

abbrev pub invariant-loop-rest : goal.invariant-loop-rest
invariant-loop-rest l = Goes l.file (state l.reading) l.rest (run (state l.fn.reading) 0 (lines l.file))

abbrev pub decreases-loop-rest : goal.decreases-loop-rest
decreases-loop-rest l = left l.rest
