use Rattle.std.proofs.Common.{◌≡◌, length}
use Rattle.rnv_docker.specs.Lines.{is_comment}
use Rattle.rnv_docker.proofs.line.is_comment.Given as goal

abbrev pub invariant-loop-rest : goal.invariant-loop-rest
invariant-loop-rest l = is_comment l.rest ≡ is_comment l.line

abbrev pub decreases-loop-rest : goal.decreases-loop-rest
decreases-loop-rest l = length l.rest
