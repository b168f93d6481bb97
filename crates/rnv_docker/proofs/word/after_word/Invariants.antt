use Rattle.std.proofs.Common.{◌≡◌, ◌≤◌, length}
use Rattle.rnv_docker.specs.Read.{is_ink, skip}
use Rattle.rnv_docker.proofs.word.after_word.Given as goal

abbrev pub invariant-loop-rest : goal.invariant-loop-rest
invariant-loop-rest l = (skip is_ink l.rest ≡ skip is_ink l.bytes) × (length l.rest ≤ length l.bytes)

abbrev pub decreases-loop-rest : goal.decreases-loop-rest
decreases-loop-rest l = length l.rest
