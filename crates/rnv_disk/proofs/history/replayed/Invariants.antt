use Rattle.std.proofs.Common.{◌≡◌, take, reverse}
use Rattle.rnv_disk.specs.Course.{after}
use Rattle.rnv_disk.proofs.history.replayed.Given as goal

abbrev pub invariant-loop-call : goal.invariant-loop-call
invariant-loop-call l = l.content ≡ after l.first (reverse (take l.call-index l.calls))
