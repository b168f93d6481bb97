use Rattle.std.proofs.Common.{length}
use Rattle.rnv_journal.specs.Found.{IsFound}
use Rattle.rnv_journal.proofs.reading.entries_of.Given as goal

abbrev pub invariant-loop-payload : goal.invariant-loop-payload
invariant-loop-payload l = IsFound l.limit l.bytes l.entries l.rest l.room

abbrev pub decreases-loop-payload : goal.decreases-loop-payload
decreases-loop-payload l = length l.rest
