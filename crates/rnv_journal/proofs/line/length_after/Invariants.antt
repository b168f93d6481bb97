use Rattle.std.proofs.Common.{◌≡◌, ◌+◌, ◌-◌, ◌^◌, min, take}
use Rattle.rnv_journal.specs.File.{end_of}
use Rattle.rnv_journal.specs.Found.{strings}
use Rattle.rnv_journal.proofs.line.length_after.Given as goal

abbrev pub invariant-loop-payload : goal.invariant-loop-payload
invariant-loop-payload l = l.length ≡ min (l.end + (end_of (strings (take l.payload-index l.list)) - 13) + 1) (2 ^ 64 - 1)
