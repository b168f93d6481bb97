use Rattle.std.proofs.Common.{◌≡◌, take}
use Rattle.rnv_journal.specs.File.{end_of}
use Rattle.rnv_journal.specs.Found.{strings}
use Rattle.rnv_journal.proofs.journal.end_behind.Given as goal

abbrev pub invariant-loop-entry : goal.invariant-loop-entry
invariant-loop-entry l = l.offset ≡ end_of (strings (take l.entry-index l.entries))
