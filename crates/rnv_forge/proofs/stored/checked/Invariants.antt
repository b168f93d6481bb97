use Rattle.rnv_journal.specs.Found.{strings}
use Rattle.rnv_forge.proofs.Checking.{IsChecked}
use Rattle.rnv_forge.proofs.stored.checked.Given as goal

abbrev pub invariant-loop-index : goal.invariant-loop-index
invariant-loop-index l = IsChecked l.fn.store l.list l.index l.store (strings l.payloads)
