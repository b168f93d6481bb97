use Rattle.rnv_journal.specs.Found.{strings}
use Rattle.rnv_forge.proofs.Folding.{IsFolded}
use Rattle.rnv_forge.proofs.stored.stored.Given as goal

abbrev pub invariant-loop-index : goal.invariant-loop-index
invariant-loop-index l = IsFolded (strings l.entries) l.index l.store
