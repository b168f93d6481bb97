use Rattle.std.proofs.Common.{drop}
use Rattle.rnv_manager.specs.Edits.{AreIndexes}
use Rattle.rnv_manager.proofs.conditions.are_indexes.Given as goal

abbrev pub invariant-loop-edit : goal.invariant-loop-edit
invariant-loop-edit l = record {
  needs : AreIndexes 0 l.edits l.number → AreIndexes l.from (drop l.edit-index l.edits) l.number;
  serves : AreIndexes l.from (drop l.edit-index l.edits) l.number → AreIndexes 0 l.edits l.number;
}
