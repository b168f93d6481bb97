use Rattle.std.proofs.Common.{drop}
use Rattle.rnv_manager.specs.Edits.{AllFit}
use Rattle.rnv_manager.proofs.conditions.all_fit.Given as goal

abbrev pub invariant-loop-edit : goal.invariant-loop-edit
invariant-loop-edit g l = record {
  needs : AllFit (g.M.Manager.is_fit l.manager) l.edits → AllFit (g.M.Manager.is_fit l.manager) (drop l.edit-index l.edits);
  serves : AllFit (g.M.Manager.is_fit l.manager) (drop l.edit-index l.edits) → AllFit (g.M.Manager.is_fit l.manager) l.edits;
}
