use Rattle.std.proofs.Common.{◌≡◌, ◌≤◌, ◌++◌}
use Rattle.std.specs.BTreeSet.{keys}
use Rattle.rnv_plan.specs.Gather.{releases_for, IsSound}
use Rattle.rnv_plan.specs.Listings.{AreOfSome}
use Rattle.rnv_plan.proofs.Documents.{AreFound}
use Rattle.rnv_plan.proofs.indexes.read_each.Given as goal

abbrev pub invariant-loop-name : goal.invariant-loop-name
invariant-loop-name g l = record {
  parts : l.yielded ++ l.name-iterator ≡ keys l.fn.names;
  read : g.O.Folder.tells → AreFound (IsSound (g.O.Folder.files l.initial.folder) l.source) l.source (releases_for (g.O.Folder.files l.initial.folder) l.source) l.yielded l.listings;
  some : AreOfSome l.source l.listings;
  same : g.O.Folder.tells → g.O.Folder.files l.folder ≡ g.O.Folder.files l.initial.folder;
  later : g.O.Folder.faults l.initial.folder ≤ g.O.Folder.faults l.folder;
}
