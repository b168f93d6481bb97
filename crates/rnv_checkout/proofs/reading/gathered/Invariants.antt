use Rattle.std.proofs.Common.{◌≡◌, ◌≤◌, List, Option, take}
use Rattle.std.specs.List.{AllZip}
use Rattle.rnv_base.specs.Files.{NamedFile}
use Rattle.rnv_checkout.specs.Base.{IsOutcome, IsPlaced}
use Rattle.rnv_checkout.specs.Gathered.{IsGathered}
use Rattle.rnv_checkout.proofs.reading.gathered.Given as goal

abbrev pub invariant-loop-path : goal.invariant-loop-path
invariant-loop-path g l = record {
  each : g.O.Folder.tells → (outcomes : List (Option NamedFile)) × IsGathered l.gathered outcomes × AllZip (IsOutcome (g.O.Folder.files l.initial.folder) l.front) (take l.path-index l.paths) outcomes;
  placed : (outcomes : List (Option NamedFile)) × IsGathered l.gathered outcomes × AllZip (IsPlaced l.front) (take l.path-index l.paths) outcomes;
  few : l.gathered.passed ≤ l.path-index;
  same : g.O.Folder.tells → g.O.Folder.files l.folder ≡ g.O.Folder.files l.initial.folder;
  later : g.O.Folder.faults l.initial.folder ≤ g.O.Folder.faults l.folder;
}
