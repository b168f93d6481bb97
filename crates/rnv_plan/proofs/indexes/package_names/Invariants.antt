use Rattle.std.proofs.Common.{take}
use Rattle.rnv_plan.specs.Packages.{AreNames}
use Rattle.rnv_plan.specs.Sources.{from}
use Rattle.rnv_plan.specs.Taken.{readable_in}
use Rattle.rnv_plan.proofs.indexes.package_names.Given as goal

abbrev pub invariant-loop-file : goal.invariant-loop-file
invariant-loop-file l = AreNames (from l.source (readable_in (take l.file-index l.taken))) l.names
