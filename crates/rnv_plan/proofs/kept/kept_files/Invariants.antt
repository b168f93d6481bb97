use Rattle.std.proofs.Common.{◌≡◌, map, take}
use Rattle.rnv_plan.specs.Named.{kept_file}
use Rattle.rnv_plan.proofs.kept.kept_files.Given as goal

abbrev pub invariant-loop-file : goal.invariant-loop-file
invariant-loop-file l = l.all ≡ map kept_file (take l.file-index l.picked)
