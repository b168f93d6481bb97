use Rattle.std.proofs.Common.{◌≡◌, ◌+◌, length, take}
use Rattle.rnv_base.specs.Limits.{most_dependencies}
use Rattle.rnv_plan.specs.Taken.{AreTaken, deps_in}
use Rattle.rnv_plan.proofs.taken.taken.Given as goal

abbrev pub invariant-loop-file : goal.invariant-loop-file
invariant-loop-file l = record {
  read : AreTaken (take l.file-index l.files) l.taken;
  room : l.room + length (deps_in l.taken) ≡ most_dependencies;
}
