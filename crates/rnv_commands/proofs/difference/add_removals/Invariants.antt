use Rattle.std.proofs.Common.{◌≡◌, ◌++◌, take, map}
use Rattle.rnv_commands.specs.Difference.{removal}
use Rattle.rnv_commands.proofs.difference.add_removals.Given as goal

abbrev pub invariant-loop-file : goal.invariant-loop-file
invariant-loop-file l = l.out ≡ l.fn.out ++ map removal (take l.file-index l.files)
