use Rattle.std.proofs.Common.{◌≡◌, length}
use Rattle.std.specs.Vec.Iter.{into_iter_items, into_iter_len}
use Rattle.rnv_commands.proofs.Differences.{Turning}
use Rattle.rnv_commands.proofs.difference.changes_of.Given as goal

abbrev pub invariant-loop-file : goal.invariant-loop-file
invariant-loop-file l = record {
  so_far : Turning l.old l.fn.new l.changes l.left (into_iter_items l.file-iterator);
  counted : into_iter_len l.file-iterator ≡ length (into_iter_items l.file-iterator);
}
