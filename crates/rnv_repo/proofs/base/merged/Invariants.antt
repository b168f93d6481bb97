use Rattle.std.proofs.Common.{◌≡◌, ◌++◌, ◌||◌, length}
use Rattle.std.specs.Vec.Iter.{into_iter_items, into_iter_len}
use Rattle.rnv_repo.specs.Base.{changed, is_changing, path_of}
use Rattle.rnv_repo.specs.Merging.{change_path}
use Rattle.rnv_repo.specs.Named.{IsRisingBy}
use Rattle.rnv_repo.proofs.base.merged.Given as goal

abbrev pub invariant-loop-file : goal.invariant-loop-file
invariant-loop-file l = record {
  files : l.out ++ changed l.revision l.left (into_iter_items l.file-iterator) ≡ changed l.revision l.changes l.fn.files;
  changing : (l.any || is_changing l.left (into_iter_items l.file-iterator)) ≡ is_changing l.changes l.fn.files;
  rising : IsRisingBy path_of (into_iter_items l.file-iterator);
  rising_left : IsRisingBy change_path l.left;
  counted : into_iter_len l.file-iterator ≡ length (into_iter_items l.file-iterator);
}
