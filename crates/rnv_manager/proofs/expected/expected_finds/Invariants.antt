use Rattle.std.proofs.Common.{◌≡◌, length, drop, List}
use Rattle.rnv_manager.specs.Finds.{views, AreApart}
use Rattle.rnv_manager.specs.Marks.{Mark, text_of, finds_from}
use Rattle.rnv_manager.specs.Edits.{AreIndexes}
use Rattle.rnv_manager.proofs.Edited.{Left}
use Rattle.rnv_manager.proofs.expected.expected_finds.Given as goal

abbrev pub invariant-loop-i : goal.invariant-loop-i
invariant-loop-i l = record {
  apart : AreApart l.at (drop l.i (views l.found)) l.file_len;
  indexes : AreIndexes l.i l.rest (length l.found);
  left : (ms : List Mark) → l.file_len ≡ length (text_of ms) → views l.found ≡ finds_from 0 ms → Left l.file_len (views l.found) l.edits ms l.rest l.i l.at l.len (views l.finds.items);
}
