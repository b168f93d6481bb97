use Rattle.std.proofs.Common.{◌≡◌, ◌≤◌, ◌++◌, drop, length, map}
use Rattle.rnv_manager.specs.Splice.{AreSpans, spliced}
use Rattle.rnv_manager.proofs.splicing.splice_any.Given as goal

abbrev pub invariant-loop-i : goal.invariant-loop-i
invariant-loop-i g l = record {
  apart : AreSpans l.at (drop l.i l.spans) (length l.file);
  room : length (spliced l.file l.at (drop l.i l.spans) (drop l.i (map g.T.AsStr.text l.texts))) ≤ l.into.spare;
  done : l.into.bytes ++ spliced l.file l.at (drop l.i l.spans) (drop l.i (map g.T.AsStr.text l.texts)) ≡ spliced l.file 0 l.spans (map g.T.AsStr.text l.texts);
}
