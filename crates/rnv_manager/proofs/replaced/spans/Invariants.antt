use Rattle.std.proofs.Common.{◌≡◌, ℕ, take, drop}
use Rattle.rnv_manager.specs.Finds.{views, AreApart}
use Rattle.rnv_manager.specs.Steps.{spans_of}
use Rattle.rnv_manager.proofs.replaced.spans.Given as goal

abbrev pub invariant-loop-f : goal.invariant-loop-f
invariant-loop-f l = record {
  spans : l.spans.items ≡ spans_of (views (take l.f-index l.found));
  apart : (at : ℕ) × AreApart at (drop l.f-index (views l.found)) l.file_len;
}
