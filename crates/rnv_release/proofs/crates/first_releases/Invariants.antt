use Rattle.std.proofs.Common.{◌≡◌, ◌≤◌, ◌+◌, length}
use Rattle.std.specs.Option.{option_copied}
use Rattle.rnv_release.specs.Crates.{crate_reading, lines_from}
use Rattle.rnv_release.specs.Cut.{before, cut}
use Rattle.rnv_release.specs.Lines.{lines_of}
use Rattle.rnv_release.proofs.Feeds.{left}
use Rattle.rnv_release.proofs.crates.first_releases.Given as goal

abbrev pub invariant-loop-rest : goal.invariant-loop-rest
invariant-loop-rest l = record {
  front : cut l.most (crate_reading l.bytes) ≡ cut l.most (before l.releases (lines_from (l.number + 1) (lines_of (option_copied l.rest))));
  few : length l.releases ≤ l.most;
  counted : l.number + left l.rest ≤ length l.bytes + 1;
}

abbrev pub decreases-loop-rest : goal.decreases-loop-rest
decreases-loop-rest l = left l.rest
