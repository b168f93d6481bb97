use Rattle.std.proofs.Common.{vec_len, ◌+◌, ◌-◌, ◌≡◌, ◌≤◌, ◌++◌}
use Rattle.rnv_wire.proofs.reading.read_all.Given as goal

abbrev pub invariant-loop-buffer : goal.invariant-loop-buffer
invariant-loop-buffer g l = record {
  within : vec_len l.all ≤ l.limit + 1;
  bytes : g.S.Source.tells → g.S.Source.left l.initial.source ≡ l.all.items ++ g.S.Source.left l.source;
  later : g.S.Source.faults l.initial.source ≤ g.S.Source.faults l.source;
}

abbrev pub decreases-loop-buffer : goal.decreases-loop-buffer
decreases-loop-buffer g l = l.limit + 1 - vec_len l.all
