use Rattle.std.proofs.Common.{◌≡◌, ◌≤◌, length, take}
use Rattle.rnv_manager.specs.Finds.{views}
use Rattle.rnv_manager.proofs.difference.first_difference.Given as goal

abbrev pub invariant-loop-i : goal.invariant-loop-i
invariant-loop-i l = record {
  within : l.i ≤ length l.actual;
  same : take l.i (views l.expected) ≡ take l.i (views l.actual);
}
