use Rattle.std.proofs.Common.{◌≡◌, ◌≤◌, false}
use Rattle.rnv_journal.specs.Readings.{KeepsOne}
use Rattle.rnv_run.proofs.Turns.{Writing}
use Rattle.rnv_run.proofs.writing.do_prepared.Given as goal

abbrev pub invariant-loop : goal.invariant-loop
invariant-loop g l = record {
  holds : g.F.Forge.holds l.forge;
  opened : g.F.Forge.closed l.forge ≡ false;
  limit : g.F.Forge.limit l.forge ≡ g.F.Forge.limit l.fn.forge;
  so_far : Writing (g.F.Forge.limit l.fn.forge) (g.F.Forge.writes l.fn.forge) (g.F.Forge.prepared l.fn.forge) (g.F.Forge.writes l.forge) (g.F.Forge.prepared l.forge) (g.F.Forge.past l.fn.forge) (g.F.Forge.past l.forge) l.counter;
  other : KeepsOne (g.F.Forge.past l.fn.forge) (g.F.Forge.past l.forge);
  within : l.counter ≤ l.count;
  later : g.F.Forge.faults l.fn.forge ≤ g.F.Forge.faults l.forge;
}
