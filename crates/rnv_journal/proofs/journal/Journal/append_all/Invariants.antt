use Rattle.std.proofs.Common.{◌≡◌, ◌≤◌, length}
use Rattle.rnv_journal.proofs.Turns.{Appending}
use Rattle.rnv_journal.proofs.journal.Journal.append_all.Given as goal

abbrev pub invariant-loop : goal.invariant-loop
invariant-loop g l = record {
  so_far : Appending l.fn.self l.self (g.D.Disk.past l.fn.disk) (g.D.Disk.past l.disk) l.counter;
  ends : l.end ≡ length l.fn.self.prepared;
  within : l.counter ≤ l.end;
  later : g.D.Disk.faults l.fn.disk ≤ g.D.Disk.faults l.disk;
}
