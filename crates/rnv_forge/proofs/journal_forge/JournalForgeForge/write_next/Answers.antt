use Rattle.std.proofs.Common.{sym, ap, subst, ◌∙◌}
use Rattle.rnv_journal.specs.File.{counted}
use Rattle.rnv_journal.specs.Held.{Held}
use Rattle.rnv_journal.specs.Readings.{IsAtRest}
use Rattle.rnv_forge.specs.Held.{HoldsStore}
use Rattle.rnv_forge.specs.Writes.{writes_in}
use Rattle.rnv_forge.proofs.Kept.{next_kept}
use Rattle.rnv_forge.proofs.Preparing.{held_closed}
use Rattle.rnv_forge.proofs.Turns.{next_holds, next_longer, next_prepared, next_reads, next_writes}
use Rattle.rnv_forge.proofs.journal_forge.JournalForgeForge.write_next.Goals as goal

pub returns-in-Ok-clause-holds : goal.returns-in-Ok-clause-holds
returns-in-Ok-clause-holds g c =
    let held = c.args.self.now.journal in
    let new = g.D.Disk.past c.append_next.new.disk in
    let rest = subst (λ (h : Held). IsAtRest held.limit new h.entries) c.in-Ok.ensures.ok c.in-Ok.ensures.at_rest in
    subst (λ (h : Held). HoldsStore c.args.self.now.store h new) (sym c.in-Ok.ensures.ok)
    (record { writes = next_holds held _ c.requires.holds.writes new rest; kept = next_kept held _ c.requires.holds.writes c.args.self.now.store c.requires.holds.kept })

pub returns-in-Ok-clause-any_moment : goal.returns-in-Ok-clause-any_moment
returns-in-Ok-clause-any_moment g c open' = next_reads c.args.self.now.journal _ c.requires.holds.writes _ (c.append_next.ensures.any_moment open')

pub returns-in-Ok-clause-ok : goal.returns-in-Ok-clause-ok
returns-in-Ok-clause-ok g c = ap (λ (h : Held). writes_in h.entries) c.in-Ok.ensures.ok ∙ next_writes c.args.self.now.journal _ c.requires.holds.writes

pub returns-in-Ok-clause-next : goal.returns-in-Ok-clause-next
returns-in-Ok-clause-next g c = ap (λ (h : Held). writes_in h.prepared) c.in-Ok.ensures.ok ∙ next_prepared c.args.self.now.journal _ c.requires.holds.writes

pub returns-in-Ok-clause-longer : goal.returns-in-Ok-clause-longer
returns-in-Ok-clause-longer g c w ws is = ap (λ (h : Held). counted h.entries) c.in-Ok.ensures.ok ∙ next_longer c.args.self.now.journal _ c.requires.holds.writes w ws is

pub returns-in-Err-DiskFault-clause-any_moment : goal.returns-in-Err-DiskFault-clause-any_moment
returns-in-Err-DiskFault-clause-any_moment g c open' = next_reads c.args.self.now.journal _ c.requires.holds.writes _ (c.append_next.ensures.any_moment open')

pub returns-in-Err-DiskFault-clause-holds : goal.returns-in-Err-DiskFault-clause-holds
returns-in-Err-DiskFault-clause-holds g c =
    let new = g.D.Disk.past c.append_next.new.disk in
    subst (λ (h : Held). HoldsStore c.args.self.now.store h new) (sym c.in-Err-DiskFault.ensures.err)
    (record { writes = held_closed c.args.self.now.journal _ c.requires.holds.writes new; kept = c.requires.holds.kept })

pub returns-in-Err-Closed-clause-holds : goal.returns-in-Err-Closed-clause-holds
returns-in-Err-Closed-clause-holds g c =
    let new = g.D.Disk.past c.append_next.new.disk in
    subst (λ (h : Held). HoldsStore c.args.self.now.store h new) (sym c.in-Err-Closed.ensures.err)
    (record { writes = held_closed c.args.self.now.journal _ c.requires.holds.writes new; kept = c.requires.holds.kept })
