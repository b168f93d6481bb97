use Rattle.std.proofs.Common.{List, Option, sym, subst}
use Rattle.std.specs.Prelude.{IfSome}
use Rattle.rnv_repo.specs.declared.repo.Repo.{Repo}
use Rattle.rnv_journal.specs.Held.{Held}
use Rattle.rnv_forge.specs.Held.{HoldsWrites, IsStoreOf}
use Rattle.rnv_forge.proofs.Kept.{prepared_store}
use Rattle.rnv_forge.proofs.Preparing.{held_are, held_cleared, held_prepared, held_stays, prepared_within}
use Rattle.rnv_forge.proofs.Uses.{same_past}
use Rattle.rnv_forge.proofs.journal_forge.JournalForgeForge.prepare.Goals as goal

pub prepare_writes-requires-clause-writes : goal.prepare_writes-requires-clause-writes
prepare_writes-requires-clause-writes g c = held_are c.args.self.now.journal (g.D.Disk.past c.args.self.now.disk) c.requires.holds.writes

pub returns-in-Ok-clause-holds : goal.returns-in-Ok-clause-holds
returns-in-Ok-clause-holds g c = record {
  writes = held_prepared c.args.self.now.journal (g.D.Disk.past c.args.self.now.disk) c.requires.holds.writes c.args.list c.prepare_writes.new.journal c.in-Ok.ensures.ok;
  kept = prepared_store c.args.self.now.journal c.prepare_writes.new.journal c.args.list c.in-Ok.ensures.ok c.in-Ok.store c.in-Ok.ensures.store;
}

pub returns-in-Err-clause-holds : goal.returns-in-Err-clause-holds
returns-in-Err-clause-holds g c =
    let past = g.D.Disk.past c.args.self.now.disk in
    record {
      writes = subst (λ (h : Held). HoldsWrites h past) (sym c.in-Err.ensures.err) (held_cleared c.args.self.now.journal past c.requires.holds.writes);
      kept = subst (λ (o : Option (List Repo)). IfSome o (IsStoreOf c.prepare_writes.new.journal)) (sym c.take_kept-kept.ensures.none) tt;
    }

pub returns-in-Ok-clause-any_moment : goal.returns-in-Ok-clause-any_moment
returns-in-Ok-clause-any_moment g c open' = held_stays c.args.self.now.journal (g.D.Disk.past c.args.self.now.disk) c.requires.holds.writes open'

pub returns-in-Err-clause-any_moment : goal.returns-in-Err-clause-any_moment
returns-in-Err-clause-any_moment g c open' = held_stays c.args.self.now.journal (g.D.Disk.past c.args.self.now.disk) c.requires.holds.writes open'

pub returns-in-Ok-clause-within : goal.returns-in-Ok-clause-within
returns-in-Ok-clause-within g c =
    prepared_within c.args.self.now.journal (g.D.Disk.past c.args.self.now.disk) c.requires.holds.writes c.args.list c.prepare_writes.new.journal c.in-Ok.ensures.ok

pub prepare_writes-requires-clause-small : goal.prepare_writes-requires-clause-small
prepare_writes-requires-clause-small g c = c.requires.holds.writes.small

pub take_kept-kept-requires : goal.take_kept-kept-requires
take_kept-kept-requires g c = c.requires.holds.kept

pub returns-in-Ok-clause-past : goal.returns-in-Ok-clause-past
returns-in-Ok-clause-past g c = same_past (g.D.Disk.past c.args.self.now.disk)

pub returns-in-Err-clause-past : goal.returns-in-Err-clause-past
returns-in-Err-clause-past g c = same_past (g.D.Disk.past c.args.self.now.disk)
