use Rattle.rnv_forge.proofs.Preparing.{held_are}
use Rattle.rnv_forge.proofs.journal_forge.JournalForgeForge.repo.Goals as goal

pub store_of-requires-clause-writes : goal.store_of-requires-clause-writes
store_of-requires-clause-writes g c = held_are c.args.self.now.journal (g.D.Disk.past c.args.self.now.disk) c.requires.writes

pub store_of-requires-clause-small : goal.store_of-requires-clause-small
store_of-requires-clause-small g c = c.requires.writes.small

pub kept-requires : goal.kept-requires
kept-requires g c = c.requires.kept
