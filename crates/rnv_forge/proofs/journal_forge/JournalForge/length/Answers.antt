use Rattle.std.proofs.Common.{◌≤◌, ℕ, sym, subst}
use Rattle.rnv_forge.specs.Laws.{held_no_longer}
use Rattle.rnv_forge.proofs.journal_forge.JournalForge.length.Goals as goal

pub returns-clause-within : goal.returns-clause-within
returns-clause-within g c =
    let journal = c.args.self.now.journal in
    subst (λ (n : ℕ). n ≤ journal.limit) (sym c.length.ensures.counted) (held_no_longer journal (g.D.Disk.past c.args.self.now.disk) c.requires.writes)
