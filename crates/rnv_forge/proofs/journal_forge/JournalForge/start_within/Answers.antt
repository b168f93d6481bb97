use Rattle.rnv_forge.proofs.journal_forge.JournalForge.start_within.Goals as goal

pub returns-in-Ok-clause-any_moment : goal.returns-in-Ok-clause-any_moment
returns-in-Ok-clause-any_moment g c = c.started.ensures.any_moment

pub returns-in-Ok-clause-other : goal.returns-in-Ok-clause-other
returns-in-Ok-clause-other g c = c.started.ensures.other

pub returns-in-Err-clause-any_moment_refused : goal.returns-in-Err-clause-any_moment_refused
returns-in-Err-clause-any_moment_refused g c = c.started.ensures.any_moment

pub returns-in-Err-clause-other_refused : goal.returns-in-Err-clause-other_refused
returns-in-Err-clause-other_refused g c = c.started.ensures.other
