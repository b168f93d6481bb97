use Rattle.rnv_journal.proofs.Keeps.{keeps_both, keeps_left}
use Rattle.rnv_journal.proofs.Ones.{one_then}
use Rattle.rnv_journal.proofs.start.entries_at_rest.Goals as goal

pub returns-in-Ok-clause-any_moment : goal.returns-in-Ok-clause-any_moment
returns-in-Ok-clause-any_moment g c = keeps_both c.args.limit _ _ _ (keeps_left c.args.limit _ _ c.read_synced.ensures.stops) c.settled.ensures.any_moment

pub returns-in-Ok-clause-other : goal.returns-in-Ok-clause-other
returns-in-Ok-clause-other g c = one_then _ _ _ c.read_synced.ensures.other c.settled.ensures.other
