use Rattle.rnv_forge.proofs.Starting.{damages_left, refusals_of, wrong_left}
use Rattle.rnv_forge.proofs.start.started.Goals as goal

pub returns-in-Ok-clause-refused : goal.returns-in-Ok-clause-refused
returns-in-Ok-clause-refused g c t = refusals_of c.args.limit (g.D.Disk.seen c.args.disk.now) c.in-Ok.journal.entries c.checked_journal.result (c.in-Ok.ensures.entries t) c.checked_journal.ensures.refused

pub returns-in-Ok-clause-left : goal.returns-in-Ok-clause-left
returns-in-Ok-clause-left g c t =
    damages_left c.args.limit (g.D.Disk.seen c.args.disk.now) _ _ _ c.in-Ok.journal.entries c.checked_journal.result (c.in-Ok.ensures.entries t) c.in-Ok.ensures.at_rest c.checked_journal.ensures.refused

pub returns-in-Err-clause-left : goal.returns-in-Err-clause-left
returns-in-Err-clause-left g c t = wrong_left c.args.limit (g.D.Disk.seen c.args.disk.now) _ _ _ c.in-Err.error (c.in-Err.ensures.refused t) c.in-Err.ensures.only_read (c.in-Err.ensures.same t)

pub returns-in-Ok-clause-any_moment : goal.returns-in-Ok-clause-any_moment
returns-in-Ok-clause-any_moment g c = c.start.ensures.any_moment

pub returns-in-Ok-clause-other : goal.returns-in-Ok-clause-other
returns-in-Ok-clause-other g c = c.start.ensures.other

pub returns-in-Err-clause-any_moment : goal.returns-in-Err-clause-any_moment
returns-in-Err-clause-any_moment g c = c.start.ensures.any_moment

pub returns-in-Err-clause-other : goal.returns-in-Err-clause-other
returns-in-Err-clause-other g c = c.start.ensures.other
