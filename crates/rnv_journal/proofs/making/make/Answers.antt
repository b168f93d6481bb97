use Rattle.rnv_journal.proofs.Keeps.{keeps_both}
use Rattle.rnv_journal.proofs.Ones.{one_then}
use Rattle.rnv_journal.proofs.making.make.Goals as goal

pub returns-clause-any_moment : goal.returns-clause-any_moment
returns-clause-any_moment g c limit enough = keeps_both limit _ _ _ (c.begin.ensures.any_moment limit enough) (c.fill.ensures.any_moment limit enough)

pub returns-clause-other : goal.returns-clause-other
returns-clause-other g c = one_then _ _ _ c.begin.ensures.other c.fill.ensures.other
