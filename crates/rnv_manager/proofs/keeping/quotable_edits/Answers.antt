use Rattle.rnv_base.specs.Values.{is_quotable}
use Rattle.rnv_manager.proofs.Fitting.{law-of}
use Rattle.rnv_manager.proofs.keeping.quotable_edits.Goals as goal

pub returns-clause-law : goal.returns-clause-law
returns-clause-law g c = law-of (g.M.Manager.reads c.args.manager.now) is_quotable (g.M.Manager.is_fit c.args.manager.now) c.keeps_edits.ensures.quotable c.keeps_edits.ensures.law

pub returns-clause-never : goal.returns-clause-never
returns-clause-never g c = λ file ms edits start wanted found read indexes fit refused.
    refused.fails (law-of (g.M.Manager.reads c.args.manager.now) is_quotable (g.M.Manager.is_fit c.args.manager.now) c.keeps_edits.ensures.quotable c.keeps_edits.ensures.law file ms edits read indexes fit)
