use Rattle.std.proofs.Common.{sym, subst}
use Rattle.rnv_steps.specs.Told.{HaveBranches}
use Rattle.rnv_steps.specs.Works.{rows}
use Rattle.rnv_run.proofs.planning.plan_writes.Goals as goal

pub contents-requires : goal.contents-requires
contents-requires g c = record { distinct = subst HaveBranches (sym c.requires.0.all) c.requires.1.0.distinct }

pub work-requires-clause-distinct : goal.work-requires-clause-distinct
work-requires-clause-distinct g c = subst HaveBranches (sym c.requires.0.all) c.requires.1.0.distinct

pub returns : goal.returns
returns g c =
    let written = c.in_ok-writes.ensures g.given c.requires.0 (c.in_ok-branches.ensures g.given c.requires.0 c.requires.1.1.0.files c.requires.1.1.0.problem) in
    c.in_ok-list.ensures g.given written.writes (sym (c.requires.1.1.0.page (rows g.given c.args.repo.now)))
