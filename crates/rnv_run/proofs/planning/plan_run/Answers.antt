use Rattle.std.proofs.Common.{◌≡◌, List, [], Some, subst, sym}
use Rattle.rnv_base.specs.Moment.{IsMoment}
use Rattle.rnv_repo.specs.Store.{after, known}
use Rattle.rnv_run.specs.Stage.{given_by}
use Rattle.rnv_run.proofs.Numbers.{numbers_left}
use Rattle.rnv_run.proofs.Wanted.{plain_given}
use Rattle.rnv_run.proofs.planning.plan_run.Goals as goal

pub plan_writes-requires : goal.plan_writes-requires
plan_writes-requires g c =
    let forge = c.args.forge.now in
    let w = c.in-Ok.field-0 in
    let numbers =
    numbers_left (g.F.Forge.writes forge) (g.F.Forge.prepared forge) w.repo.name w.repo (g.F.Forge.limit forge) _
    (g.met.F.Forge.permitted forge c.requires.holds) (g.met.F.Forge.within forge c.requires.holds) (g.met.F.Forge.small forge c.requires.holds) c.in-Ok.ensures.there c.in-Ok.ensures.few in
    (c.in-Ok.ensures.told, (c.in-Ok.ensures.fit, (plain_given w.terms.moment w.items, numbers)))

pub returns-in-Ok-plan_writes-clause-planned : goal.returns-in-Ok-plan_writes-clause-planned
returns-in-Ok-plan_writes-clause-planned g c =
    let w = c.in-Ok.field-0 in
    record {
      named = c.in-Ok.ensures.named;
      at = c.in-Ok.ensures.moment;
      given = given_by w.terms.moment w.items;
      is_given = c.in-Ok.ensures.given;
      by = record { there = c.in-Ok.ensures.there; fit = c.in-Ok.ensures.fit; is = c.in-Ok-plan_writes.ensures };
    }
