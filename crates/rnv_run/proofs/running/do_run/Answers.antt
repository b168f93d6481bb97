use Rattle.std.proofs.Common.{◌++◌, List, [], refl, sym, subst, ap, ◌∙◌, arith}
use Rattle.std.specs.List.{AllByRecursion}
use Rattle.rnv_repo.specs.declared.write.Write.{Write}
use Rattle.rnv_repo.specs.Store.{ArePermitted, after}
use Rattle.rnv_repo.specs.WellFormed.{IsOrderly}
use Rattle.rnv_journal.proofs.Ones.{one_self}
use Rattle.rnv_forge.specs.Forge.{LeavesWrites}
use Rattle.rnv_run.specs.Front.{IsFront, StandsSince}
use Rattle.rnv_run.specs.Run.{IsRunRefusal}
use Rattle.rnv_run.proofs.Numbers.{room_now}
use Rattle.rnv_run.proofs.Planned.{leaves_by, orderly_by, others_by, outcome_by, permitted_by, rest_by, resumed_by}
use Rattle.rnv_run.proofs.Turns.{same_front, still, still_front, still_stands}
use Rattle.rnv_run.proofs.running.do_run.Goals as goal

pub do_all-requires-clause-orderly : goal.do_all-requires-clause-orderly
do_all-requires-clause-orderly g c =
    let forge = c.args.forge.now in
    subst (λ (l : List Write). AllByRecursion IsOrderly l) (sym c.in-Ok.ensures) (orderly_by (g.F.Forge.writes forge) (g.F.Forge.prepared forge) (g.met.F.Forge.well_formed forge c.requires.holds) (g.met.F.Forge.permitted forge c.requires.holds) c.requires.planned.0 c.args.plan c.requires.planned.1)

pub do_all-requires-clause-permitted : goal.do_all-requires-clause-permitted
do_all-requires-clause-permitted g c =
    let forge = c.args.forge.now in
    subst (λ (l : List Write). ArePermitted l (after (g.F.Forge.writes forge) [])) (sym c.in-Ok.ensures) (permitted_by (g.F.Forge.writes forge) (g.F.Forge.prepared forge) (g.met.F.Forge.well_formed forge c.requires.holds) (g.met.F.Forge.permitted forge c.requires.holds) c.requires.planned.0 c.args.plan c.requires.planned.1)

pub returns-in-Ok-do_all-clause-any_moment : goal.returns-in-Ok-do_all-clause-any_moment
returns-in-Ok-do_all-clause-any_moment g c =
    let forge = c.args.forge.now in
    subst (λ (l : List Write). LeavesWrites (g.F.Forge.limit forge) (g.F.Forge.past forge) (g.F.Forge.past c.do_all.new.forge) (IsFront (g.F.Forge.writes forge) l 0)) c.in-Ok.ensures c.in-Ok-do_all.ensures.any_moment

pub returns-in-Ok-do_all-clause-never_fewer : goal.returns-in-Ok-do_all-clause-never_fewer
returns-in-Ok-do_all-clause-never_fewer g c k h =
    let forge = c.args.forge.now in
    subst (λ (l : List Write). StandsSince (g.F.Forge.limit forge) (g.F.Forge.past forge) (g.F.Forge.past c.do_all.new.forge) (IsFront (g.F.Forge.writes forge) l k)) c.in-Ok.ensures (c.in-Ok-do_all.ensures.never_fewer k h)

pub returns-in-Ok-do_all-clause-front : goal.returns-in-Ok-do_all-clause-front
returns-in-Ok-do_all-clause-front g c =
    let forge = c.args.forge.now in
    subst (λ (l : List Write). IsFront (g.F.Forge.writes forge) l 0 (g.F.Forge.writes c.do_all.new.forge)) c.in-Ok.ensures c.in-Ok-do_all.ensures.front

pub returns-in-Ok-do_all-clause-again : goal.returns-in-Ok-do_all-clause-again
returns-in-Ok-do_all-clause-again g c h by us vs e =
    let forge = c.args.forge.now in
    rest_by (g.F.Forge.writes forge) (g.F.Forge.prepared forge) (g.met.F.Forge.well_formed forge c.requires.holds) (g.met.F.Forge.permitted forge c.requires.holds) h c.args.plan by (g.F.Forge.limit forge) us vs e

pub returns-in-Ok-do_all-clause-resumed_any_moment : goal.returns-in-Ok-do_all-clause-resumed_any_moment
returns-in-Ok-do_all-clause-resumed_any_moment g c h by start first us vs s =
    let forge = c.args.forge.now in
    leaves_by (g.F.Forge.writes forge) (g.F.Forge.prepared forge) (g.met.F.Forge.well_formed forge c.requires.holds) (g.met.F.Forge.permitted forge c.requires.holds) h c.args.plan by start first us vs s (g.F.Forge.limit forge) (g.F.Forge.past forge) (g.F.Forge.past c.do_all.new.forge)
    (subst (λ (l : List Write). LeavesWrites (g.F.Forge.limit forge) (g.F.Forge.past forge) (g.F.Forge.past c.do_all.new.forge) (IsFront (g.F.Forge.writes forge) l 0)) c.in-Ok.ensures c.in-Ok-do_all.ensures.any_moment)

pub returns-in-Ok-do_all-clause-done : goal.returns-in-Ok-do_all-clause-done
returns-in-Ok-do_all-clause-done g c =
    let forge = c.args.forge.now in
    c.in-Ok-do_all.ensures.done ∙ ap (λ (l : List Write). (g.F.Forge.writes forge) ++ l) c.in-Ok.ensures

pub returns-in-Ok-do_all-clause-room : goal.returns-in-Ok-do_all-clause-room
returns-in-Ok-do_all-clause-room g c =
    let forge = c.args.forge.now in
    room_now (g.F.Forge.writes c.do_all.new.forge) (g.F.Forge.prepared c.do_all.new.forge) (g.F.Forge.limit forge) (g.F.Forge.limit c.do_all.new.forge) c.in-Ok-do_all.ensures.limit
    (g.met.F.Forge.within c.do_all.new.forge c.in-Ok-do_all.ensures.holds)

pub returns-in-Ok-do_all-clause-outcome : goal.returns-in-Ok-do_all-clause-outcome
returns-in-Ok-do_all-clause-outcome g c h by =
    let forge = c.args.forge.now in
    outcome_by (g.F.Forge.writes forge) (g.F.Forge.prepared forge) (g.met.F.Forge.well_formed forge c.requires.holds) (g.met.F.Forge.permitted forge c.requires.holds) h c.args.plan by (g.F.Forge.writes c.do_all.new.forge) (c.in-Ok-do_all.ensures.done ∙ ap (λ (l : List Write). (g.F.Forge.writes forge) ++ l) c.in-Ok.ensures)

pub returns-in-Ok-do_all-clause-others : goal.returns-in-Ok-do_all-clause-others
returns-in-Ok-do_all-clause-others g c other ne =
    let forge = c.args.forge.now in
    others_by (g.F.Forge.writes forge) (g.F.Forge.prepared forge) (g.met.F.Forge.well_formed forge c.requires.holds) (g.met.F.Forge.permitted forge c.requires.holds) c.requires.planned.0 c.args.plan c.requires.planned.1 (g.F.Forge.writes c.do_all.new.forge) (c.in-Ok-do_all.ensures.done ∙ ap (λ (l : List Write). (g.F.Forge.writes forge) ++ l) c.in-Ok.ensures) other ne

pub returns-in-Ok-do_all-clause-resumed : goal.returns-in-Ok-do_all-clause-resumed
returns-in-Ok-do_all-clause-resumed g c h by start first us vs s =
    let forge = c.args.forge.now in
    resumed_by (g.F.Forge.writes forge) (g.F.Forge.prepared forge) (g.met.F.Forge.well_formed forge c.requires.holds) (g.met.F.Forge.permitted forge c.requires.holds) h c.args.plan by start first us vs s (g.F.Forge.writes c.do_all.new.forge) (c.in-Ok-do_all.ensures.done ∙ ap (λ (l : List Write). (g.F.Forge.writes forge) ++ l) c.in-Ok.ensures)

pub returns-in-Ok-clause-any_moment : goal.returns-in-Ok-clause-any_moment
returns-in-Ok-clause-any_moment g c =
    let forge = c.args.forge.now in
    subst (λ (l : List Write). LeavesWrites (g.F.Forge.limit forge) (g.F.Forge.past forge) (g.F.Forge.past c.do_all.new.forge) (IsFront (g.F.Forge.writes forge) l 0)) c.in-Ok.ensures c.in-Err-do_all.ensures.any_moment

pub returns-in-Ok-clause-never_fewer : goal.returns-in-Ok-clause-never_fewer
returns-in-Ok-clause-never_fewer g c k h =
    let forge = c.args.forge.now in
    subst (λ (l : List Write). StandsSince (g.F.Forge.limit forge) (g.F.Forge.past forge) (g.F.Forge.past c.do_all.new.forge) (IsFront (g.F.Forge.writes forge) l k)) c.in-Ok.ensures (c.in-Err-do_all.ensures.never_fewer k h)

pub returns-in-Ok-clause-front : goal.returns-in-Ok-clause-front
returns-in-Ok-clause-front g c =
    let forge = c.args.forge.now in
    subst (λ (l : List Write). IsFront (g.F.Forge.writes forge) l 0 (g.F.Forge.writes c.do_all.new.forge)) c.in-Ok.ensures c.in-Err-do_all.ensures.front

pub returns-in-Ok-clause-again : goal.returns-in-Ok-clause-again
returns-in-Ok-clause-again g c h by us vs e =
    let forge = c.args.forge.now in
    rest_by (g.F.Forge.writes forge) (g.F.Forge.prepared forge) (g.met.F.Forge.well_formed forge c.requires.holds) (g.met.F.Forge.permitted forge c.requires.holds) h c.args.plan by (g.F.Forge.limit forge) us vs e

pub returns-in-Ok-clause-resumed_any_moment : goal.returns-in-Ok-clause-resumed_any_moment
returns-in-Ok-clause-resumed_any_moment g c h by start first us vs s =
    let forge = c.args.forge.now in
    leaves_by (g.F.Forge.writes forge) (g.F.Forge.prepared forge) (g.met.F.Forge.well_formed forge c.requires.holds) (g.met.F.Forge.permitted forge c.requires.holds) h c.args.plan by start first us vs s (g.F.Forge.limit forge) (g.F.Forge.past forge) (g.F.Forge.past c.do_all.new.forge)
    (subst (λ (l : List Write). LeavesWrites (g.F.Forge.limit forge) (g.F.Forge.past forge) (g.F.Forge.past c.do_all.new.forge) (IsFront (g.F.Forge.writes forge) l 0)) c.in-Ok.ensures c.in-Err-do_all.ensures.any_moment)

pub returns-in-Ok-clause-refused : goal.returns-in-Ok-clause-refused
returns-in-Ok-clause-refused g c =
    let forge = c.args.forge.now in
    subst (λ (l : List Write). IsRunRefusal (g.F.Forge.limit forge) ((g.F.Forge.writes forge) ++ l) c.in-Err-do_all.error) c.in-Ok.ensures c.in-Err-do_all.ensures.refused

pub returns-clause-any_moment : goal.returns-clause-any_moment
returns-clause-any_moment g c =
    let forge = c.args.forge.now in
    still_front (g.F.Forge.limit forge) (g.F.Forge.past forge) (g.F.Forge.past forge) (g.F.Forge.writes forge) _ 0 (omega arith) (still (g.F.Forge.limit forge) (g.F.Forge.past forge) (g.F.Forge.writes forge) (g.F.Forge.prepared forge) (g.met.F.Forge.well_formed forge c.requires.holds) (g.met.F.Forge.at_rest forge c.requires.holds c.requires.opened))

pub returns-clause-never_fewer : goal.returns-clause-never_fewer
returns-clause-never_fewer g c k h =
    let forge = c.args.forge.now in
    still_stands (g.F.Forge.limit forge) (g.F.Forge.past forge) (g.F.Forge.past forge) (g.F.Forge.writes forge) (g.F.Forge.writes forge) _ refl (still (g.F.Forge.limit forge) (g.F.Forge.past forge) (g.F.Forge.writes forge) (g.F.Forge.prepared forge) (g.met.F.Forge.well_formed forge c.requires.holds) (g.met.F.Forge.at_rest forge c.requires.holds c.requires.opened)) k h

pub returns-clause-front : goal.returns-clause-front
returns-clause-front g c =
    let forge = c.args.forge.now in
    same_front (g.F.Forge.writes forge) _ 0 (omega arith) (g.F.Forge.writes forge) refl

pub returns-clause-other : goal.returns-clause-other
returns-clause-other g c =
    let forge = c.args.forge.now in
    one_self (g.F.Forge.past forge)

pub returns-clause-unwritten : goal.returns-clause-unwritten
returns-clause-unwritten g c ne =
    let forge = c.args.forge.now in
    (refl, still (g.F.Forge.limit forge) (g.F.Forge.past forge) (g.F.Forge.writes forge) (g.F.Forge.prepared forge) (g.met.F.Forge.well_formed forge c.requires.holds) (g.met.F.Forge.at_rest forge c.requires.holds c.requires.opened))

pub returns-clause-again : goal.returns-clause-again
returns-clause-again g c h by us vs e =
    let forge = c.args.forge.now in
    rest_by (g.F.Forge.writes forge) (g.F.Forge.prepared forge) (g.met.F.Forge.well_formed forge c.requires.holds) (g.met.F.Forge.permitted forge c.requires.holds) h c.args.plan by (g.F.Forge.limit forge) us vs e

pub returns-clause-resumed_any_moment : goal.returns-clause-resumed_any_moment
returns-clause-resumed_any_moment g c h by start first us vs s =
    let forge = c.args.forge.now in
    leaves_by (g.F.Forge.writes forge) (g.F.Forge.prepared forge) (g.met.F.Forge.well_formed forge c.requires.holds) (g.met.F.Forge.permitted forge c.requires.holds) h c.args.plan by start first us vs s (g.F.Forge.limit forge) (g.F.Forge.past forge) (g.F.Forge.past forge)
    (still_front (g.F.Forge.limit forge) (g.F.Forge.past forge) (g.F.Forge.past forge) (g.F.Forge.writes forge) _ 0 (omega arith) (still (g.F.Forge.limit forge) (g.F.Forge.past forge) (g.F.Forge.writes forge) (g.F.Forge.prepared forge) (g.met.F.Forge.well_formed forge c.requires.holds) (g.met.F.Forge.at_rest forge c.requires.holds c.requires.opened)))
