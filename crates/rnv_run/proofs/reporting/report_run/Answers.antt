use Rattle.std.proofs.Common.{inl, refl, ap, ◌∙◌, Err, sym, subst}
use Rattle.rnv_base.specs.Moment.{IsMoment}
use Rattle.rnv_journal.proofs.Ones.{one_self}
use Rattle.rnv_run.specs.Run.{IsResumed}
use Rattle.rnv_run.proofs.Planned.{begun_of, caused_of, not_unknown, printed_of, refused_there, same_of, stopped_of}
use Rattle.rnv_run.proofs.Turns.{still}
use Rattle.rnv_run.proofs.Wanted.{carried, stopped_still, told_caused, unknown_answer}
use Rattle.rnv_run.proofs.reporting.report_run.Goals as goal

pub do_run-requires-clause-planned : goal.do_run-requires-clause-planned
do_run-requires-clause-planned g c =
    let forge = c.args.forge.now in
    (c.in-Ok.ensures.planned.given, c.in-Ok.ensures.planned.by)

pub run_text-requires : goal.run_text-requires
run_text-requires g c = subst IsMoment (sym c.in-Ok.ensures.planned.at) c.requires.moment

pub returns-in-Ok-do_run-clause-any_moment : goal.returns-in-Ok-do_run-clause-any_moment
returns-in-Ok-do_run-clause-any_moment g c =
    let forge = c.args.forge.now in
    begun_of g.O.Folder.tells (g.O.Folder.files c.args.folder.now) c.args.name.now c.args.moment (g.F.Forge.writes forge) c.in-Ok.plan c.in-Ok.ensures.planned (g.F.Forge.limit forge) (g.F.Forge.past forge) (g.F.Forge.past c.do_run.new.forge) c.in-Ok-do_run.ensures.any_moment

pub returns-in-Ok-do_run-clause-done : goal.returns-in-Ok-do_run-clause-done
returns-in-Ok-do_run-clause-done g c =
    let forge = c.args.forge.now in
    printed_of g.O.Folder.tells (g.O.Folder.files c.args.folder.now) c.args.name.now c.args.moment (g.F.Forge.writes forge) c.in-Ok.plan c.in-Ok.ensures.planned (g.F.Forge.writes c.do_run.new.forge) c.in-Ok-run_text.text c.in-Ok-do_run.ensures.done (c.in-Ok-do_run.ensures.outcome c.in-Ok.ensures.planned.given c.in-Ok.ensures.planned.by) c.in-Ok-run_text.ensures

pub returns-in-Ok-do_run-clause-others : goal.returns-in-Ok-do_run-clause-others
returns-in-Ok-do_run-clause-others g c other ne =
    let forge = c.args.forge.now in
    c.in-Ok-do_run.ensures.others other (λ same. ne (same ∙ c.in-Ok.ensures.planned.named))

pub returns-in-Ok-do_run-clause-resumed : goal.returns-in-Ok-do_run-clause-resumed
returns-in-Ok-do_run-clause-resumed g c t start first given us vs wish s =
    let forge = c.args.forge.now in
    carried (λ f n. IsResumed f n start first us vs (g.F.Forge.writes c.do_run.new.forge)) c.in-Ok.ensures.planned.given given c.in-Ok.plan.repo.name c.args.name.now
    (same_of g.O.Folder.tells (g.O.Folder.files c.args.folder.now) c.args.name.now c.args.moment (g.F.Forge.writes forge) c.in-Ok.plan c.in-Ok.ensures.planned (g.F.Forge.prepared forge) (g.met.F.Forge.well_formed forge c.requires.holds) (g.met.F.Forge.permitted forge c.requires.holds) t start first given us vs wish s) c.in-Ok.ensures.planned.named
    (c.in-Ok-do_run.ensures.resumed c.in-Ok.ensures.planned.given c.in-Ok.ensures.planned.by start first us vs (stopped_of g.O.Folder.tells (g.O.Folder.files c.args.folder.now) c.args.name.now c.args.moment (g.F.Forge.writes forge) c.in-Ok.plan c.in-Ok.ensures.planned (g.F.Forge.prepared forge) (g.met.F.Forge.well_formed forge c.requires.holds) (g.met.F.Forge.permitted forge c.requires.holds) t start first given us vs wish s))

pub returns-in-Ok-do_run-clause-resumed_any_moment : goal.returns-in-Ok-do_run-clause-resumed_any_moment
returns-in-Ok-do_run-clause-resumed_any_moment g c t start first given us vs wish s =
    let forge = c.args.forge.now in
    c.in-Ok-do_run.ensures.resumed_any_moment c.in-Ok.ensures.planned.given c.in-Ok.ensures.planned.by start first us vs (stopped_of g.O.Folder.tells (g.O.Folder.files c.args.folder.now) c.args.name.now c.args.moment (g.F.Forge.writes forge) c.in-Ok.plan c.in-Ok.ensures.planned (g.F.Forge.prepared forge) (g.met.F.Forge.well_formed forge c.requires.holds) (g.met.F.Forge.permitted forge c.requires.holds) t start first given us vs wish s)

pub returns-in-Ok-do_run-clause-unknown : goal.returns-in-Ok-do_run-clause-unknown
returns-in-Ok-do_run-clause-unknown g c none =
    let forge = c.args.forge.now in
    absurd (not_unknown g.O.Folder.tells (g.O.Folder.files c.args.folder.now) c.args.name.now c.args.moment (g.F.Forge.writes forge) c.in-Ok.plan c.in-Ok.ensures.planned none)

pub returns-in-Err-do_run-clause-any_moment : goal.returns-in-Err-do_run-clause-any_moment
returns-in-Err-do_run-clause-any_moment g c =
    let forge = c.args.forge.now in
    begun_of g.O.Folder.tells (g.O.Folder.files c.args.folder.now) c.args.name.now c.args.moment (g.F.Forge.writes forge) c.in-Ok.plan c.in-Ok.ensures.planned (g.F.Forge.limit forge) (g.F.Forge.past forge) (g.F.Forge.past c.do_run.new.forge) c.in-Err-do_run.ensures.any_moment

pub returns-in-Err-do_run-clause-known : goal.returns-in-Err-do_run-clause-known
returns-in-Err-do_run-clause-known g c =
    let forge = c.args.forge.now in
    refused_there g.O.Folder.tells (g.O.Folder.files c.args.folder.now) c.args.name.now c.args.moment (g.F.Forge.writes forge) c.in-Ok.plan c.in-Ok.ensures.planned (g.F.Forge.limit forge) c.in-Err-do_run.error c.in-Err-do_run.ensures.refused

pub returns-in-Err-do_run-clause-refused : goal.returns-in-Err-do_run-clause-refused
returns-in-Err-do_run-clause-refused g c t =
    let forge = c.args.forge.now in
    caused_of g.O.Folder.tells (g.O.Folder.files c.args.folder.now) c.args.name.now c.args.moment (g.F.Forge.writes forge) c.in-Ok.plan c.in-Ok.ensures.planned t (g.F.Forge.limit forge) c.in-Err-do_run.error c.in-Err-do_run.ensures.refused

pub returns-in-Err-do_run-clause-resumed_any_moment : goal.returns-in-Err-do_run-clause-resumed_any_moment
returns-in-Err-do_run-clause-resumed_any_moment g c t start first given us vs wish s =
    let forge = c.args.forge.now in
    c.in-Err-do_run.ensures.resumed_any_moment c.in-Ok.ensures.planned.given c.in-Ok.ensures.planned.by start first us vs (stopped_of g.O.Folder.tells (g.O.Folder.files c.args.folder.now) c.args.name.now c.args.moment (g.F.Forge.writes forge) c.in-Ok.plan c.in-Ok.ensures.planned (g.F.Forge.prepared forge) (g.met.F.Forge.well_formed forge c.requires.holds) (g.met.F.Forge.permitted forge c.requires.holds) t start first given us vs wish s)

pub returns-in-Err-do_run-clause-unknown : goal.returns-in-Err-do_run-clause-unknown
returns-in-Err-do_run-clause-unknown g c none =
    let forge = c.args.forge.now in
    absurd (not_unknown g.O.Folder.tells (g.O.Folder.files c.args.folder.now) c.args.name.now c.args.moment (g.F.Forge.writes forge) c.in-Ok.plan c.in-Ok.ensures.planned none)

pub returns-in-Err-clause-any_moment : goal.returns-in-Err-clause-any_moment
returns-in-Err-clause-any_moment g c =
    let forge = c.args.forge.now in
    inl (still (g.F.Forge.limit forge) (g.F.Forge.past forge) (g.F.Forge.writes forge) (g.F.Forge.prepared forge) (g.met.F.Forge.well_formed forge c.requires.holds) (g.met.F.Forge.at_rest forge c.requires.holds c.requires.opened))

pub returns-in-Err-clause-other : goal.returns-in-Err-clause-other
returns-in-Err-clause-other g c =
    let forge = c.args.forge.now in
    one_self (g.F.Forge.past forge)

pub returns-in-Err-clause-unwritten : goal.returns-in-Err-clause-unwritten
returns-in-Err-clause-unwritten g c ne =
    let forge = c.args.forge.now in
    (refl, still (g.F.Forge.limit forge) (g.F.Forge.past forge) (g.F.Forge.writes forge) (g.F.Forge.prepared forge) (g.met.F.Forge.well_formed forge c.requires.holds) (g.met.F.Forge.at_rest forge c.requires.holds c.requires.opened))

pub returns-in-Err-clause-resumed_any_moment : goal.returns-in-Err-clause-resumed_any_moment
returns-in-Err-clause-resumed_any_moment g c t start first given us vs wish s =
    let forge = c.args.forge.now in
    stopped_still given c.args.name.now start first us vs (g.F.Forge.writes forge) s (g.F.Forge.limit forge) (g.F.Forge.past forge) (g.F.Forge.past forge)
    (still (g.F.Forge.limit forge) (g.F.Forge.past forge) (g.F.Forge.writes forge) (g.F.Forge.prepared forge) (g.met.F.Forge.well_formed forge c.requires.holds) (g.met.F.Forge.at_rest forge c.requires.holds c.requires.opened))

pub returns-in-Err-run_text-clause-any_moment : goal.returns-in-Err-run_text-clause-any_moment
returns-in-Err-run_text-clause-any_moment g c =
    let forge = c.args.forge.now in
    inl (still (g.F.Forge.limit forge) (g.F.Forge.past forge) (g.F.Forge.writes forge) (g.F.Forge.prepared forge) (g.met.F.Forge.well_formed forge c.requires.holds) (g.met.F.Forge.at_rest forge c.requires.holds c.requires.opened))

pub returns-in-Err-run_text-clause-other : goal.returns-in-Err-run_text-clause-other
returns-in-Err-run_text-clause-other g c =
    let forge = c.args.forge.now in
    one_self (g.F.Forge.past forge)

pub returns-in-Err-run_text-clause-unwritten : goal.returns-in-Err-run_text-clause-unwritten
returns-in-Err-run_text-clause-unwritten g c ne =
    let forge = c.args.forge.now in
    (refl, still (g.F.Forge.limit forge) (g.F.Forge.past forge) (g.F.Forge.writes forge) (g.F.Forge.prepared forge) (g.met.F.Forge.well_formed forge c.requires.holds) (g.met.F.Forge.at_rest forge c.requires.holds c.requires.opened))

pub returns-in-Err-run_text-clause-resumed_any_moment : goal.returns-in-Err-run_text-clause-resumed_any_moment
returns-in-Err-run_text-clause-resumed_any_moment g c t start first given us vs wish s =
    let forge = c.args.forge.now in
    stopped_still given c.args.name.now start first us vs (g.F.Forge.writes forge) s (g.F.Forge.limit forge) (g.F.Forge.past forge) (g.F.Forge.past forge)
    (still (g.F.Forge.limit forge) (g.F.Forge.past forge) (g.F.Forge.writes forge) (g.F.Forge.prepared forge) (g.met.F.Forge.well_formed forge c.requires.holds) (g.met.F.Forge.at_rest forge c.requires.holds c.requires.opened))

pub returns-in-Err-clause-unknown : goal.returns-in-Err-clause-unknown
returns-in-Err-clause-unknown g c none =
    let forge = c.args.forge.now in
    unknown_answer c.args.name.now (g.F.Forge.writes forge) _ c.in-Err.error refl (λ same. c.in-Err.ensures.disk (ap Err same)) c.in-Err.ensures.known none

pub returns-in-Err-clause-refused : goal.returns-in-Err-clause-refused
returns-in-Err-clause-refused g c t =
    let forge = c.args.forge.now in
    told_caused (g.O.Folder.files c.args.folder.now) c.args.name.now c.args.moment (g.F.Forge.limit forge) (g.F.Forge.writes forge) c.in-Err.error (c.in-Err.ensures.refused t)
