use Rattle.std.proofs.Common.{inl, refl, ap, ◌∙◌, Err, OnOk}
use Rattle.rnv_journal.proofs.Ones.{one_self}
use Rattle.rnv_run.specs.Run.{IsResumed}
use Rattle.rnv_run.proofs.Planned.{begun_of, caused_of, made_from, not_unknown, refused_there, same_of, stopped_of}
use Rattle.rnv_run.proofs.Turns.{still}
use Rattle.rnv_run.proofs.Wanted.{carried, if_err, on_ok, stopped_still, told_caused, unknown_answer}
use Rattle.rnv_run.proofs.repository.run_repo.Goals as goal

pub do_run-requires-clause-planned : goal.do_run-requires-clause-planned
do_run-requires-clause-planned g c =
    let forge = c.args.forge.now in
    (c.in-Ok.ensures.planned.given, c.in-Ok.ensures.planned.by)

pub returns-in-Ok-clause-any_moment : goal.returns-in-Ok-clause-any_moment
returns-in-Ok-clause-any_moment g c =
    let forge = c.args.forge.now in
    begun_of g.O.Folder.tells (g.O.Folder.files c.args.folder.now) c.args.name.now c.args.moment (g.F.Forge.writes forge) c.in-Ok.plan c.in-Ok.ensures.planned (g.F.Forge.limit forge) (g.F.Forge.past forge) (g.F.Forge.past c.do_run.new.forge) c.do_run.ensures.any_moment

pub returns-in-Ok-clause-done : goal.returns-in-Ok-clause-done
returns-in-Ok-clause-done g c =
    let forge = c.args.forge.now in
    made_from g.O.Folder.tells (g.O.Folder.files c.args.folder.now) c.args.name.now c.args.moment (g.F.Forge.writes forge) c.in-Ok.plan c.in-Ok.ensures.planned c.do_run.result (g.F.Forge.writes c.do_run.new.forge) c.do_run.ensures.did c.do_run.ensures.done (c.do_run.ensures.outcome c.in-Ok.ensures.planned.given c.in-Ok.ensures.planned.by)

pub returns-in-Ok-clause-others : goal.returns-in-Ok-clause-others
returns-in-Ok-clause-others g c =
    let forge = c.args.forge.now in
    on_ok c.do_run.result _ _ (λ stay other ne. stay other (λ same. ne (same ∙ c.in-Ok.ensures.planned.named))) c.do_run.ensures.others

pub returns-in-Ok-clause-known : goal.returns-in-Ok-clause-known
returns-in-Ok-clause-known g c =
    let forge = c.args.forge.now in
    if_err c.do_run.result _ _ (λ error refused. refused_there g.O.Folder.tells (g.O.Folder.files c.args.folder.now) c.args.name.now c.args.moment (g.F.Forge.writes forge) c.in-Ok.plan c.in-Ok.ensures.planned (g.F.Forge.limit forge) error refused) c.do_run.ensures.refused

pub returns-in-Ok-clause-refused : goal.returns-in-Ok-clause-refused
returns-in-Ok-clause-refused g c t =
    let forge = c.args.forge.now in
    if_err c.do_run.result _ _ (λ error refused. caused_of g.O.Folder.tells (g.O.Folder.files c.args.folder.now) c.args.name.now c.args.moment (g.F.Forge.writes forge) c.in-Ok.plan c.in-Ok.ensures.planned t (g.F.Forge.limit forge) error refused) c.do_run.ensures.refused

pub returns-in-Ok-clause-resumed : goal.returns-in-Ok-clause-resumed
returns-in-Ok-clause-resumed g c t start first given us vs wish s =
    let forge = c.args.forge.now in
    carried (λ f n. OnOk c.do_run.result (IsResumed f n start first us vs (g.F.Forge.writes c.do_run.new.forge))) c.in-Ok.ensures.planned.given given c.in-Ok.plan.repo.name c.args.name.now
    (same_of g.O.Folder.tells (g.O.Folder.files c.args.folder.now) c.args.name.now c.args.moment (g.F.Forge.writes forge) c.in-Ok.plan c.in-Ok.ensures.planned (g.F.Forge.prepared forge) (g.met.F.Forge.well_formed forge c.requires.holds) (g.met.F.Forge.permitted forge c.requires.holds) t start first given us vs wish s) c.in-Ok.ensures.planned.named
    (c.do_run.ensures.resumed c.in-Ok.ensures.planned.given c.in-Ok.ensures.planned.by start first us vs (stopped_of g.O.Folder.tells (g.O.Folder.files c.args.folder.now) c.args.name.now c.args.moment (g.F.Forge.writes forge) c.in-Ok.plan c.in-Ok.ensures.planned (g.F.Forge.prepared forge) (g.met.F.Forge.well_formed forge c.requires.holds) (g.met.F.Forge.permitted forge c.requires.holds) t start first given us vs wish s))

pub returns-in-Ok-clause-resumed_any_moment : goal.returns-in-Ok-clause-resumed_any_moment
returns-in-Ok-clause-resumed_any_moment g c t start first given us vs wish s =
    let forge = c.args.forge.now in
    c.do_run.ensures.resumed_any_moment c.in-Ok.ensures.planned.given c.in-Ok.ensures.planned.by start first us vs (stopped_of g.O.Folder.tells (g.O.Folder.files c.args.folder.now) c.args.name.now c.args.moment (g.F.Forge.writes forge) c.in-Ok.plan c.in-Ok.ensures.planned (g.F.Forge.prepared forge) (g.met.F.Forge.well_formed forge c.requires.holds) (g.met.F.Forge.permitted forge c.requires.holds) t start first given us vs wish s)

pub returns-in-Ok-clause-unknown : goal.returns-in-Ok-clause-unknown
returns-in-Ok-clause-unknown g c none =
    let forge = c.args.forge.now in
    absurd (not_unknown g.O.Folder.tells (g.O.Folder.files c.args.folder.now) c.args.name.now c.args.moment (g.F.Forge.writes forge) c.in-Ok.plan c.in-Ok.ensures.planned none)

pub returns-in-Err-clause-any_moment : goal.returns-in-Err-clause-any_moment
returns-in-Err-clause-any_moment g c =
    let forge = c.args.forge.now in
    inl (still (g.F.Forge.limit forge) (g.F.Forge.past forge) (g.F.Forge.writes forge) (g.F.Forge.prepared forge) (g.met.F.Forge.well_formed forge c.requires.holds) (g.met.F.Forge.at_rest forge c.requires.holds c.requires.opened))

pub returns-in-Err-clause-other : goal.returns-in-Err-clause-other
returns-in-Err-clause-other g c =
    let forge = c.args.forge.now in
    one_self (g.F.Forge.past forge)

pub returns-in-Err-clause-unwritten : goal.returns-in-Err-clause-unwritten
returns-in-Err-clause-unwritten g c ne =
    let forge = c.args.forge.now in
    (refl, still (g.F.Forge.limit forge) (g.F.Forge.past forge) (g.F.Forge.writes forge) (g.F.Forge.prepared forge) (g.met.F.Forge.well_formed forge c.requires.holds) (g.met.F.Forge.at_rest forge c.requires.holds c.requires.opened))

pub returns-in-Err-clause-resumed_any_moment : goal.returns-in-Err-clause-resumed_any_moment
returns-in-Err-clause-resumed_any_moment g c t start first given us vs wish s =
    let forge = c.args.forge.now in
    stopped_still given c.args.name.now start first us vs (g.F.Forge.writes forge) s (g.F.Forge.limit forge) (g.F.Forge.past forge) (g.F.Forge.past forge)
    (still (g.F.Forge.limit forge) (g.F.Forge.past forge) (g.F.Forge.writes forge) (g.F.Forge.prepared forge) (g.met.F.Forge.well_formed forge c.requires.holds) (g.met.F.Forge.at_rest forge c.requires.holds c.requires.opened))

pub returns-in-Err-clause-unknown : goal.returns-in-Err-clause-unknown
returns-in-Err-clause-unknown g c none =
    let forge = c.args.forge.now in
    unknown_answer c.args.name.now (g.F.Forge.writes forge) _ c.in-Err.error refl (λ same. c.in-Err.ensures.disk (ap Err same)) c.in-Err.ensures.known none

pub returns-in-Err-clause-refused : goal.returns-in-Err-clause-refused
returns-in-Err-clause-refused g c t =
    let forge = c.args.forge.now in
    told_caused (g.O.Folder.files c.args.folder.now) c.args.name.now c.args.moment (g.F.Forge.limit forge) (g.F.Forge.writes forge) c.in-Err.error (c.in-Err.ensures.refused t)
