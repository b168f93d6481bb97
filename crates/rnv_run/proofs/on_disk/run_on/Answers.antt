use Rattle.rnv_commands.proofs.Stops.{stored_of}
use Rattle.rnv_forge.proofs.Writes.{all_front}
use Rattle.rnv_repo.specs.WellFormed.{IsWellFormed}
use Rattle.rnv_journal.proofs.Ones.{one_then}
use Rattle.rnv_journal.proofs.Uses.{reading_now}
use Rattle.rnv_run.proofs.Disks.{ended_left, runs_as, runs_of, runs_refused, start_left}
use Rattle.rnv_run.proofs.on_disk.run_on.Goals as goal

pub returns-in-Ok-clause-runs : goal.returns-in-Ok-clause-runs
returns-in-Ok-clause-runs g c =
    runs_as _ _ _ _ _ _ _ _ _ _ c.ended.ensures
    (runs_of g.O.Folder.tells g.D.Disk.tells (g.O.Folder.files c.args.folder.now) _ _ _ _ c.args.name.now c.args.moment _ _
    c.in-Ok.ensures.any_moment (λ d. reading_now _ _ (g.D.Disk.seen c.args.disk) _ (g.met.D.Disk.reads_now c.args.disk d) (c.in-Ok.ensures.writes d))
    (λ d. stored_of _ _ _ _ (c.in-Ok.ensures.writes d) c.stands.ensures.well_formed c.stands.ensures.permitted)
    (λ t i left. g.met.D.Disk.only_told _ _ i left) (all_front IsWellFormed _ _ c.stands.ensures.well_formed) c.run_started-text.ensures.any_moment c.run_started-text.ensures.known
    c.run_started-text.ensures.unwritten c.run_started-text.ensures.ran c.run_started-text.ensures.refused c.run_started-text.ensures.resumed c.run_started-text.ensures.resumed_any_moment)

pub returns-in-Err-clause-runs : goal.returns-in-Err-clause-runs
returns-in-Err-clause-runs g c =
    runs_refused g.O.Folder.tells (g.O.Folder.files c.args.folder.now) g.D.Disk.tells _ _ _ c.args.name.now c.args.moment _ _ c.in-Err.ensures.any_moment_refused c.not_started.ensures c.in-Err.ensures.refused

pub returns-in-Ok-clause-other : goal.returns-in-Ok-clause-other
returns-in-Ok-clause-other g c = one_then _ _ _ c.in-Ok.ensures.other c.run_started-text.ensures.other

pub returns-in-Ok-clause-left : goal.returns-in-Ok-clause-left
returns-in-Ok-clause-left g c = λ t. ended_left _ _ c.ended.ensures _ _ _ _ _

pub returns-in-Err-clause-other : goal.returns-in-Err-clause-other
returns-in-Err-clause-other g c = c.in-Err.ensures.other_refused

pub returns-in-Err-clause-left : goal.returns-in-Err-clause-left
returns-in-Err-clause-left g c = λ t. start_left _ _ _ _ _ c.in-Err.field-0.error c.not_started.result c.not_started.ensures (c.in-Err.ensures.left t)
