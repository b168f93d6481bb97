use Rattle.rnv_base.specs.Limits.{store_bytes}
use Rattle.rnv_commands.proofs.Stops.{leaves_at, one_at, rest_at}
use Rattle.rnv_run.proofs.Begun.{begins_at}
use Rattle.rnv_run.proofs.Disks.{finished_from, leaves_run, room_at}
use Rattle.rnv_run.proofs.Wanted.{on_ok}
use Rattle.rnv_run.specs.Repository.{IsRun}
use Rattle.rnv_run.proofs.on_disk.run_started.Goals as goal

pub returns-clause-any_moment : goal.returns-clause-any_moment
returns-clause-any_moment g c =
    begins_at store_bytes (IsRun g.O.Folder.tells (g.O.Folder.files c.args.folder.now) c.args.name.now c.args.moment) g.D.Disk.past _ _ _ _ _ c.requires.limit c.into_disk.ensures c.report_run-text.ensures.any_moment

pub returns-clause-ran : goal.returns-clause-ran
returns-clause-ran g c =
    leaves_run c.report_run-text.result g.O.Folder.tells (g.O.Folder.files c.args.folder.now) c.args.name.now c.args.moment store_bytes _ _ _ c.report_run-text.ensures.done
    (on_ok c.report_run-text.result _ _ (λ rest. rest_at g.D.Disk.past _ store_bytes _ _ _ c.requires.limit c.into_disk.ensures rest) c.report_run-text.ensures.at_rest)
    (on_ok c.report_run-text.result _ _ (λ most. room_at _ _ store_bytes c.requires.limit most) c.report_run-text.ensures.room)

pub returns-clause-resumed : goal.returns-clause-resumed
returns-clause-resumed g c t start first given us vs wish s =
    finished_from c.report_run-text.result store_bytes _ g.O.Folder.tells (g.O.Folder.files c.args.folder.now) c.args.name.now c.args.moment start first given us vs _ _ s
    (c.report_run-text.ensures.resumed t start first given us vs wish s) c.report_run-text.ensures.done
    (on_ok c.report_run-text.result _ _ (λ rest. rest_at g.D.Disk.past _ store_bytes _ _ _ c.requires.limit c.into_disk.ensures rest) c.report_run-text.ensures.at_rest)
    (on_ok c.report_run-text.result _ _ (λ most. room_at _ _ store_bytes c.requires.limit most) c.report_run-text.ensures.room)

pub returns-clause-resumed_any_moment : goal.returns-clause-resumed_any_moment
returns-clause-resumed_any_moment g c t start first given us vs wish s =
    leaves_at g.D.Disk.past _ store_bytes _ _ _ _ c.requires.limit c.into_disk.ensures (c.report_run-text.ensures.resumed_any_moment t start first given us vs wish s)

pub returns-clause-other : goal.returns-clause-other
returns-clause-other g c = one_at g.D.Disk.past _ _ _ c.into_disk.ensures c.report_run-text.ensures.other
