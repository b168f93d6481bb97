use Rattle.rnv_base.specs.Limits.{store_bytes}
use Rattle.rnv_commands.proofs.Printed.{if_err}
use Rattle.rnv_commands.proofs.Refusals.{if_done, import_left, not_imported, start_cause, start_folder, start_left, start_not_imported, folder_still}
use Rattle.rnv_commands.proofs.Stops.{keeps_still, or_import, reads_or_import, stored_of}
use Rattle.rnv_journal.proofs.Ones.{one_then}
use Rattle.rnv_journal.proofs.Uses.{reading_now}
use Rattle.rnv_commands.proofs.on_disk.import_on.Goals as goal

pub returns-in-Ok-clause-any_moment : goal.returns-in-Ok-clause-any_moment
returns-in-Ok-clause-any_moment g c =
    reads_or_import store_bytes g.D.Disk.tells _ _ _ _ c.in-Ok.ensures.any_moment (λ t. reading_now _ _ (g.D.Disk.seen c.args.disk) _ (g.met.D.Disk.reads_now c.args.disk t) (c.in-Ok.ensures.writes t))
    (λ t i left. g.met.D.Disk.only_told _ _ i left) _ _ _ c.import_started.ensures.any_moment

pub returns-in-Ok-clause-unwritten : goal.returns-in-Ok-clause-unwritten
returns-in-Ok-clause-unwritten g c =
    if_err c.import_started.result.text _ _
    (λ error run ne. keeps_still store_bytes g.D.Disk.tells _ _ _ _ c.in-Ok.ensures.any_moment (λ t. reading_now _ _ (g.D.Disk.seen c.args.disk) _ (g.met.D.Disk.reads_now c.args.disk t) (c.in-Ok.ensures.writes t))
    (λ t i left. g.met.D.Disk.only_told _ _ i left) (run ne))
    c.import_started.ensures.unwritten

pub returns-in-Ok-clause-imported : goal.returns-in-Ok-clause-imported
returns-in-Ok-clause-imported g c = λ t.
    if_done c.import_started.result.text _ _
    (λ text leaves. record { old = _; stored = stored_of _ _ _ _ (c.in-Ok.ensures.writes t) c.stands.ensures.well_formed c.stands.ensures.permitted; imported = leaves })
    c.import_started.ensures.imported

pub returns-in-Ok-clause-refused : goal.returns-in-Ok-clause-refused
returns-in-Ok-clause-refused g c = λ t.
    if_err c.import_started.result.text _ _
    (λ error refused. not_imported _ _ _ _ _ _ (stored_of _ _ _ _ (c.in-Ok.ensures.writes t) c.stands.ensures.well_formed c.stands.ensures.permitted) error refused)
    c.import_started.ensures.refused

pub returns-in-Err-clause-any_moment : goal.returns-in-Err-clause-any_moment
returns-in-Err-clause-any_moment g c = or_import _ _ _ _ _ _ c.in-Err.ensures.any_moment_refused

pub returns-in-Err-clause-refused : goal.returns-in-Err-clause-refused
returns-in-Err-clause-refused g c = λ t. start_not_imported _ _ _ _ _ c.in-Err.field-0.error c.not_started.result c.not_started.ensures (c.in-Err.ensures.refused t)

pub returns-in-Err-clause-disk_cause : goal.returns-in-Err-clause-disk_cause
returns-in-Err-clause-disk_cause g c = start_cause _ _ c.in-Err.field-0.error c.not_started.result c.not_started.ensures c.in-Err.ensures.cause

pub returns-in-Err-clause-folder_cause : goal.returns-in-Err-clause-folder_cause
returns-in-Err-clause-folder_cause g c = folder_still _ c.not_started.result (start_folder c.in-Err.field-0.error c.not_started.result c.not_started.ensures)

pub returns-in-Ok-clause-other : goal.returns-in-Ok-clause-other
returns-in-Ok-clause-other g c = one_then _ _ _ c.in-Ok.ensures.other c.import_started.ensures.other

pub returns-in-Ok-clause-left : goal.returns-in-Ok-clause-left
returns-in-Ok-clause-left g c = λ t. if_err c.import_started.result.text _ _ (λ error refused. import_left _ _ _ _ _ _ _ _ _ _ error refused) c.import_started.ensures.refused

pub returns-in-Err-clause-left : goal.returns-in-Err-clause-left
returns-in-Err-clause-left g c = λ t. start_left _ _ _ _ _ c.in-Err.field-0.error c.not_started.result c.not_started.ensures (c.in-Err.ensures.left t)

pub returns-in-Err-clause-unwritten : goal.returns-in-Err-clause-unwritten
returns-in-Err-clause-unwritten g c = λ ne. c.in-Err.ensures.any_moment_refused

pub returns-in-Err-clause-other : goal.returns-in-Err-clause-other
returns-in-Err-clause-other g c = c.in-Err.ensures.other_refused
