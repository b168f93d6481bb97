use Rattle.std.proofs.Common.{[]}
use Rattle.rnv_base.specs.Limits.{store_bytes}
use Rattle.rnv_commands.proofs.Printed.{if_err}
use Rattle.rnv_commands.proofs.Refusals.{if_done, not_shown, show_left, start_cause, start_folder, start_left, start_not_shown}
use Rattle.rnv_commands.proofs.Stops.{keeps_at, one_at, stored_of}
use Rattle.rnv_commands.proofs.on_disk.show_on.Goals as goal

pub returns-in-Ok-clause-shown : goal.returns-in-Ok-clause-shown
returns-in-Ok-clause-shown g c = λ t.
    if_done c.show_repo-text.result _ _
    (λ text shows. record { writes = _; stored = stored_of _ _ _ _ (c.in-Ok.ensures.writes t) c.stands.ensures.well_formed c.stands.ensures.permitted; shows = shows })
    c.show_repo-text.ensures.shown

pub returns-in-Ok-clause-refused : goal.returns-in-Ok-clause-refused
returns-in-Ok-clause-refused g c = λ t.
    if_err c.show_repo-text.result _ _
    (λ error refused. not_shown g.D.Disk.tells [] _ _ _ _ (stored_of _ _ _ _ (c.in-Ok.ensures.writes t) c.stands.ensures.well_formed c.stands.ensures.permitted) error refused)
    c.show_repo-text.ensures.refused

pub returns-in-Err-clause-refused : goal.returns-in-Err-clause-refused
returns-in-Err-clause-refused g c = λ t. start_not_shown g.D.Disk.tells [] _ _ _ c.in-Err.field-0.error c.not_started.result c.not_started.ensures (c.in-Err.ensures.refused t)

pub returns-in-Err-clause-never : goal.returns-in-Err-clause-never
returns-in-Err-clause-never g c = start_folder c.in-Err.field-0.error c.not_started.result c.not_started.ensures

pub returns-in-Err-clause-cause : goal.returns-in-Err-clause-cause
returns-in-Err-clause-cause g c = start_cause _ _ c.in-Err.field-0.error c.not_started.result c.not_started.ensures c.in-Err.ensures.cause

pub returns-in-Ok-clause-left : goal.returns-in-Ok-clause-left
returns-in-Ok-clause-left g c = λ t.
    if_err c.show_repo-text.result _ _
    (λ error refused. show_left _ _ _ _ _ (g.D.Disk.seen c.args.disk) _ (stored_of _ _ _ _ (c.in-Ok.ensures.writes t) c.stands.ensures.well_formed c.stands.ensures.permitted) c.args.name.now error refused)
    c.show_repo-text.ensures.refused

pub returns-in-Err-clause-left : goal.returns-in-Err-clause-left
returns-in-Err-clause-left g c = λ t. start_left _ _ _ _ _ c.in-Err.field-0.error c.not_started.result c.not_started.ensures (c.in-Err.ensures.left t)

pub returns-in-Ok-clause-other : goal.returns-in-Ok-clause-other
returns-in-Ok-clause-other g c = one_at g.D.Disk.past _ _ _ c.into_disk.ensures c.in-Ok.ensures.other

pub returns-in-Ok-clause-any_moment : goal.returns-in-Ok-clause-any_moment
returns-in-Ok-clause-any_moment g c = keeps_at g.D.Disk.past store_bytes _ _ _ c.into_disk.ensures c.in-Ok.ensures.any_moment

pub returns-in-Err-clause-any_moment : goal.returns-in-Err-clause-any_moment
returns-in-Err-clause-any_moment g c = c.in-Err.ensures.any_moment_refused

pub returns-in-Err-clause-other : goal.returns-in-Err-clause-other
returns-in-Err-clause-other g c = c.in-Err.ensures.other_refused
