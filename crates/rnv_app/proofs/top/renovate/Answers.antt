use Rattle.rnv_base.specs.Causes.{Rose}
use Rattle.rnv_app.proofs.Ends.{damaged_at, disk_at, error_of, folder_at, part_at, refused_line, run_complete, run_exactly, status_of}
use Rattle.rnv_app.proofs.Answers.{causes_is, complete_is, exactly_is, import_is, in_part_is, named_is, plan_same, printed_is, run_is, show_is, store_damaged, usage_is, usage_same}
use Rattle.rnv_app.proofs.Stores.{import_complete, import_exactly, left_at, run_unknown, show_complete, show_exactly}
use Rattle.rnv_app.proofs.top.renovate.Goals as goal

pub returns-clause-statuses : goal.returns-clause-statuses
returns-clause-statuses g c = status_of _ _ _ _ _ _ _ c.tell-code.ensures.told

pub returns-clause-usage : goal.returns-clause-usage
returns-clause-usage g c = usage_is _ _ _ c.answer_to-text.ensures.answered _ _ _ _ _ _ c.tell-code.ensures.told

pub returns-clause-folder_fault : goal.returns-clause-folder_fault
returns-clause-folder_fault g c = λ e. c.answer_to-text.ensures.folder_cause.failed (error_of _ _ (folder_at _ _ _ _ _ _ _ c.tell-code.ensures.told e))

pub returns-clause-disk_fault : goal.returns-clause-disk_fault
returns-clause-disk_fault g c = λ e. c.answer_to-text.ensures.disk_cause.failed (error_of _ _ (disk_at _ _ _ _ _ _ _ c.tell-code.ensures.told e))

pub returns-clause-write_fault : goal.returns-clause-write_fault
returns-clause-write_fault g c = λ e. (part_at _ _ _ _ _ _ _ c.tell-code.ensures.told e).2

pub returns-clause-causes : goal.returns-clause-causes
returns-clause-causes g c = causes_is _ _ _ c.answer_to-text.ensures.answered _ _ _ _ _ _ c.tell-code.ensures.told

pub returns-clause-exactly : goal.returns-clause-exactly
returns-clause-exactly g c = exactly_is _ _ _ c.answer_to-text.ensures.answered _ _ _ _ _ _ c.tell-code.ensures.told

pub returns-clause-complete : goal.returns-clause-complete
returns-clause-complete g c = complete_is _ _ _ c.answer_to-text.ensures.answered _ _ _ _ _ _ c.tell-code.ensures.told _ _ c.answer_to-text.ensures.folder_cause

pub returns-clause-printed : goal.returns-clause-printed
returns-clause-printed g c = printed_is _ _ _ c.answer_to-text.ensures.answered _ _ _ _ _ _ c.tell-code.ensures.told

pub returns-clause-in_part : goal.returns-clause-in_part
returns-clause-in_part g c = in_part_is _ _ _ c.answer_to-text.ensures.answered _ _ _ _ _ _ c.tell-code.ensures.told

pub returns-clause-named : goal.returns-clause-named
returns-clause-named g c = named_is _ _ _ c.answer_to-text.ensures.answered _ _ _ _ _ _ c.tell-code.ensures.told

pub returns-clause-refused : goal.returns-clause-refused
returns-clause-refused g c = λ k. refused_line _ _ _ _ _ _ _ c.tell-code.ensures.told k

pub returns-clause-plan_alone : goal.returns-clause-plan_alone
returns-clause-plan_alone g c = plan_same _ _ _ c.answer_to-text.ensures.answered

pub returns-clause-import : goal.returns-clause-import
returns-clause-import g c = import_is _ _ _ c.answer_to-text.ensures.answered _ _ _ _ _ _ c.tell-code.ensures.told

pub returns-clause-show : goal.returns-clause-show
returns-clause-show g c = show_is _ _ _ c.answer_to-text.ensures.answered _ _ _ _ _ _ c.tell-code.ensures.told

pub returns-clause-run : goal.returns-clause-run
returns-clause-run g c = run_is _ _ _ c.answer_to-text.ensures.answered _ _ _ _ _ _ c.tell-code.ensures.told

pub returns-clause-run_complete : goal.returns-clause-run_complete
returns-clause-run_complete g c = λ repo now asked t d free.
    run_complete _ repo now _ _ _ _ _ _ (Rose _ _) (Rose _ _) (run_is _ _ _ c.answer_to-text.ensures.answered _ _ _ _ _ _ c.tell-code.ensures.told repo now asked) t d free
    (λ e. c.answer_to-text.ensures.folder_cause.failed (error_of _ _ (folder_at _ _ _ _ _ _ _ c.tell-code.ensures.told e)))
    (λ e. c.answer_to-text.ensures.disk_cause.failed (error_of _ _ (disk_at _ _ _ _ _ _ _ c.tell-code.ensures.told e)))

pub returns-clause-run_exactly : goal.returns-clause-run_exactly
returns-clause-run_exactly g c = λ repo now asked t d error cause.
    run_exactly _ repo now _ _ _ _ _ _ (run_is _ _ _ c.answer_to-text.ensures.answered _ _ _ _ _ _ c.tell-code.ensures.told repo now asked) t d error cause

pub returns-clause-damaged : goal.returns-clause-damaged
returns-clause-damaged g c = λ repo asked d offset damaged. store_damaged _ _ _ c.answer_to-text.ensures.answered _ _ _ _ _ _ c.tell-code.ensures.told d repo asked offset damaged

pub returns-clause-import_complete : goal.returns-clause-import_complete
returns-clause-import_complete g c = λ repo asked t d free.
    import_complete _ repo _ _ _ _ _ _ (import_is _ _ _ c.answer_to-text.ensures.answered _ _ _ _ _ _ c.tell-code.ensures.told repo asked) d t (Rose _ _) (Rose _ _) free
    (λ e. c.answer_to-text.ensures.folder_cause.failed (error_of _ _ (folder_at _ _ _ _ _ _ _ c.tell-code.ensures.told e)))
    (λ e. c.answer_to-text.ensures.disk_cause.failed (error_of _ _ (disk_at _ _ _ _ _ _ _ c.tell-code.ensures.told e)))

pub returns-clause-import_exactly : goal.returns-clause-import_exactly
returns-clause-import_exactly g c = λ repo asked t d error cause.
    import_exactly _ repo _ _ _ _ _ _ (import_is _ _ _ c.answer_to-text.ensures.answered _ _ _ _ _ _ c.tell-code.ensures.told repo asked) d t error cause

pub returns-clause-show_complete : goal.returns-clause-show_complete
returns-clause-show_complete g c = λ repo asked d free.
    show_complete _ repo _ _ _ _ _ _ (show_is _ _ _ c.answer_to-text.ensures.answered _ _ _ _ _ _ c.tell-code.ensures.told repo asked) d (Rose _ _) free
    (λ e. c.answer_to-text.ensures.disk_cause.failed (error_of _ _ (disk_at _ _ _ _ _ _ _ c.tell-code.ensures.told e)))

pub returns-clause-show_exactly : goal.returns-clause-show_exactly
returns-clause-show_exactly g c = λ repo asked d lacks.
    show_exactly _ repo _ _ _ _ _ _ (show_is _ _ _ c.answer_to-text.ensures.answered _ _ _ _ _ _ c.tell-code.ensures.told repo asked) d lacks

pub returns-clause-run_unknown : goal.returns-clause-run_unknown
returns-clause-run_unknown g c = λ repo now asked d lacks.
    run_unknown _ repo _ _ _ _ _ _ now (run_is _ _ _ c.answer_to-text.ensures.answered _ _ _ _ _ _ c.tell-code.ensures.told repo now asked) d lacks

pub returns-clause-usage_alone : goal.returns-clause-usage_alone
returns-clause-usage_alone g c = usage_same _ _ _ c.answer_to-text.ensures.answered _ _ _ _ _ _ c.tell-code.ensures.told

pub returns-clause-left : goal.returns-clause-left
returns-clause-left g c = λ d e.
    let at = damaged_at _ _ _ _ _ _ _ c.tell-code.ensures.told e in
    left_at _ _ _ _ _ at.0 at.1 (c.answer_to-text.ensures.left d)
