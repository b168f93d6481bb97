use Rattle.rnv_journal.specs.Found.{strings}
use Rattle.rnv_forge.proofs.Preparing.{is_overfull, permitted_of, too_long_of}
use Rattle.rnv_forge.proofs.journal_forge.prepare_writes.Goals as goal

pub returns-in-Ok-checked_after-clause-full : goal.returns-in-Ok-checked_after-clause-full
returns-in-Ok-checked_after-clause-full c n most e =
    let held = c.args.journal.now in
    is_overfull held (strings c.in-Ok-checked_after.field-0.payloads) c.args.list n most c.requires.writes c.in-Ok-checked_after.ensures.spelled
    (permitted_of held c.prepare.new.self _ c.args.list c.in-Ok.ensures.ok c.in-Ok-checked_after.ensures.permitted)
    (too_long_of held c.prepare.new.self (strings c.in-Ok-checked_after.field-0.payloads) _ n most c.in-Ok.ensures.ok (c.prepare_payloads.ensures.full n most e))
