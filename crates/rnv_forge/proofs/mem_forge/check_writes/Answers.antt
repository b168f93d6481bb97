use Rattle.rnv_forge.proofs.InMemory.{held_both, held_few, held_orderly}
use Rattle.rnv_forge.proofs.mem_forge.check_writes.Goals as goal

pub check_turns-requires-clause-few : goal.check_turns-requires-clause-few
check_turns-requires-clause-few c = held_few _ _ _ c.requires.holds

pub check_turns-requires-clause-standing : goal.check_turns-requires-clause-standing
check_turns-requires-clause-standing c = held_orderly _ _ _ c.requires.holds

pub returns-in-Ok-journal_length-clause-holds : goal.returns-in-Ok-journal_length-clause-holds
returns-in-Ok-journal_length-clause-holds c =
    held_both c.args.standing.now c.args.list.now c.args.limit c.in-Ok-journal_length.length c.requires.holds c.in-Ok.ensures.permitted c.in-Ok-journal_length.ensures c.in-Ok.ensures.well_formed
    c.if-length-limit.true
