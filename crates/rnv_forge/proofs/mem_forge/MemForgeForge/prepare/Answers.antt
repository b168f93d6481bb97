use Rattle.std.proofs.Common.{◌∙◌}
use Rattle.rnv_forge.proofs.InMemory.{held_alone, held_front}
use Rattle.rnv_forge.proofs.mem_forge.MemForgeForge.prepare.Goals as goal

pub returns-then-self-clause-holds : goal.returns-then-self-clause-holds
returns-then-self-clause-holds c = held_front _ _ _ c.requires.holds _ c.truncate.ensures.items

pub check_writes-requires-clause-holds : goal.check_writes-requires-clause-holds
check_writes-requires-clause-holds c = held_alone _ _ _ c.requires.holds _ (c.as_slice.ensures.value ∙ c.truncate.ensures.items)

pub returns-in_err-check_writes-clause-holds : goal.returns-in_err-check_writes-clause-holds
returns-in_err-check_writes-clause-holds c = held_front _ _ _ c.requires.holds _ c.truncate.ensures.items

pub returns-clause-holds : goal.returns-clause-holds
returns-clause-holds c = held_front _ _ _ c.requires.holds _ (c.in-Err.ensures.items ∙ c.truncate.ensures.items)
