use Rattle.rnv_forge.proofs.InMemory.{lengthened_both}
use Rattle.rnv_forge.proofs.mem_forge.journal_length.Goals as goal

pub returns : goal.returns
returns c = lengthened_both c.args.standing.now c.args.list.now _ _ c.in_ok-length.ensures c.in_ok-length-2.ensures
