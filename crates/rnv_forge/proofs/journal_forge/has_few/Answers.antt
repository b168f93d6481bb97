use Rattle.rnv_forge.proofs.Preparing.{few}
use Rattle.rnv_forge.proofs.journal_forge.has_few.Goals as goal

pub returns : goal.returns
returns c =
    let held = c.args.journal.now in
    few held.entries held.prepared held.limit c.length.ensures.within c.requires
