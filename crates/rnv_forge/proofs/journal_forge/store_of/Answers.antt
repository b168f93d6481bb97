use Rattle.std.proofs.Common.{◌≤◌, length, ap, arith}
use Rattle.rnv_forge.proofs.Folding.{strings_length}
use Rattle.rnv_forge.proofs.Preparing.{few}
use Rattle.rnv_forge.proofs.journal_forge.store_of.Goals as goal

pub stored-requires : goal.stored-requires
stored-requires c =
    let held = c.args.journal.now in
    let least : length held.entries ≤ 900000000 = few held.entries held.prepared held.limit c.length.ensures.within c.requires.small in
    omega (arith, least, strings_length c.entries.result.now, ap length c.entries.ensures)
