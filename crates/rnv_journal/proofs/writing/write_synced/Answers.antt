use Rattle.std.proofs.Common.{length}
use Rattle.rnv_disk.proofs.Moments.{stays}
use Rattle.rnv_journal.proofs.Writes.{write_torn}
use Rattle.rnv_journal.proofs.Ones.{one_torn}
use Rattle.rnv_journal.proofs.writing.write_synced.Goals as goal

pub returns-clause-stops : goal.returns-clause-stops
returns-clause-stops g c =
    stays _ _ _ _ (write_torn _ _ c.args.at (length c.args.bytes.now) c.write_at.ensures.stops) c.sync.ensures.stops

pub returns-clause-other : goal.returns-clause-other
returns-clause-other g c =
    one_torn _ _ c.args.at (length c.args.bytes.now) (stays _ _ _ _ (write_torn _ _ c.args.at (length c.args.bytes.now) c.write_at.ensures.stops) c.sync.ensures.stops)
