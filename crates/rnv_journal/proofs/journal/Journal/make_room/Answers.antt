use Rattle.std.proofs.Common.{arith, ap}
use Rattle.rnv_journal.specs.Found.{strings}
use Rattle.rnv_journal.specs.Held.{Held}
use Rattle.rnv_journal.proofs.Held.{part_short, counted_append}
use Rattle.rnv_journal.proofs.Wrong.{least_end}
use Rattle.rnv_journal.proofs.journal.Journal.make_room.Goals as goal

pub lines-requires : goal.lines-requires
lines-requires c k d less =
    let limit = ap (λ (h : Held). h.limit) c.self.view_is in
    let entries = c.args.self.now.entries in
    omega (arith, part_short c.args.list k d less, counted_append entries (strings c.args.list), least_end entries, c.requires.within, c.self.invariant.small, limit)
