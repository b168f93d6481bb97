use Rattle.std.proofs.Common.{◌≡◌, suc, length, get_or, rules, arith, add-one}
use Rattle.rnv_journal.proofs.Places.{end_more, end_front}
use Rattle.rnv_journal.proofs.journal.end_behind.Goals as goal

pub overflow_add-offset-in-loop-entry : goal.overflow_add-offset-in-loop-entry
overflow_add-offset-in-loop-entry c =
    let entries = c.args.entries.now in
    let i = c.loop-entry.entry-index in
    let entry = c.entry-item.result in
    let is : get_or entries i entry ≡ entry = search rules in
    let bytes : length c.as_slice.result.now ≡ length (get_or entries i entry).bytes = search rules in
    omega (arith, c.loop-entry.invariant, bytes, end_more entries i entry (omega arith), end_front entries (suc i), c.requires)

pub loop-entry-preserved : goal.loop-entry-preserved
loop-entry-preserved c =
    let entries = c.args.entries.now in
    let i = c.loop-entry.entry-index in
    let entry = c.entry-item.result in
    let is : get_or entries i entry ≡ entry = search rules in
    let bytes : length c.as_slice.result.now ≡ length (get_or entries i entry).bytes = search rules in
    rw add-one (omega (arith, c.loop-entry.invariant, bytes, end_more entries i entry (omega arith)))
