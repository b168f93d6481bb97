use Rattle.std.proofs.Common.{◌≡◌, ◌+◌, take, length, get_or, rules, arith, add-one}
use Rattle.rnv_journal.proofs.Places.{end_more}
use Rattle.rnv_journal.proofs.Wrong.{least_end}
use Rattle.rnv_journal.specs.File.{end_of}
use Rattle.rnv_journal.specs.Found.{strings}
use Rattle.rnv_journal.proofs.line.length_after.Goals as goal

pub loop-payload-preserved : goal.loop-payload-preserved
loop-payload-preserved c =
    let list = c.args.list.now in
    let i = c.loop-payload.payload-index in
    let payload = c.payload-item.result in
    let is : get_or list i payload ≡ payload = search rules in
    let bytes : length c.as_slice.result.now ≡ length (get_or list i payload).bytes = search rules in
    let more : end_of (strings (take (i + 1) list)) ≡ end_of (strings (take i list)) + (5 + length (get_or list i payload).bytes) = rw add-one (end_more list i payload (omega arith)) in
    omega (arith, c.loop-payload.invariant, bytes, c.saturating_add.ensures, c.saturating_add-length-in-loop-payload.ensures, more, least_end (strings (take i list)))
