use Rattle.std.proofs.Common.{◌≡◌, length, ap, sym, ◌∙◌, arith, add-one}
use Rattle.rnv_spelling.specs.Spelling.{spelling}
use Rattle.rnv_forge.proofs.InMemory.{lengthened_more}
use Rattle.rnv_forge.proofs.mem_forge.lengthened.Goals as goal

pub loop-write-preserved : goal.loop-write-preserved
loop-write-preserved c =
    let more = lengthened_more c.args.before c.loop-write.length c.args.writes.now c.loop-write.write-index c.write-item.result c.loop-write-test.true (sym c.write-item.is) c.loop-write.invariant in
    let spelled : length c.as_slice.result.now ≡ length (spelling c.write-item.result) = ap length (c.as_slice.ensures ∙ c.in_ok-payload.ensures) in
    rw add-one (omega (arith, more, spelled, c.saturating_add.ensures, c.saturating_add-length.ensures))
