use Rattle.std.proofs.Common.{length, drop, ◌-◌, arith, length-drop}
use Rattle.std.proofs.lemmas.List.{take_all}
use Rattle.rnv_base.proofs.Prefix.{written_on}
use Rattle.rnv_base.proofs.writing.write_all.Goals as goal

pub loop-at-preserved : goal.loop-at-preserved
loop-at-preserved g c =
    let piece = take_all (length c.args.bytes.now - c.loop-at.at) (drop c.loop-at.at c.args.bytes.now) (omega (arith, length-drop c.loop-at.at c.args.bytes.now)) in
    let within = rw piece at c.in_ok-at.ensures.within in
    record {
      within = omega (arith, length-drop c.loop-at.at c.args.bytes.now, within);
      bytes = λ t. written_on _ _ _ _ _ c.loop-at.at c.in_ok-at.field-0 (c.loop-at.invariant.bytes t) piece (c.in_ok-at.ensures.bytes t);
      later = omega (arith, c.in_ok-at.ensures.cause.later, c.loop-at.invariant.later);
    }
