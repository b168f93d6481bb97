use Rattle.std.proofs.Common.{arith, refl}
use Rattle.rnv_manager.proofs.Differences.{same-more, differs-at-end}
use Rattle.rnv_manager.proofs.difference.first_difference.Goals as goal

pub loop-i-preserved : goal.loop-i-preserved
loop-i-preserved c =
    let here = c.in-Some.ensures.lookup.3.0 in
    record {
      within = omega arith;
      same = same-more c.args.expected.now c.args.actual.now c.loop-i.i _ c.in-Some.found.now c.loop-i.invariant.same c.loop-i-test.true here c.in-Some.ensures.lookup.1 (c.if-is_same.ensures.0 refl);
    }

pub returns-then-expected-actual-clause-some : goal.returns-then-expected-actual-clause-some
returns-then-expected-actual-clause-some c =
    differs-at-end c.args.expected.now c.args.actual.now c.loop-i.i (omega (arith, c.loop-i-test.false)) c.loop-i.invariant.same c.if-expected-actual.true
