use Rattle.std.proofs.Common.{◌≡◌, ◌++◌, ◌∷◌, [], get_or, rules, arith}
use Rattle.rnv_checkout.proofs.Outcomes.{each_more, placed_more}
use Rattle.rnv_checkout.proofs.reading.gathered.Goals as goal

pub loop-path-preserved : goal.loop-path-preserved
loop-path-preserved g c =
    let paths = c.args.paths.now in
    let i = c.loop-path.path-index in
    let path = c.path-item.result in
    let here : path ≡ get_or paths i path = search rules in
    record {
      each = λ t.
          let so_far = c.loop-path.invariant.each t in (
            so_far.0 ++ c.in_ok-outcome.outcome ∷ [],
            c.in_ok-take.ensures.taken so_far.0 so_far.1,
            each_more (g.O.Folder.files c.args.folder.now) (g.O.Folder.files c.loop-path.folder) c.args.front.now paths i path c.as_str.result.now so_far.0 c.in_ok-outcome.outcome so_far.2
                (c.loop-path.invariant.same t) c.as_str.ensures here (omega (arith, c.loop-path-test.true)) (c.in_ok-outcome.ensures.outcome t),
          );
      placed =
          let so_far = c.loop-path.invariant.placed in (
            so_far.0 ++ c.in_ok-outcome.outcome ∷ [],
            c.in_ok-take.ensures.taken so_far.0 so_far.1,
            placed_more c.args.front.now paths i path c.as_str.result.now so_far.0 c.in_ok-outcome.outcome so_far.2 c.as_str.ensures here (omega (arith, c.loop-path-test.true)) c.in_ok-outcome.ensures.placed,
          );
      few = omega (arith, c.take.ensures.passed, c.loop-path.invariant.few);
      same = λ t. search rules;
      later = omega (arith, c.loop-path.invariant.later, c.kept_file.ensures.cause.later);
    }
