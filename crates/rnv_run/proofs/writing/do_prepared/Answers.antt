use Rattle.std.proofs.Common.{◌<◌, ◌≤◌, ◌∙◌, length, map, refl, sym, subst, arith, add-one}
use Rattle.rnv_spelling.specs.Spelling.{spelling}
use Rattle.rnv_journal.specs.Readings.{IsAtRest}
use Rattle.rnv_journal.proofs.Ones.{one_self, one_then}
use Rattle.rnv_run.proofs.Turns.{begins, done_of, drop_some, on_err, turn_reads, turn_since, turned}
use Rattle.rnv_run.proofs.writing.do_prepared.Goals as goal

pub loop-init : goal.loop-init
loop-init g c =
    let forge = c.args.forge.now in
    record {
      holds = c.requires.holds;
      opened = c.requires.opened;
      limit = refl;
      so_far = begins _ _ _ _ (g.met.F.Forge.well_formed forge c.requires.holds) (g.met.F.Forge.at_rest forge c.requires.holds c.requires.opened);
      other = one_self (g.F.Forge.past forge);
      within = omega arith;
      later = omega arith;
    }

pub write_next-requires-clause-prepared : goal.write_next-requires-clause-prepared
write_next-requires-clause-prepared g c none =
    let prepared = g.F.Forge.prepared c.args.forge.now in
    let less : c.loop.counter < length prepared = omega (arith, c.loop-test.true, c.requires.count) in
    drop_some c.loop.counter prepared less (sym c.loop.invariant.so_far.left ∙ none)

pub returns-in_err-write_next-clause-any_moment : goal.returns-in_err-write_next-clause-any_moment
returns-in_err-write_next-clause-any_moment g c =
    let less : c.loop.counter < length (g.F.Forge.prepared c.args.forge.now) = omega (arith, c.loop-test.true, c.requires.count) in
    turn_reads _ _ _ _ _ _ _ _ _ c.loop.invariant.so_far less _ c.loop.invariant.limit (c.write_next.ensures.any_moment c.loop.invariant.opened)

pub returns-in_err-write_next-clause-never_fewer : goal.returns-in_err-write_next-clause-never_fewer
returns-in_err-write_next-clause-never_fewer g c k at_most =
    let forge = c.args.forge.now in
    let less : c.loop.counter < length (g.F.Forge.prepared forge) = omega (arith, c.loop-test.true, c.requires.count) in
    let few : c.loop.counter ≤ length (g.F.Forge.prepared forge) = omega (arith, less) in
    turn_since _ _ _ _ _ _ _ _ _ c.loop.invariant.so_far less _ c.loop.invariant.limit (c.write_next.ensures.any_moment c.loop.invariant.opened) k
    (done_of (g.F.Forge.writes forge) (g.F.Forge.prepared forge) (g.F.Forge.writes c.write_next.new.self) c.loop.counter k few (c.in_err-write_next.ensures.err ∙ c.loop.invariant.so_far.so_far) at_most)

pub returns-in_err-write_next-clause-other : goal.returns-in_err-write_next-clause-other
returns-in_err-write_next-clause-other g c = one_then _ _ _ c.loop.invariant.other c.write_next.ensures.other

pub returns-in_err-write_next-clause-err : goal.returns-in_err-write_next-clause-err
returns-in_err-write_next-clause-err g c = on_err c.from_residual.result _ (record {
  count = c.loop.counter;
  fewer = omega (arith, c.loop-test.true, c.requires.count);
  is = c.in_err-write_next.ensures.err ∙ c.loop.invariant.so_far.so_far;
  still = c.in_err-write_next.ensures.stays ∙ c.loop.invariant.so_far.left;
})

pub loop-preserved : goal.loop-preserved
loop-preserved g c =
    let less : c.loop.counter < length (g.F.Forge.prepared c.args.forge.now) = omega (arith, c.loop-test.true, c.requires.count) in
    let forge = c.write_next.new.self in
    let opened = c.in_ok-write_next.ensures.opened in
    let same = c.write_next.ensures.limit ∙ c.loop.invariant.limit in
    record {
      holds = c.write_next.ensures.holds;
      opened = opened;
      limit = same;
      so_far = rw add-one (turned _ _ _ _ _ _ _ _ _ c.loop.invariant.so_far less _ c.loop.invariant.limit (c.write_next.ensures.any_moment c.loop.invariant.opened)
          (g.F.Forge.writes forge) (g.F.Forge.prepared forge) c.in_ok-write_next.ensures.ok c.in_ok-write_next.ensures.next (g.met.F.Forge.well_formed forge c.write_next.ensures.holds)
          (subst (λ n. IsAtRest n (g.F.Forge.past forge) (map spelling (g.F.Forge.writes forge))) same (g.met.F.Forge.at_rest forge c.write_next.ensures.holds opened)));
      other = one_then _ _ _ c.loop.invariant.other c.write_next.ensures.other;
      within = omega (arith, c.loop-test.true);
      later = omega (arith, c.loop.invariant.later, c.write_next.ensures.cause.later);
    }
