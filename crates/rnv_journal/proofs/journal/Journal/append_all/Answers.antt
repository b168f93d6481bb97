use Rattle.std.proofs.Common.{◌<◌, ◌∙◌, length, true, sym, ap, arith, add-one}
use Rattle.rnv_journal.specs.Held.{Held}
use Rattle.rnv_journal.proofs.Turns.{begins, drop_some, turn_reads, turn_since, turned, prepared_left}
use Rattle.rnv_journal.proofs.journal.Journal.append_all.Goals as goal

pub loop-init : goal.loop-init
loop-init g c = record {
  so_far = begins c.args.self.now (g.D.Disk.past c.args.disk.now) c.requires.at_rest;
  ends = c.prepared-end.ensures;
  within = omega arith;
  later = omega arith;
}

pub append_next-requires-clause-prepared : goal.append_next-requires-clause-prepared
append_next-requires-clause-prepared g c none =
    let prepared = c.args.self.now.prepared in
    let less : c.loop.counter < length prepared = omega (arith, c.loop-test.true, c.loop.invariant.ends) in
    let left = ap (λ (h : Held). h.prepared) c.loop.invariant.so_far.so_far in
    drop_some c.loop.counter prepared less (sym left ∙ none)

pub returns-in_err-append_next-clause-any_moment : goal.returns-in_err-append_next-clause-any_moment
returns-in_err-append_next-clause-any_moment g c =
    let so_far = c.loop.invariant.so_far in
    let not_closed = ap (λ (h : Held). h.closed) so_far.so_far ∙ c.requires.not_closed in
    let less : c.loop.counter < length c.args.self.now.prepared = omega (arith, c.loop-test.true, c.loop.invariant.ends) in
    turn_reads _ _ _ _ _ _ so_far less (c.append_next.ensures.any_moment not_closed)

pub returns-in_err-append_next-clause-never_fewer : goal.returns-in_err-append_next-clause-never_fewer
returns-in_err-append_next-clause-never_fewer g c k fewer =
    let so_far = c.loop.invariant.so_far in
    let not_closed = ap (λ (h : Held). h.closed) so_far.so_far ∙ c.requires.not_closed in
    let less : c.loop.counter < length c.args.self.now.prepared = omega (arith, c.loop-test.true, c.loop.invariant.ends) in
    let left = ap (λ (h : Held). length h.prepared) (c.in_err-append_next.ensures.err ∙ ap (λ (h : Held). record h { closed = true }) so_far.so_far) in
    turn_since _ _ _ _ _ _ so_far less (c.append_next.ensures.any_moment not_closed) k
    (omega (arith, fewer, left, prepared_left c.loop.counter c.args.self.now.prepared (omega (arith, less))))

pub loop-preserved : goal.loop-preserved
loop-preserved g c =
    let so_far = c.loop.invariant.so_far in
    let not_closed = ap (λ (h : Held). h.closed) so_far.so_far ∙ c.requires.not_closed in
    let less : c.loop.counter < length c.args.self.now.prepared = omega (arith, c.loop-test.true, c.loop.invariant.ends) in
    record {
      so_far = rw add-one (turned _ _ _ _ _ _ so_far less (c.append_next.ensures.any_moment not_closed) c.append_next.new.self c.in_ok-append_next.ensures.ok c.in_ok-append_next.ensures.at_rest);
      ends = c.loop.invariant.ends;
      within = omega (arith, less, c.loop.invariant.ends);
      later = omega (arith, c.loop.invariant.later, c.append_next.ensures.cause.later);
    }
