use Rattle.std.proofs.Common.{length, arith, ap, ◌∙◌, add-one}
use Rattle.std.proofs.lemmas.List.{map_push}
use Rattle.rnv_manager.specs.Finds.{views}
use Rattle.rnv_manager.proofs.Edited.{left-turn, left-done, drop-views, drop-all-views, room, end_fits}
use Rattle.rnv_manager.proofs.expected.expected_finds.Goals as goal

pub overflow_sub-f : goal.overflow_sub-f
overflow_sub-f c = (room _ _ _ _ _ (drop-views c.args.found.now c.loop-i.i _ c.loop-i-test.true) c.loop-i.invariant.apart).order

pub overflow_add-at : goal.overflow_add-at
overflow_add-at c = end_fits c.args.found.now c.loop-i.i c.loop-i.at c.args.file_len _ c.loop-i-test.true c.loop-i.invariant.apart c.ranges.file_len

pub loop-i-preserved : goal.loop-i-preserved
loop-i-preserved c =
    let next = drop-views c.args.found.now c.loop-i.i _ c.loop-i-test.true in
    let step = c.new_value.ensures (length c.args.found.now) c.loop-i.invariant.indexes in
    record {
      apart = (room _ _ _ _ _ next c.loop-i.invariant.apart).apart;
      indexes = rw add-one step.rising;
      left = λ ms t e. left-turn _ _ _ ms _ c.loop-i.i _ _ _ _ (c.loop-i.invariant.left ms t e) next (length c.args.found.now) _ _ c.in_ok-start.start c.in_ok-len.len step c.in_ok-start.ensures.ok c.in_ok-len.ensures.ok _ (ap views c.in_ok-push.ensures.items ∙ map_push _ _ _);
    }

pub returns-clause-ok : goal.returns-clause-ok
returns-clause-ok c = λ ms t e.
    left-done _ _ _ ms _ _ _ _ _ (c.loop-i.invariant.left ms t e) (drop-all-views c.args.found.now c.loop-i.i (omega (arith, c.loop-i-test.false))) c.in_ok-len-2.len c.in_ok-len-2.ensures.ok
