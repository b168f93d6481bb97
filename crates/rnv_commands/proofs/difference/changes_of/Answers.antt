use Rattle.std.proofs.Common.{◌≡◌, ◌∙◌, ap, sym, arith, [], length}
use Rattle.std.specs.Vec.Iter.{into_iter_items}
use Rattle.std.proofs.lemmas.List.{nil_from_length}
use Rattle.rnv_commands.proofs.Differences.{turning_more, turning_ended}
use Rattle.rnv_commands.proofs.difference.changes_of.Goals as goal

pub loop-file-preserved : goal.loop-file-preserved
loop-file-preserved c =
    let s = c.in-Some.ensures.steps in
    record {
      so_far = turning_more _ _ _ _ _ _ c.in-Some.file _ _ s.0 c.in_ok-left.ensures c.loop-file.invariant.so_far;
      counted = omega (arith, s.1, c.loop-file.invariant.counted, ap length s.0);
    }

pub returns : goal.returns
returns c =
    let v = c.loop-file.invariant in
    let none : into_iter_items c.loop-file.file-iterator ≡ [] = nil_from_length (into_iter_items c.loop-file.file-iterator) (sym v.counted ∙ c.in-None.ensures.steps.0) in
    turning_ended _ _ _ _ _ _ none v.so_far c.in_ok-add_removals.ensures
