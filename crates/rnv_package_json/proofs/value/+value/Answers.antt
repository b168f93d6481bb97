use Rattle.std.proofs.Common.{◌-◌, length, drop, arith, ◌∙◌, length-take, length-drop}
use Rattle.std.proofs.lemmas.Grind.{common_steps}
use Rattle.std.proofs.lemmas.Result.{err_from_is_err_and}
use Rattle.rnv_manager.specs.Finds.{views}
use Rattle.rnv_package_json.proofs.Rests.{IsRest-tail}
use Rattle.rnv_package_json.proofs.Turns.{fails-with, goes-to, goes-on, closes}
use Rattle.rnv_package_json.proofs.value.+value.Goals as goal

pub group-returns-in_err-after-clause-value : goal.group-returns-in_err-after-clause-value
group-returns-in_err-after-clause-value t c =
    let p = err_from_is_err_and c.from_residual.result c.from_residual.ensures.1 in
    rw (p.1, p.2) (fails-with _ _ _ _ (views c.part.new.found.items) _ _ c.in_err-after.field-0.0 c.loop-after.invariant.goes c.in_err-after.ensures.value)

pub group-loop-after-preserved : goal.group-loop-after-preserved
group-loop-after-preserved t c = record {
  within = omega (arith, c.in_ok-after.ensures.shorter, length-take (length c.in_ok-after.after.now - 1) (drop 1 c.in_ok-after.after.now), length-drop 1 c.in_ok-after.after.now);
  rest = IsRest-tail _ _ c.in_ok-after.ensures.rest c.in-44.len_at_least;
  goes = goes-on _ _ _ _ _ _ c.loop-after.invariant.goes _ _ c.in_ok-after.ensures.value c.in_ok-after.ensures.shorter c.in-44.len_at_least (omega arith);
}

pub group-returns-in-len1-up-after-clause-value : goal.group-returns-in-len1-up-after-clause-value
group-returns-in-len1-up-after-clause-value t c =
    closes _ _ _ _ _ _ c.loop-after.invariant.goes _ _ c.in_ok-after.ensures.value c.in-len1-up-after.len_at_least (c.if-x-close-2.true ∙ c.close_of-close.ensures)

pub group-returns-in_default-clause-value : goal.group-returns-in_default-clause-value
group-returns-in_default-clause-value t c =
    let e = goes-to _ _ _ _ _ _ c.loop-after.invariant.goes _ _ c.in_ok-after.ensures.value in
    grind (arith, common_steps)
