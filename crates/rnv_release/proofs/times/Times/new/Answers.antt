use Rattle.std.proofs.Common.{◌∙◌, sym, subst, List, String, Global}
use Rattle.serde_json.specs.View.{members_view}
use Rattle.serde_json.specs.declared.value.Value.{Value}
use Rattle.rnv_release.specs.Times.{AreRising, told_by}
use Rattle.rnv_release.proofs.Walking.{members_left-step, told-rises}
use Rattle.rnv_release.proofs.times.Times.new.Goals as goal

pub returns-clause-rising : goal.returns-clause-rising
returns-clause-rising c =
    let gives = c.into_iter-rest.ensures.into_iter_gives in
    let all = members_left-step c.next-ahead.result c.next-ahead.new.self c.into_iter-rest.result c.next-ahead.ensures.steps ∙ gives.0 in
    let P : List (String Global × Value) → Type 0 = λ members. AreRising (told_by (members_view members)) in
    subst P (sym all) (told-rises c.args.times.entries gives.5)
