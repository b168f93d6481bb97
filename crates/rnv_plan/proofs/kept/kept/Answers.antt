use Rattle.std.proofs.Common.{◌∙◌, ap}
use Rattle.std.proofs.lemmas.Result.{IfOk-weaker}
use Rattle.rnv_plan.specs.Named.{last_named}
use Rattle.rnv_plan.proofs.Staying.{last_kept}
use Rattle.rnv_plan.proofs.kept.kept.Goals as goal

pub returns : goal.returns
returns c =
    IfOk-weaker c.last_named.result _ _ (λ all is. is ∙ (ap last_named (c.as_slice.ensures.value ∙ c.in_ok-named.ensures) ∙ last_kept c.args.updates.now)) c.last_named.ensures
