use Rattle.std.proofs.Common.{◌≡◌, ◌<◌, Option, Some, length, sym, ap, subst, ◌∙◌, rules}
use Rattle.rnv_options.specs.Customs.{Gives, expressions_if, texts_built}
use Rattle.rnv_options.specs.Readings.{Lists}
use Rattle.rnv_options.proofs.Listed.{gives-expressions}
use Rattle.rnv_options.proofs.custom.expressions.Goals as goal

pub returns-clause-tells : goal.returns-clause-tells
returns-clause-tells g c = λ wrong agrees.
    let is : c.args.texts ≡ Some c.in-Some.texts = search rules in
    let same : c.as_slice.result.now ≡ c.in-Some.texts = search rules in
    let some : 0 < length c.in-Some.texts = search rules in
    subst (λ (o : Option Lists). Gives texts_built c.expression_list.result (expressions_if wrong o)) (sym (is ∙ ap Some (sym same)))
    (gives-expressions wrong c.as_slice.result.now c.expression_list.result (subst (λ (ts : Lists). 0 < length ts) (sym same) some) (c.expression_list.ensures.tells wrong agrees) c.expression_list.ensures.texts)
