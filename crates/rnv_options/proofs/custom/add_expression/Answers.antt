use Rattle.std.proofs.Common.{◌≡◌, [], ◌∷◌, ◌++◌, rules}
use Rattle.rnv_pattern.specs.declared.error.PatternError.TheVariants.{BadGlob, BadExpression}
use Rattle.rnv_pattern.specs.declared.pattern.Pattern.{Pattern}
use Rattle.rnv_options.proofs.Asked.{told-as}
use Rattle.rnv_options.proofs.custom.add_expression.Goals as goal

pub returns-in_ok-push-in-Ok-clause-added : goal.returns-in_ok-push-in-Ok-clause-added
returns-in_ok-push-in-Ok-clause-added g c =
    let pushed : c.push.new.self ≡ c.args.list.now ++ c.in-Ok.pattern ∷ [] = search rules in
    (c.in-Ok.pattern, pushed, c.in-Ok.ensures.read)

pub returns-in-Err-BadGlob-clause-tells : goal.returns-in-Err-BadGlob-clause-tells
returns-in-Err-BadGlob-clause-tells g c = λ wrong agrees. told-as Pattern c.in-Err-BadGlob.field-0 BadGlob _ c.in-Err-BadGlob.field-0-is (c.in-Err-BadGlob.ensures.tells wrong agrees)

pub returns-in-Err-BadExpression-clause-tells : goal.returns-in-Err-BadExpression-clause-tells
returns-in-Err-BadExpression-clause-tells g c = λ wrong agrees. told-as Pattern c.in-Err-BadExpression.field-0 BadExpression _ c.in-Err-BadExpression.field-0-is (c.in-Err-BadExpression.ensures.tells wrong agrees)
