use Rattle.std.proofs.Common.{List, sym, ap, ◌∙◌}
use Rattle.std.specs.List.{list_all}
use Rattle.std.proofs.lemmas.List.{map-id}
use Rattle.rnv_pattern.specs.Meaning.{is_pattern}
use Rattle.rnv_pattern.specs.declared.error.PatternError.TheVariants.{BadGlob, BadExpression}
use Rattle.rnv_pattern.specs.declared.pattern.Pattern.{Pattern}
use Rattle.rnv_options.proofs.Asked.{told-as}
use Rattle.rnv_options.proofs.reading.pattern_list.Goals as goal

pub returns-in-Ok-clause-tells : goal.returns-in-Ok-clause-tells
returns-in-Ok-clause-tells g c = λ wrong agrees. ap (list_all (is_pattern wrong)) (sym (map-id c.args.texts.now)) ∙ c.in-Ok.ensures.tells wrong agrees

pub returns-in-Err-BadGlob-clause-tells : goal.returns-in-Err-BadGlob-clause-tells
returns-in-Err-BadGlob-clause-tells g c = λ wrong agrees. ap (list_all (is_pattern wrong)) (sym (map-id c.args.texts.now)) ∙ told-as (List Pattern) c.in-Err-BadGlob.field-0 BadGlob _ c.in-Err-BadGlob.field-0-is (c.in-Err-BadGlob.ensures.tells wrong agrees)

pub returns-in-Err-BadExpression-clause-tells : goal.returns-in-Err-BadExpression-clause-tells
returns-in-Err-BadExpression-clause-tells g c = λ wrong agrees. ap (list_all (is_pattern wrong)) (sym (map-id c.args.texts.now)) ∙ told-as (List Pattern) c.in-Err-BadExpression.field-0 BadExpression _ c.in-Err-BadExpression.field-0-is (c.in-Err-BadExpression.ensures.tells wrong agrees)
