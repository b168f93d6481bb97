use Rattle.std.proofs.Common.{rules}
use Rattle.rnv_options.proofs.Asked.{tests-one}
use Rattle.rnv_options.proofs.reading.one_pattern.Goals as goal

pub returns-clause-tells : goal.returns-clause-tells
returns-clause-tells g c = λ wrong agrees. tests-one wrong c.args.text.now c.as_slice.result.now c.pattern_list.result (c.pattern_list.ensures.tells wrong agrees) (search rules)
