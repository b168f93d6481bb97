use Rattle.std.proofs.Common.{◌≡◌, map, Err}
use Rattle.rnv_pattern.proofs.Told.{list-asks, list-tells, taken-list, took-only}
use Rattle.rnv_pattern.proofs.pattern_list.PatternList.read.Goals as goal

pub returns-in-Ok-clause-asks : goal.returns-in-Ok-clause-asks
returns-in-Ok-clause-asks g c = took-only _ _ _ _ _ _ c.in-Ok.ensures.took.0 c.in-Ok.ensures.took.2 (c.in-Ok.ensures.unrefused (λ e. cc)) c.in-Ok.ensures.others

pub returns-in-Ok-clause-tells : goal.returns-in-Ok-clause-tells
returns-in-Ok-clause-tells g c = λ wrong agrees. taken-list wrong (map g.T.AsStr.text c.args.texts.now) _ _ _ _ _ c.in-Ok.ensures.read c.in-Ok.ensures.took agrees

pub returns-in-Err-clause-asks : goal.returns-in-Err-clause-asks
returns-in-Err-clause-asks g c =
    list-asks (Err c.in-Err.error) (map g.T.AsStr.text c.args.texts.now) _ _ _ _ _ _ tt c.in-Err.ensures.bad_glob c.in-Err.ensures.bad_expression c.in-Err.ensures.memory c.in-Err.ensures.unrefused c.in-Err.ensures.others

pub returns-in-Err-clause-tells : goal.returns-in-Err-clause-tells
returns-in-Err-clause-tells g c = λ wrong agrees.
    list-tells (Err c.in-Err.error) wrong (map g.T.AsStr.text c.args.texts.now) _ _ _ _ tt tt c.in-Err.ensures.bad_glob c.in-Err.ensures.bad_expression agrees
