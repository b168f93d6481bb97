use Rattle.rnv_pattern.proofs.Deciding.{rule-test}
use Rattle.rnv_pattern.proofs.pattern.Pattern.matches.Goals as goal

pub returns-clause-test : goal.returns-clause-test
returns-clause-test c = rule-test c.matches.result c.args.self.now.rule c.args.text.now c.matches.ensures.holds
