use Rattle.rnv_pick.proofs.OneAnswer.{one_answer as law}
use Rattle.rnv_pick.proofs.by_source.one_answer.Goals as goal

pub returns : goal.returns
returns c = law
