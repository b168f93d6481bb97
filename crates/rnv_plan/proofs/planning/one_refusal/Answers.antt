use Rattle.rnv_plan.proofs.Bases.{plan-fine, plan-one}
use Rattle.rnv_plan.proofs.planning.one_refusal.Goals as goal

pub returns : goal.returns
returns c = λ repo moment files. record { one = plan-one repo files moment; none = λ items e p. plan-fine repo files moment items p e }
