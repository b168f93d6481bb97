use Rattle.std.proofs.Common.{arith}
use Rattle.rnv_base.proofs.Moments.{from_1970}
use Rattle.rnv_base.proofs.civil.Civil.of.Goals as goal

pub invariant_of-result-clause-years : goal.invariant_of-result-clause-years
invariant_of-result-clause-years c = from_1970 c.from_days_since_min-date.result _ c.from_days_since_min-date.ensures (omega arith)
