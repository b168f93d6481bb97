use Rattle.std.proofs.Common.{arith}
use Rattle.rnv_schedule.proofs.Spans.{same_steps}
use Rattle.rnv_schedule.proofs.items.spaced.Goals as goal

pub returns : goal.returns
returns c = λ n e. same_steps n c.args.step c.args.first c.args.last (omega arith) e
