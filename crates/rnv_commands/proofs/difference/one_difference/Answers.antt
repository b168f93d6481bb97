use Rattle.rnv_commands.proofs.Unique.{one_difference}
use Rattle.rnv_commands.proofs.difference.one_difference.Goals as goal

pub returns : goal.returns
returns c = one_difference
