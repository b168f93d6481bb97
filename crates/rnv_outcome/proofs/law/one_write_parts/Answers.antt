use Rattle.rnv_outcome.proofs.OneWrite.{parts}
use Rattle.rnv_outcome.proofs.law.one_write_parts.Goals as goal

pub returns : goal.returns
returns c = parts
