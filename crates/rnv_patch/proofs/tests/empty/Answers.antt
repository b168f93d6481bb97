use Rattle.rnv_patch.proofs.Rises.{none_rises}
use Rattle.rnv_patch.proofs.tests.empty.Goals as goal

pub returns : goal.returns
returns c = none_rises _ c.empty.ensures
