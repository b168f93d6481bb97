use Rattle.rnv_patch.proofs.Rises.{one_rises}
use Rattle.rnv_patch.proofs.tests.only.Goals as goal

pub returns : goal.returns
returns c = one_rises _ _ _ c.empty-base.ensures c.in_ok-push.ensures.ok
