use Rattle.rnv_patch.proofs.Rises.{one_branch_rises}
use Rattle.rnv_patch.proofs.tests.branch_of.Goals as goal

pub returns : goal.returns
returns c = one_branch_rises _ _ _ c.empty-files.ensures c.in_ok-push.ensures.ok
