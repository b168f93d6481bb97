use Rattle.rnv_repo.proofs.Merges.{rising_nothing}
use Rattle.rnv_repo.proofs.applying.begin.Goals as goal

pub merged-requires-clause-files : goal.merged-requires-clause-files
merged-requires-clause-files c = rising_nothing c.empty.result c.empty.ensures
