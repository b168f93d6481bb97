use Rattle.rnv_app.proofs.Stores.{refusing_left}
use Rattle.rnv_app.proofs.top.import_for.Goals as goal

pub returns-clause-left : goal.returns-clause-left
returns-clause-left g c = λ t. refusing_left _ _ _ _ _ _ c.refusing.ensures (c.import_on-text.ensures.left t)
