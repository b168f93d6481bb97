use Rattle.rnv_package_json.proofs.Edits.{edits-kept}
use Rattle.rnv_package_json.proofs.manager.NpmManagerKeepsEdits.keeps_edits.Goals as goal

pub returns-clause-law : goal.returns-clause-law
returns-clause-law c = λ file ms edits read indexes fit. edits-kept file ms edits read fit
