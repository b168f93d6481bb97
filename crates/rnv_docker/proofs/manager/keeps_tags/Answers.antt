use Rattle.rnv_docker.proofs.Again.{edits-kept}
use Rattle.rnv_docker.proofs.Pieces.{is-read}
use Rattle.rnv_docker.proofs.manager.keeps_tags.Goals as goal

pub returns-clause-every : goal.returns-clause-every
returns-clause-every c = λ file. is-read file

pub returns-clause-law : goal.returns-clause-law
returns-clause-law c = λ file ms edits read indexes fit. edits-kept file ms edits read fit
