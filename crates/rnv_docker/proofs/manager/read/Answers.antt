use Rattle.std.proofs.Common.{ap, ◌∙◌}
use Rattle.rnv_manager.specs.Finds.{views}
use Rattle.rnv_docker.proofs.Pieces.{pieces-finds}
use Rattle.rnv_docker.proofs.manager.read.Goals as goal

pub returns-in-Ok-clause-ok : goal.returns-in-Ok-clause-ok
returns-in-Ok-clause-ok c = ap views c.new.ensures ∙ (c.in-Ok.ensures.ok ∙ pieces-finds c.args.file.now)
