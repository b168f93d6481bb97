use Rattle.std.proofs.Common.{◌∙◌, ap}
use Rattle.rnv_plan.specs.Kept.{kept_updates}
use Rattle.rnv_plan.specs.Named.{all_named}
use Rattle.rnv_plan.proofs.Staying.{files_named}
use Rattle.rnv_plan.proofs.planning.kept_items.Goals as goal

pub returns : goal.returns
returns c = λ picked same. c.items.ensures (kept_updates picked) (c.in_ok-named.ensures ∙ (ap all_named same ∙ files_named picked))
