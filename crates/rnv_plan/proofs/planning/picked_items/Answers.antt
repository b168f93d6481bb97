use Rattle.std.proofs.Common.{map, ◌∙◌, ap}
use Rattle.rnv_plan.specs.Named.{kept_file}
use Rattle.rnv_plan.proofs.planning.picked_items.Goals as goal

pub returns-in-Ok-clause-few : goal.returns-in-Ok-clause-few
returns-in-Ok-clause-few c = c.few_items.ensures.few c.args.picked.now (c.in-Ok.ensures ∙ ap (map kept_file) c.as_slice.ensures)

pub returns-in-Ok-clause-many : goal.returns-in-Ok-clause-many
returns-in-Ok-clause-many c = c.few_items.ensures.many c.args.picked.now (c.in-Ok.ensures ∙ ap (map kept_file) c.as_slice.ensures)
