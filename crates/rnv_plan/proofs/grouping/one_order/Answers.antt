use Rattle.rnv_plan.proofs.OneList.{items_are_unique}
use Rattle.rnv_plan.proofs.grouping.one_order.Goals as goal

pub returns : goal.returns
returns c = items_are_unique
