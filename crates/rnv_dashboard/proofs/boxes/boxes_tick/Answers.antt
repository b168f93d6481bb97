use Rattle.rnv_dashboard.proofs.TickedBoxes.{ticks_item}
use Rattle.rnv_dashboard.proofs.boxes.boxes_tick.Goals as goal

pub returns : goal.returns
returns c = record { item = ticks_item }
