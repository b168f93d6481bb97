use Rattle.std.proofs.Common.{◌≡◌, Some, map, take}
use Rattle.rnv_schedule.specs.Cron.{item_of}
use Rattle.rnv_schedule.specs.Schedules.{span_set}
use Rattle.rnv_schedule.specs.Words.{each, pieces}
use Rattle.rnv_schedule.proofs.items.read_items.Given as goal

abbrev pub invariant-loop-item : goal.invariant-loop-item
invariant-loop-item l = each (map (λ r. item_of l.field (pieces 47 r.now)) (take l.item-index l.items)) ≡ Some (map span_set l.spans)
