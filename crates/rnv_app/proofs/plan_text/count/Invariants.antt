use Rattle.std.proofs.Common.{◌≡◌, take}
use Rattle.rnv_app.specs.Text.{count}
use Rattle.rnv_app.proofs.plan_text.count.Given as goal

abbrev pub invariant-loop-item : goal.invariant-loop-item
invariant-loop-item l = l.count ≡ count (take l.item-index l.items)
