use Rattle.std.proofs.Common.{◌≡◌, ◌++◌, take}
use Rattle.std.specs.List.{flat_map}
use Rattle.rnv_app.specs.Text.{line}
use Rattle.rnv_app.proofs.plan_text.add_item.Given as goal

abbrev pub invariant-loop-update : goal.invariant-loop-update
invariant-loop-update l = l.out.items ≡ l.initial.out.items ++ flat_map (line l.item.branch) (take l.update-index l.update-items)
