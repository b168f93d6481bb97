use Rattle.std.proofs.Common.{◌≡◌, ◌++◌, map, take}
use Rattle.std.specs.List.{filter}
use Rattle.rnv_steps.specs.Sights.{judged_of}
use Rattle.rnv_steps.proofs.cases.add_ticked.Given as goal

abbrev pub invariant-loop-case : goal.invariant-loop-case
invariant-loop-case l = map judged_of l.order.items ≡ map judged_of l.fn.order.items ++ filter (λ j. j.view.ticked) (map judged_of (take l.case-index l.cases))
