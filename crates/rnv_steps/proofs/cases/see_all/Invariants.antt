use Rattle.std.proofs.Common.{◌≡◌, map, take}
use Rattle.rnv_steps.specs.Sights.{sight, sight_of}
use Rattle.rnv_steps.proofs.cases.see_all.Given as goal

abbrev pub invariant-loop-item : goal.invariant-loop-item
invariant-loop-item l = map sight_of l.all.items ≡ map (sight l.lookup.terms.now l.lookup.repo.now) (take l.item-index l.items)
