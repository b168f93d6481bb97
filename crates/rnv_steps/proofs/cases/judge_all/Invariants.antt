use Rattle.std.proofs.Common.{◌≡◌, ◌++◌, map, drop}
use Rattle.rnv_steps.specs.Sights.{judge, judged_of, sight_of}
use Rattle.rnv_steps.proofs.cases.judge_all.Given as goal

abbrev pub invariant-loop-seen : goal.invariant-loop-seen
invariant-loop-seen l = map judged_of l.cases.items ++ judge l.room (map sight_of (drop l.seen-index l.all)) ≡ judge l.fn.room (map sight_of l.all)
