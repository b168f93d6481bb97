use Rattle.std.proofs.Common.{◌≡◌, map}
use Rattle.rnv_plan.specs.Groups.{item_of}
use Rattle.rnv_plan.proofs.grouping.listed.Given as goal

abbrev pub invariant-loop-branch : goal.invariant-loop-branch
invariant-loop-branch l = l.items.items ≡ map item_of l.yielded
