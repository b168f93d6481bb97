use Rattle.std.proofs.Common.{◌≡◌}
use Rattle.rnv_plan.specs.Named.{all_named}
use Rattle.rnv_plan.proofs.kept.all_named.Given as goal

abbrev pub invariant-loop-file : goal.invariant-loop-file
invariant-loop-file l = l.all.items ≡ all_named l.yielded
