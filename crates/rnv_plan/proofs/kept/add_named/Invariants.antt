use Rattle.std.proofs.Common.{◌≡◌, ◌++◌}
use Rattle.std.specs.List.{flat_map}
use Rattle.rnv_plan.proofs.kept.add_named.Given as goal

abbrev pub invariant-loop-dep : goal.invariant-loop-dep
invariant-loop-dep l = l.all.items ≡ l.fn.all.items ++ flat_map (λ d. d.updates) l.yielded
