use Rattle.std.proofs.Common.{◌≡◌}
use Rattle.renovate.proofs.walk.Walk.end.Given as goal

abbrev pub invariant-loop : goal.invariant-loop
invariant-loop g l = l.self.prefix ≡ l.initial.self.prefix
