use Rattle.std.proofs.Common.{◌≡◌, length}
use Rattle.rnv_release.specs.Times.{members_left, times_from, times_left}
use Rattle.rnv_release.proofs.times.Times.pass.Given as goal

abbrev pub invariant-loop-self : goal.invariant-loop-self
invariant-loop-self l = times_from l.name (times_left l.self) ≡ times_from l.name (times_left l.initial.self)

abbrev pub decreases-loop-self : goal.decreases-loop-self
decreases-loop-self l = length (members_left l.self.ahead l.self.rest)
