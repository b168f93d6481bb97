use Rattle.std.proofs.Common.{◌≡◌, ◌-◌, length, drop}
use Rattle.rnv_schedule.specs.DayTexts.{named_days}
use Rattle.rnv_schedule.specs.Words.{texts}
use Rattle.rnv_schedule.proofs.Joining.{behind}
use Rattle.rnv_schedule.proofs.days.named_days.Given as goal

abbrev pub invariant-loop-at : goal.invariant-loop-at
invariant-loop-at l = behind l.days (named_days (drop l.at (texts l.words))) ≡ named_days (texts l.words)

abbrev pub decreases-loop-at : goal.decreases-loop-at
decreases-loop-at l = length l.words - l.at
