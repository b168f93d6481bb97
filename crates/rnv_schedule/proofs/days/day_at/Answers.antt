use Rattle.std.proofs.Common.{◌∙◌}
use Rattle.rnv_schedule.proofs.Joining.{joined_at}
use Rattle.rnv_schedule.proofs.days.day_at.Goals as goal

pub returns-then-at-words : goal.returns-then-at-words
returns-then-at-words c = c.joined_day.ensures ∙ joined_at c.args.words.now c.args.at _ c.if-at-words.true
