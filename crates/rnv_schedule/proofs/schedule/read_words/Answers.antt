use Rattle.std.proofs.Common.{subst, sym, Option, ◌∙◌}
use Rattle.rnv_schedule.specs.Cron.{Locals}
use Rattle.rnv_schedule.specs.Schedules.{Reads, kind_set}
use Rattle.rnv_schedule.proofs.DayParts.{no_star}
use Rattle.rnv_schedule.proofs.schedule.read_words.Goals as goal

pub returns-else-is_star : goal.returns-else-is_star
returns-else-is_star c = subst (λ (m : Option Locals). Reads m kind_set c.read_day_text.result) (sym (no_star c.args.words.now _ c.in-len1-up.len_at_least (sym c.is_star.ensures ∙ c.if-is_star.false))) c.read_day_text.ensures
