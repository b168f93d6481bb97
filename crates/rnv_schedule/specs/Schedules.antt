-- The set of local dates and hours that a schedule's text denotes.
use Rattle.std.specs.Prelude.{◌≡◌, ⊤, ℕ, ◌==◌, nat_le, nat_lt, ◌||◌, Bool, true, List, [], ◌∷◌, map, codes, Option, Some, None, Result, Ok, Err, if◌then◌else◌}
use Rattle.std.specs.Str.{bytes_eq}
use Rattle.rnv_schedule.specs.Cron.{Locals, Numbers, cron_of, cron_set, stepped, union}
use Rattle.rnv_schedule.specs.DayTexts.{among, between, day_text_of, words_set}
use Rattle.rnv_schedule.specs.Words.{pieces}
use Rattle.rnv_schedule.specs.declared.cron.Cron.{Cron}
use Rattle.rnv_schedule.specs.declared.days.Days.{Days}
use Rattle.rnv_schedule.specs.declared.days.Days.TheVariants as OnDays
use Rattle.rnv_schedule.specs.declared.error.ScheduleError.{ScheduleError}
use Rattle.rnv_schedule.specs.declared.error.ScheduleError.TheVariants.{BadSchedule, Memory}
use Rattle.rnv_schedule.specs.declared.hours.Hours.{Hours}
use Rattle.rnv_schedule.specs.declared.hours.Hours.TheVariants as InHours
use Rattle.rnv_schedule.specs.declared.schedule.Kind.{Kind}
use Rattle.rnv_schedule.specs.declared.schedule.Kind.TheVariants.{Always, Fields, Words}
use Rattle.rnv_schedule.specs.declared.schedule.Schedule.{Schedule}
use Rattle.rnv_schedule.specs.declared.span.Span.{Span}

-- ---- what a text denotes

-- a cron text begins with `*`, every other text is a day text
abbrev pub words_of : List (List ℕ) → Option Locals
words_of [] = None
words_of (word ∷ words) = if bytes_eq word (codes "*") then cron_of words else day_text_of (word ∷ words)

-- the empty text and `at any time` hold always
abbrev pub is_always : List ℕ → Bool
is_always text = bytes_eq text [] || bytes_eq text (codes "at any time")

-- none where the text is outside the grammar
abbrev pub schedule_of : List ℕ → Option Locals
schedule_of text = if is_always text then Some (λ at. true) else words_of (pieces 32 text)

-- ---- what was read of it

abbrev pub span_set : Span → Numbers
span_set span = stepped span.step (span.first, span.last)

abbrev pub spans_set : List Span → Numbers
spans_set spans = union (map span_set spans)

abbrev pub fields_set : Cron → Locals
fields_set cron = cron_set (spans_set cron.hours) (spans_set cron.days) (spans_set cron.months) (spans_set cron.weekdays) cron.starred

abbrev pub hours_set : Hours → Numbers
hours_set InHours.Any = λ hour. true
hours_set (InHours.Before limit) = λ hour. nat_lt hour limit
hours_set (InHours.After limit) = λ hour. nat_le limit hour
hours_set (InHours.Between first last) = between first last

abbrev pub days_set : Days → Locals
days_set OnDays.Any = λ at. true
days_set OnDays.First = λ at. at.day == 1
days_set (OnDays.Among weekdays) = among weekdays

abbrev pub kind_set : Kind → Locals
kind_set Always = λ at. true
kind_set (Fields cron) = fields_set cron
kind_set (Words hours days) = words_set (hours_set hours) (days_set days)

abbrev pub schedule_set : Schedule → Locals
schedule_set schedule = kind_set schedule.kind

-- A reader gives what the text denotes, and refuses it where it denotes nothing.
abbrev pub Reads : {S T : Type 0} → Option S → (T → S) → Result T ScheduleError → Type 0
Reads meaning shown (Ok value) = meaning ≡ Some (shown value)
Reads meaning shown (Err BadSchedule) = meaning ≡ None
Reads meaning shown (Err Memory) = ⊤
