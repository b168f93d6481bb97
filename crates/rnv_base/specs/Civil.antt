-- The text and the seconds of a date and a time of day.
use Rattle.std.specs.Prelude.{ℕ, ◌+◌, ◌*◌, List, [], ◌∷◌, ◌++◌, ℤ, pos, ◌+ℤ◌, ◌*ℤ◌, unsigned_abs}
use Rattle.jiff_core.specs.Date.{epoch_day}
use Rattle.rnv_base.specs.Moment.{date_text, time_text}
use Rattle.rnv_base.specs.declared.civil.Civil.{Civil}

abbrev pub civil_text : Civil → List ℕ
civil_text at =
    date_text (unsigned_abs at.date.year) at.date.month at.date.day
    ++ 84 ∷ time_text at.hour at.minute at.second ++ 90 ∷ []

abbrev pub civil_seconds : Civil → ℤ
civil_seconds at =
    epoch_day at.date *ℤ pos 86_400 +ℤ pos (at.hour * 3600 + at.minute * 60 + at.second)
