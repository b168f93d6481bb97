-- Moments and their texts, as RFC 3339 writes a whole second of UTC.
use Rattle.std.specs.Prelude.{◌≡◌, ℕ, ◌+◌, ◌*◌, ◌/◌, ◌%◌, ◌<◌, ◌≤◌, List, [], ◌∷◌, ◌++◌, pos, ◌+ℤ◌, ◌*ℤ◌}
use Rattle.jiff_core.specs.Calendar.{IsCivilDate, days_from_civil}

-- seconds since 1970-01-01T00:00:00Z, up to 9998-12-31T23:59:59Z
abbrev pub IsMoment : ℕ → Type 0
IsMoment moment = moment ≤ 253_370_764_799

-- a number below 100 in two digits
abbrev pub two_digits : ℕ → List ℕ
two_digits n = (48 + n / 10) ∷ (48 + n % 10) ∷ []

-- `YYYY-MM-DD`
abbrev pub date_text : ℕ → ℕ → ℕ → List ℕ
date_text year month day =
    two_digits (year / 100) ++ two_digits (year % 100) ++ 45 ∷ two_digits month ++ 45 ∷ two_digits day

-- `HH:MM:SS`
abbrev pub time_text : ℕ → ℕ → ℕ → List ℕ
time_text hour minute second = two_digits hour ++ 58 ∷ two_digits minute ++ 58 ∷ two_digits second

-- `YYYY-MM-DDTHH:MM:SSZ`, of a day of the Gregorian calendar and a time of that day
pub record IsMomentText (text : List ℕ) (moment : ℕ) : Type 0 where
  pub year : ℕ
  pub month : ℕ
  pub day : ℕ
  pub hour : ℕ
  pub minute : ℕ
  pub second : ℕ
  pub date : IsCivilDate (pos year) month day
  pub hours : hour < 24
  pub minutes : minute < 60
  pub seconds : second < 60
  pub spelled : text ≡ date_text year month day ++ 84 ∷ time_text hour minute second ++ 90 ∷ []
  pub counted : pos moment ≡ days_from_civil (pos year) month day *ℤ pos 86_400 +ℤ pos (hour * 3600 + minute * 60 + second)
