-- What a clock in a zone shows. A zone is the text of its POSIX rule, or none for UTC.
use Rattle.std.specs.Prelude.{◌≡◌, ℕ, ◌+◌, ◌%◌, List, ℤ, pos, ◌+ℤ◌, Option, Some, None}
use Rattle.jiff_core.specs.Date.{weekday_of}
use Rattle.jiff_core.specs.DateTime.{civil_nanos}
use Rattle.jiff_core.specs.Timestamp.{nanos_of_seconds}
use Rattle.jiff_core.specs.declared.civil.datetime.DateTime.{DateTime}
use Rattle.jiff_tz.specs.Zone.{offset_at}
use Rattle.jiff_tz.specs.declared.timezone.TimeZone.{TimeZone}
use Rattle.jiff_tz.specs.declared.timezone.TimeZone.TheVariants.{UTC}
use Rattle.jiff.specs.Placed.{IsPosixZone}
use Rattle.rnv_schedule.specs.declared.shown.Local.{Local}

-- the zone's rule, as `jiff` reads it
abbrev pub IsRule : Option (List ℕ) → TimeZone → Type 0
IsRule None rule = rule ≡ UTC
IsRule (Some text) rule = IsPosixZone text rule

-- At an instant, in nanoseconds since 1970, a clock in the zone is the rule's offset ahead of UTC.
pub record IsClock (zone : Option (List ℕ)) (instant : ℤ) (clock : DateTime) : Type 0 where
  pub rule : TimeZone
  pub read : IsRule zone rule
  pub ahead : civil_nanos clock ≡ instant +ℤ nanos_of_seconds (offset_at rule instant)

-- its month and day from 1, its hour from 0, and its weekday from 0 for Sunday
pub record IsShown (clock : DateTime) (at : Local) : Type 0 where
  pub month : at.month ≡ clock.date.month
  pub day : at.day ≡ clock.date.day
  pub hour : at.hour ≡ clock.time.hour
  pub weekday : at.weekday ≡ (weekday_of clock.date + 1) % 7

-- the local date and hour of a moment, in seconds since 1970, in the zone
pub record IsLocal (zone : Option (List ℕ)) (moment : ℕ) (at : Local) : Type 0 where
  pub clock : DateTime
  pub is_clock : IsClock zone (nanos_of_seconds (pos moment)) clock
  pub shown : IsShown clock at
