-- The moments that the texts of documents tell: instants (RFC 3339, as `jiff` reads it), rounded down to
-- seconds since 1970-01-01T00:00:00Z.
use Rattle.std.specs.Prelude.{ℕ, ◌/◌, ℤ, pos, negsuc, nat_le, if◌then◌else◌, Option, Some, None, option_and_then, Result, Ok, Err}
use Rattle.serde_json.specs.Data.{Data}
use Rattle.serde_json.specs.Find.{as_str}
use Rattle.jiff_core.specs.declared.error.Error.{Error}
use Rattle.jiff_fmt.specs.Temporal.{parse_timestamp}

-- the moment of an instant in nanoseconds since 1970-01-01T00:00:00Z; moments go up to
-- 9998-12-31T23:59:59Z
abbrev pub moment_of : ℤ → Option ℕ
moment_of (pos n) = if nat_le (n / 1000000000) 253370764799 then Some (n / 1000000000) else None
moment_of (negsuc n) = None

abbrev pub moment_read : Result ℤ Error → Option ℕ
moment_read (Ok instant) = moment_of instant
moment_read (Err e) = None

-- the moment that a value tells: the one that the text of an instant names
abbrev pub time_of : Data → Option ℕ
time_of value = option_and_then (λ text. moment_read (parse_timestamp text)) (as_str value)
