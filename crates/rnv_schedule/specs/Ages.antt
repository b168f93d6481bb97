-- Ages of releases, in seconds.
use Rattle.std.specs.Prelude.{◌≡◌, ◌≤◌, ◌⊎◌, ℕ, ◌*◌, ◌==◌, ◌||◌, nat_le, List, [], ◌∷◌, ◌++◌, length, take, drop, codes, Option, Some, None, option_map, if◌then◌else◌}
use Rattle.std.specs.Char.{is_ascii_digit}
use Rattle.std.specs.Option.{option_zip}
use Rattle.std.specs.List.{prefix_len}
use Rattle.std.specs.Str.{bytes_eq}
use Rattle.rnv_schedule.specs.Numbers.{number_of}

pub data TimeUnit : Type 0 where
  minute : TimeUnit
  hour : TimeUnit
  day : TimeUnit
  week : TimeUnit

abbrev pub name_of : TimeUnit → List ℕ
name_of minute = codes "minute"
name_of hour = codes "hour"
name_of day = codes "day"
name_of week = codes "week"

abbrev pub seconds_of : TimeUnit → ℕ
seconds_of minute = 60
seconds_of hour = 3_600
seconds_of day = 86_400
seconds_of week = 604_800

-- a byte, or nothing
abbrev pub IsOptional : ℕ → List ℕ → Type 0
IsOptional b text = (text ≡ []) ⊎ (text ≡ b ∷ [])

-- 1 to 5 digits, an optional space, and a unit with an optional `s`
pub record IsAge (text : List ℕ) (seconds : ℕ) : Type 0 where
  pub digits : List ℕ
  pub space : List ℕ
  pub unit : TimeUnit
  pub plural : List ℕ
  pub spelled : text ≡ digits ++ (space ++ (name_of unit ++ plural))
  pub short : length digits ≤ 5
  pub spaced : IsOptional 32 space
  pub ended : IsOptional 115 plural
  pub count : ℕ
  pub counted : number_of digits ≡ Some count
  pub product : seconds ≡ count * seconds_of unit

-- ---- the same, read from the left

-- a text without the space at its front
abbrev pub past_space : List ℕ → List ℕ
past_space [] = []
past_space (b ∷ rest) = if b == 32 then rest else b ∷ rest

abbrev pub unit_seconds : List ℕ → Option ℕ
unit_seconds text =
    if bytes_eq text (codes "minute") || bytes_eq text (codes "minutes") then Some 60
    else (if bytes_eq text (codes "hour") || bytes_eq text (codes "hours") then Some 3_600
    else (if bytes_eq text (codes "day") || bytes_eq text (codes "days") then Some 86_400
    else (if bytes_eq text (codes "week") || bytes_eq text (codes "weeks") then Some 604_800 else None)))

-- the seconds of an age whose digits are so many
abbrev pub age_with : ℕ → List ℕ → Option ℕ
age_with digits text =
    if nat_le digits 5
    then option_map (λ p. p.0 * p.1) (option_zip (number_of (take digits text)) (unit_seconds (past_space (drop digits text))))
    else None

unfoldable pub age_of : List ℕ → Option ℕ
age_of text = age_with (prefix_len is_ascii_digit text) text
