-- Cron texts: the sets of hours, days, months and weekdays that their fields name.
use Rattle.std.specs.Prelude.{ℕ, ◌+◌, ◌-◌, ◌%◌, ◌==◌, ◌&&◌, ◌||◌, nat_le, Bool, false, List, [], ◌∷◌, map, codes, Option, Some, None, option_map, option_and_then, if◌then◌else◌}
use Rattle.std.specs.List.{list_any}
use Rattle.std.specs.Option.{option_or}
use Rattle.std.specs.Str.{bytes_eq}
use Rattle.rnv_schedule.specs.Numbers.{number_of}
use Rattle.rnv_schedule.specs.Words.{each, pieces, place_of}
use Rattle.rnv_schedule.specs.declared.field.Field.{Field}
use Rattle.rnv_schedule.specs.declared.field.Field.TheVariants.{Hour, Day, Month, Weekday}
use Rattle.rnv_schedule.specs.declared.shown.Local.{Local}

-- a set of numbers
abbrev pub Numbers : Type 0
Numbers = ℕ → Bool

-- a set of local dates and hours
abbrev pub Locals : Type 0
Locals = Local → Bool

-- ---- the numbers of a field

abbrev pub least : Field → ℕ
least Hour = 0
least Day = 1
least Month = 1
least Weekday = 0

abbrev pub greatest : Field → ℕ
greatest Hour = 23
greatest Day = 31
greatest Month = 12
greatest Weekday = 7

-- the names of its numbers, from the least on
abbrev pub names : Field → List (List ℕ)
names Hour = []
names Day = []
names Month = codes "jan" ∷ codes "feb" ∷ codes "mar" ∷ codes "apr" ∷ codes "may" ∷ codes "jun" ∷ codes "jul" ∷ codes "aug" ∷ codes "sep" ∷ codes "oct" ∷ codes "nov" ∷ codes "dec" ∷ []
names Weekday = codes "sun" ∷ codes "mon" ∷ codes "tue" ∷ codes "wed" ∷ codes "thu" ∷ codes "fri" ∷ codes "sat" ∷ []

abbrev pub if_within : Field → ℕ → Option ℕ
if_within field n = if nat_le (least field) n && nat_le n (greatest field) then Some n else None

-- `A`: a name, or a number that the field has
abbrev pub value_of : Field → List ℕ → Option ℕ
value_of field text =
    option_or (option_map (λ place. least field + place) (place_of (names field) text)) (option_and_then (if_within field) (number_of text))

-- ---- its items

-- two ends that do not fall
abbrev pub rising : Option ℕ → Option ℕ → Option (ℕ × ℕ)
rising (Some first) (Some last) = if nat_le first last then Some (first, last) else None
rising (Some first) None = None
rising None last = None

-- the ends of `*` or `A-B`, from its parts between dashes
abbrev pub range_of : Field → List (List ℕ) → Option (ℕ × ℕ)
range_of field (star ∷ []) = if bytes_eq star (codes "*") then Some (least field, greatest field) else None
range_of field (first ∷ last ∷ []) = rising (value_of field first) (value_of field last)
range_of field parts = None

-- the same, or of `A` alone
abbrev pub ends_of : Field → List ℕ → Option (ℕ × ℕ)
ends_of field text = option_or (range_of field (pieces 45 text)) (option_map (λ n. (n, n)) (value_of field text))

-- from the first number on to the last, by steps
abbrev pub stepped : ℕ → ℕ × ℕ → Numbers
stepped step ends n = nat_le ends.0 n && nat_le n ends.1 && ((n - ends.0) % step == 0)

-- a step is a number from 1 on
abbrev pub step_of : List ℕ → Option ℕ
step_of text = option_and_then (λ step. if nat_le 1 step then Some step else None) (number_of text)

abbrev pub stepped_by : Option ℕ → Option (ℕ × ℕ) → Option Numbers
stepped_by (Some step) (Some ends) = Some (stepped step ends)
stepped_by (Some step) None = None
stepped_by None ends = None

-- an item, from its parts between slashes: a step may stand behind `*` and `A-B`
abbrev pub item_of : Field → List (List ℕ) → Option Numbers
item_of field (item ∷ []) = option_map (stepped 1) (ends_of field item)
item_of field (range ∷ step ∷ []) = stepped_by (step_of step) (range_of field (pieces 45 range))
item_of field parts = None

-- ---- fields

-- what is in one of the sets
abbrev pub union : List Numbers → Numbers
union sets n = list_any (λ set. set n) sets

-- what is in one of the items
abbrev pub items_of : Field → List (List ℕ) → Option Numbers
items_of field items = option_map union (each (map (λ item. item_of field (pieces 47 item)) items))

-- a field is items between commas
abbrev pub field_of : Field → List ℕ → Option Numbers
field_of field text = items_of field (pieces 44 text)

abbrev pub begins_with_star : List ℕ → Bool
begins_with_star [] = false
begins_with_star (c ∷ text) = c == 42

-- ---- the whole text

-- 7 is Sunday too
abbrev pub on_weekday : Numbers → ℕ → Bool
on_weekday weekdays weekday = weekdays weekday || ((weekday == 0) && weekdays 7)

-- One of the day fields suffices, unless one of them begins with `*`.
abbrev pub on_day : Bool → Bool → Bool → Bool
on_day starred day weekday = if starred then day && weekday else day || weekday

abbrev pub cron_set : Numbers → Numbers → Numbers → Numbers → Bool → Locals
cron_set hours days months weekdays starred at =
    hours at.hour && months at.month && on_day starred (days at.day) (on_weekday weekdays at.weekday)

abbrev pub cron_with : Option Numbers → Option Numbers → Option Numbers → Option Numbers → Bool → Option Locals
cron_with hours days months weekdays starred =
    option_and_then (λ h. option_and_then (λ d. option_and_then (λ m. option_map (λ w. cron_set h d m w starred) weekdays) months) days) hours

-- what follows `*`: hours, days, months and weekdays
abbrev pub cron_of : List (List ℕ) → Option Locals
cron_of (hours ∷ days ∷ months ∷ weekdays ∷ []) =
    cron_with (field_of Hour hours) (field_of Day days) (field_of Month months) (field_of Weekday weekdays) (begins_with_star days || begins_with_star weekdays)
cron_of fields = None
