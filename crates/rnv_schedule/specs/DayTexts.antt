-- Day texts: hours and days in words.
use Rattle.std.specs.Prelude.{ℕ, ◌+◌, ◌-◌, ◌%◌, ◌==◌, ◌&&◌, ◌||◌, nat_le, nat_lt, Bool, true, List, [], ◌∷◌, ◌++◌, length, map, take, drop, codes, Option, Some, None, option_map, option_and_then, if◌then◌else◌}
use Rattle.std.specs.List.{list_any, position_or_len}
use Rattle.rnv_schedule.specs.Cron.{Locals, Numbers}
use Rattle.rnv_schedule.specs.Words.{are_words, is_word, place_of, with_each}

-- ---- hours

abbrev pub clock_names : List (List ℕ)
clock_names = codes "12" ∷ codes "1" ∷ codes "2" ∷ codes "3" ∷ codes "4" ∷ codes "5" ∷ codes "6" ∷ codes "7" ∷ codes "8" ∷ codes "9" ∷ codes "10" ∷ codes "11" ∷ []

-- what a clock of twelve hours shows: 12 is 0; `:00` may stand behind
abbrev pub clock_of : List ℕ → Option ℕ
clock_of text = option_map (λ place. place % 12) (place_of (clock_names ++ map (λ name. name ++ codes ":00") clock_names) text)

-- the first hour of the half of the day
abbrev pub half_of : List ℕ → Option ℕ
half_of text = if is_word (codes "am") text then Some 0 else (if is_word (codes "pm") text then Some 12 else None)

-- an hour ends in `am` or `pm`
abbrev pub hour_of : List ℕ → Option ℕ
hour_of text =
    option_and_then (λ half. option_map (λ clock. half + clock) (clock_of (take (length text - 2) text))) (half_of (drop (length text - 2) text))

-- `before H` or `after H`
abbrev pub bound_of : List ℕ → ℕ → Option Numbers
bound_of word limit =
    if is_word (codes "before") word
    then Some (λ hour. nat_lt hour limit)
    else (if is_word (codes "after") word then Some (λ hour. nat_le limit hour) else None)

-- both bounds, or one of them where the first hour is above the second: over midnight
abbrev pub between : ℕ → ℕ → Numbers
between first last hour =
    if nat_lt last first then nat_le first hour || nat_lt hour last else nat_le first hour && nat_lt hour last

abbrev pub are_bounds : List ℕ → List ℕ → List ℕ → Bool
are_bounds after and before =
    is_word (codes "after") after && is_word (codes "and") and && is_word (codes "before") before

-- the hours of a time part
abbrev pub hours_of : List (List ℕ) → Option Numbers
hours_of [] = Some (λ hour. true)
hours_of (word ∷ hour ∷ []) = option_and_then (bound_of word) (hour_of hour)
hours_of (after ∷ first ∷ and ∷ before ∷ last ∷ []) =
    if are_bounds after and before then option_and_then (λ a. option_map (λ b. between a b) (hour_of last)) (hour_of first) else None
hours_of words = None

-- ---- days

abbrev pub day_names : List (List ℕ)
day_names = codes "sunday" ∷ codes "monday" ∷ codes "tuesday" ∷ codes "wednesday" ∷ codes "thursday" ∷ codes "friday" ∷ codes "saturday" ∷ []

-- names joined by `and`
abbrev pub named_days : List (List ℕ) → Option (List ℕ)
named_days [] = None
named_days (name ∷ []) = with_each (place_of day_names name) (Some [])
named_days (name ∷ and ∷ names) =
    if is_word (codes "and") and then with_each (place_of day_names name) (named_days names) else None

-- one of these weekdays
abbrev pub among : List ℕ → Locals
among weekdays at = list_any (λ weekday. weekday == at.weekday) weekdays

abbrev pub first_of_month : List (List ℕ)
first_of_month = codes "the" ∷ codes "first" ∷ codes "day" ∷ codes "of" ∷ codes "the" ∷ codes "month" ∷ []

-- what follows `on`: days, or the first day of the month
abbrev pub on_of : List (List ℕ) → Option Locals
on_of words = if are_words first_of_month words then Some (λ at. at.day == 1) else option_map among (named_days words)

-- what follows `every`: Monday to Friday, Saturday and Sunday, or one day
abbrev pub every_of : List (List ℕ) → Option Locals
every_of (name ∷ []) =
    if is_word (codes "weekday") name
    then Some (among (1 ∷ 2 ∷ 3 ∷ 4 ∷ 5 ∷ []))
    else (if is_word (codes "weekend") name
    then Some (among (0 ∷ 6 ∷ []))
    else option_map (λ day. among (day ∷ [])) (place_of day_names name))
every_of words = None

-- the dates of a day part
abbrev pub days_of : List (List ℕ) → Option Locals
days_of [] = Some (λ at. true)
days_of (word ∷ words) =
    if is_word (codes "every") word then every_of words else (if is_word (codes "on") word then on_of words else None)

-- ---- the whole text

abbrev pub begins_days : List ℕ → Bool
begins_days word = is_word (codes "every") word || is_word (codes "on") word

abbrev pub words_set : Numbers → Locals → Locals
words_set hours days at = hours at.hour && days at

abbrev pub both_parts : Option Numbers → Option Locals → Option Locals
both_parts hours days = option_and_then (λ h. option_map (words_set h) days) hours

-- the time part stands before the first `every` or `on`, the day part from there on
abbrev pub parts_at : ℕ → List (List ℕ) → Option Locals
parts_at place words = both_parts (hours_of (take place words)) (days_of (drop place words))

abbrev pub day_text_of : List (List ℕ) → Option Locals
day_text_of words = parts_at (position_or_len begins_days words) words
