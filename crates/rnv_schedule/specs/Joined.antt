-- The first of names that are joined by `and`.
use Rattle.std.specs.Prelude.{ℕ, List, [], ◌∷◌, Option, None, codes, if◌then◌else◌}
use Rattle.rnv_schedule.specs.DayTexts.{day_names}
use Rattle.rnv_schedule.specs.Words.{is_word, place_of}

-- the day of a name that `and` follows
abbrev pub joined_day : List ℕ → List ℕ → Option ℕ
joined_day name and = if is_word (codes "and") and then place_of day_names name else None

-- the day of the first name, which `and` follows or nothing
abbrev pub first_day : List (List ℕ) → Option ℕ
first_day [] = None
first_day (name ∷ []) = place_of day_names name
first_day (name ∷ and ∷ names) = joined_day name and
