-- Dates and times of day, their texts and their moments.
use Rattle.std.proofs.Common.{◌≡◌, ℕ, ◌+◌, ◌*◌, ◌/◌, ◌%◌, ◌<◌, ◌↔◌, List, [], ◌∷◌, ◌++◌, slice_index, refl, ap, sym, arith, ℤ, pos, negsuc, ◌+ℤ◌, ◌*ℤ◌, ◌≤ℤ◌, unsigned_abs}
use Rattle.jiff_core.proofs.SignedLemmas.{signed_arith}
use Rattle.jiff_core.proofs.CalendarLemmas.{days_in_month_bounds}
use Rattle.rnv_base.specs.declared.civil.Civil.{Civil}
use Rattle.rnv_base.specs.Civil.{civil_text, civil_seconds}
use Rattle.rnv_base.specs.Moment.{IsMomentText, date_text, time_text}
use Rattle.jiff_core.specs.declared.civil.date.Date.{Date}

-- the seconds since 1970, from the days since -9999-01-01
pub counted : (day : ℤ) (days time moment : ℕ) → day +ℤ pos 4_371_587 ≡ pos days → (pos moment ≡ day *ℤ pos 86_400 +ℤ pos time) ↔ (moment + 377_705_116_800 ≡ days * 86_400 + time)
counted day days time moment e = (λ h. omega (arith, signed_arith), λ h. omega (arith, signed_arith))

-- the number is the one that two digits at the place spell
abbrev pub IsRead : List ℕ → ℕ → ℕ → Type 0
IsRead text place read = (n : ℕ) → n < 100 → slice_index text place ≡ 48 + n / 10 → slice_index text (place + 1) ≡ 48 + n % 10 → read ≡ n

-- the numbers are the parts of the date and time
pub record AreParts (at : Civil) (year month day hour minute second : ℕ) : Type 0 where
  pub years : at.date.year ≡ pos year
  pub months : at.date.month ≡ month
  pub days : at.date.day ≡ day
  pub hours : at.hour ≡ hour
  pub minutes : at.minute ≡ minute
  pub seconds : at.second ≡ second

abs_is : (z : ℤ) → pos 0 ≤ℤ z → z ≡ pos (unsigned_abs z)
abs_is (pos n) h = refl
abs_is (negsuc n) h = absurd (omega (arith, signed_arith))

pub year_is : (at : Civil) → at.date.year ≡ pos (unsigned_abs at.date.year)
year_is at = abs_is at.date.year at.years

pub parts_read : (at : Civil) (text : List ℕ) (century year month day hour minute second : ℕ) → text ≡ civil_text at → IsRead text 0 century → IsRead text 2 year → IsRead text 5 month → IsRead text 8 day → IsRead text 11 hour → IsRead text 14 minute → IsRead text 17 second → AreParts at (century * 100 + year) month day hour minute second
parts_read at text century year month day hour minute second e c y mo d h mi s =
    let long = days_in_month_bounds at.date.year at.date.month in
    let same = year_is at in
    let below : unsigned_abs at.date.year < 10_000 = omega (arith, signed_arith, at.date.year_in) in
    let century_is : century ≡ unsigned_abs at.date.year / 100 = c _ (omega arith) (ap (λ t. slice_index t 0) e) (ap (λ t. slice_index t 1) e) in
    let year_of : year ≡ unsigned_abs at.date.year % 100 = y _ (omega arith) (ap (λ t. slice_index t 2) e) (ap (λ t. slice_index t 3) e) in
    let whole : unsigned_abs at.date.year ≡ century * 100 + year = omega arith in
    record {
      years = rw (← whole) same;
      months = sym (mo _ (omega (arith, at.date.month_in)) (ap (λ t. slice_index t 5) e) (ap (λ t. slice_index t 6) e));
      days = sym (d _ (omega (arith, at.date.day_in, long)) (ap (λ t. slice_index t 8) e) (ap (λ t. slice_index t 9) e));
      hours = sym (h _ (omega (arith, at.hours)) (ap (λ t. slice_index t 11) e) (ap (λ t. slice_index t 12) e));
      minutes = sym (mi _ (omega (arith, at.minutes)) (ap (λ t. slice_index t 14) e) (ap (λ t. slice_index t 15) e));
      seconds = sym (s _ (omega (arith, at.seconds)) (ap (λ t. slice_index t 17) e) (ap (λ t. slice_index t 18) e));
    }

-- a date and a time of day with these parts are spelled the same
pub same_text : (date : Date) (at : Civil) (year month day hour minute second : ℕ) → date.year ≡ pos year → date.month ≡ month → date.day ≡ day → AreParts at year month day hour minute second → date_text (unsigned_abs date.year) date.month date.day ++ 84 ∷ time_text hour minute second ++ 90 ∷ [] ≡ civil_text at
same_text date at year month day hour minute second y m d p =
    rw (y, m, d, p.years, p.months, p.days, p.hours, p.minutes, p.seconds)

-- and count the same
same_count : (a b : Civil) (year month day hour minute second : ℕ) → AreParts a year month day hour minute second → AreParts b year month day hour minute second → civil_seconds a ≡ civil_seconds b
same_count a b year month day hour minute second p q =
    rw (p.years, p.months, p.days, p.hours, p.minutes, p.seconds, q.years, q.months, q.days, q.hours, q.minutes, q.seconds)

-- two digits determine their number
two_read : (m n : ℕ) → 48 + m / 10 ≡ 48 + n / 10 → 48 + m % 10 ≡ 48 + n % 10 → m ≡ n
two_read m n tens ones = omega arith

-- a text determines the seconds
pub same_seconds : (a b : Civil) → civil_text a ≡ civil_text b → civil_seconds a ≡ civil_seconds b
same_seconds a b e =
    let year = unsigned_abs a.date.year in
    let whole : year ≡ year / 100 * 100 + year % 100 = omega arith in
    let of_b = parts_read b (civil_text a) (year / 100) (year % 100) a.date.month a.date.day a.hour a.minute a.second e
    (λ n below. two_read _ n) (λ n below. two_read _ n) (λ n below. two_read _ n) (λ n below. two_read _ n) (λ n below. two_read _ n) (λ n below. two_read _ n) (λ n below. two_read _ n) in
    same_count a b _ _ _ _ _ _ (record { years = rw (← whole) (year_is a); months = refl; days = refl; hours = refl; minutes = refl; seconds = refl }) of_b

-- the text of a date and time spells its moment
pub spells : (at : Civil) (text : List ℕ) (moment : ℕ) → text ≡ civil_text at → pos moment ≡ civil_seconds at → IsMomentText text moment
spells at text moment e counts =
    let same = year_is at in
    record {
      year = unsigned_abs at.date.year;
      month = at.date.month;
      day = at.date.day;
      hour = at.hour;
      minute = at.minute;
      second = at.second;
      date = rw (← same) (at.date.year_in, at.date.month_in, at.date.day_in);
      hours = at.hours;
      minutes = at.minutes;
      seconds = at.seconds;
      spelled = e;
      counted = rw (← same) counts;
    }

pub record Spelt (text : List ℕ) (moment : ℕ) : Type 0 where
  pub at : Civil
  pub text_is : text ≡ civil_text at
  pub counts : pos moment ≡ civil_seconds at

-- and what is spelled is a date and time
pub spelt : (text : List ℕ) (moment : ℕ) → IsMomentText text moment → Spelt text moment
spelt text moment m = record {
  at = record {
    date = record { year = pos m.year; month = m.month; day = m.day; year_in = m.date.0; month_in = m.date.1; day_in = m.date.2 };
    hour = m.hour;
    minute = m.minute;
    second = m.second;
    years = omega (arith, signed_arith);
    hours = m.hours;
    minutes = m.minutes;
    seconds = m.seconds;
  };
  text_is = m.spelled;
  counts = m.counted;
}
