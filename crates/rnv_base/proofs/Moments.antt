-- One text for each moment.
use Rattle.std.proofs.Common.{◌≡◌, ℕ, ◌+◌, ◌*◌, ◌/◌, ◌%◌, ◌<◌, ◌≤◌, List, inl, lit<, sym, ◌∙◌, arith, rules, ℤ, pos, ◌+ℤ◌, ◌*ℤ◌, ◌≤ℤ◌, unsigned_abs}
use Rattle.std.specs.List.{AllByRecursion}
use Rattle.std.specs.Str.{IsUtf8}
use Rattle.std.proofs.lemmas.Str.{IsUtf8-from_ascii}
use Rattle.std.proofs.lemmas.Str.Ascii.{IsAscii-from_all}
use Rattle.std.proofs.lemmas.List.Elements.{All-from_recursion}
use Rattle.std.proofs.lemmas.Int.{by_lt_z}
use Rattle.jiff_core.specs.declared.civil.date.Date.{Date}
use Rattle.jiff_core.specs.Date.{epoch_day}
use Rattle.jiff_core.proofs.SignedLemmas.{signed_arith}
use Rattle.jiff_core.proofs.CalendarLemmas.{days_in_month_bounds}
use Rattle.jiff_core.proofs.DateLemmas.{epoch_day-lt, epoch_day_injective}
use Rattle.jiff_core.proofs.StandardFacts.{known_days}
use Rattle.rnv_base.specs.declared.civil.Civil.{Civil}
use Rattle.rnv_base.specs.Civil.{civil_text, civil_seconds}
use Rattle.rnv_base.specs.Moment.{IsMomentText}
use Rattle.rnv_base.proofs.Civils.{spelt, year_is}

epoch : Date
epoch = record { year = pos 1970; month = 1; day = 1; year_in = search rules; month_in = search rules; day_in = search rules }

-- a day from 1970-01-01 on is of a year from 0 on
pub from_1970 : (date : Date) (days : ℕ) → epoch_day date +ℤ pos 4_371_587 ≡ pos days → 4_371_587 ≤ days → pos 0 ≤ℤ date.year
unfolding epoch
from_1970 date days e h =
    by_lt_z date.year (pos 0)
    (λ lt. let early = epoch_day-lt date epoch (inl (omega (arith, signed_arith))) in absurd (omega (arith, signed_arith, known_days.0)))
    (λ le. le)

year_below : (at : Civil) → unsigned_abs at.date.year < 10_000
year_below at = let same = year_is at in omega (arith, signed_arith, at.date.year_in)

two_ascii : {A : Type 0} (n : ℕ) → n < 100 → A → (48 + n / 10 < 128) × ((48 + n % 10 < 128) × A)
two_ascii n below ascii = (omega arith, (omega arith, ascii))

-- the text is ASCII
pub civil_text-utf8 : (at : Civil) → IsUtf8 (civil_text at)
civil_text-utf8 at =
    let year = year_below at in
    let month : at.date.month < 100 = omega (arith, at.date.month_in) in
    let day : at.date.day < 100 = omega (arith, at.date.day_in, days_in_month_bounds at.date.year at.date.month) in
    let hour : at.hour < 100 = omega (arith, at.hours) in
    let minute : at.minute < 100 = omega (arith, at.minutes) in
    let second : at.second < 100 = omega (arith, at.seconds) in
    let ascii : AllByRecursion (λ b. b < 128) (civil_text at) =
    two_ascii _ (omega arith) (two_ascii _ (omega arith) (
      lit< tt,
      two_ascii _ month (
        lit< tt,
        two_ascii _ day
            (lit< tt, two_ascii _ hour (lit< tt, two_ascii _ minute (lit< tt, two_ascii _ second (lit< tt, tt)))),
      ),
    )) in
    IsUtf8-from_ascii (civil_text at) (IsAscii-from_all (civil_text at) (All-from_recursion (λ b. b < 128) (civil_text at) ascii))

-- the seconds of the day determine the time of day
time_is : (a b : Civil) → a.hour * 3600 + a.minute * 60 + a.second ≡ b.hour * 3600 + b.minute * 60 + b.second → (a.hour ≡ b.hour) × (a.minute ≡ b.minute) × (a.second ≡ b.second)
time_is a b e = (omega (arith, a.minutes, a.seconds, b.minutes, b.seconds), omega (arith, a.minutes, a.seconds, b.minutes, b.seconds), omega (arith, a.minutes, a.seconds, b.minutes, b.seconds))

-- the seconds since 1970 determine the day and the second of the day
split : (a b : ℤ) (s t : ℕ) → s < 86_400 → t < 86_400 → a *ℤ pos 86_400 +ℤ pos s ≡ b *ℤ pos 86_400 +ℤ pos t → (a ≡ b) × (s ≡ t)
split a b s t low high e = (omega (arith, signed_arith), omega (arith, signed_arith))

-- and so the text
pub same_text_from : (a b : Civil) → civil_seconds a ≡ civil_seconds b → civil_text a ≡ civil_text b
same_text_from a b e =
    let parts = split (epoch_day a.date) (epoch_day b.date) (a.hour * 3600 + a.minute * 60 + a.second) (b.hour * 3600 + b.minute * 60 + b.second)
    (omega (arith, a.hours, a.minutes, a.seconds)) (omega (arith, b.hours, b.minutes, b.seconds)) e in
    let date = epoch_day_injective a.date b.date parts.0 in
    let time = time_is a b parts.1 in
    rw (date.0, date.1, date.2, time.0, time.1, time.2)

-- a moment has one text
pub one_text : (at : Civil) (moment : ℕ) → pos moment ≡ civil_seconds at → (other : List ℕ) → IsMomentText other moment → other ≡ civil_text at
one_text at moment counts other text =
    let s = spelt other moment text in
    s.text_is ∙ same_text_from s.at at (sym s.counts ∙ counts)
