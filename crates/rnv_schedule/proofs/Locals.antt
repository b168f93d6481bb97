-- A moment has one local date and hour in a zone.
use Rattle.std.proofs.Common.{arith, ◌≡◌, ◌+◌, ◌%◌, ℕ, ℤ, pos, ◌+ℤ◌, ◌*ℤ◌, List, Option, Some, None, Bool, true, false, refl, sym, ap, ◌∙◌}
use Rattle.std.specs.Prelude.{◌-ℤ◌, if◌then◌else◌, ◌&&◌, ◌||◌, int_lt, option_map}
use Rattle.jiff_core.specs.Date.{weekday_of}
use Rattle.jiff_core.specs.Calendar.{weekday_number}
use Rattle.jiff_core.specs.DateTime.{civil_nanos}
use Rattle.jiff_core.specs.Time.{time_nanos}
use Rattle.jiff_core.specs.Timestamp.{nanos_of_seconds}
use Rattle.jiff_core.specs.declared.Offset.{Offset}
use Rattle.jiff_core.specs.declared.civil.datetime.DateTime.{DateTime}
use Rattle.jiff_core.specs.declared.civil.time.Time.{Time}
use Rattle.jiff_core.proofs.DateLemmas.{epoch_day_injective}
use Rattle.jiff_core.proofs.DateTimeLemmas.{civil_nanos_injective}
use Rattle.jiff_tz.specs.PosixReader.{read_whole}
use Rattle.jiff_tz.specs.PosixRule.{dst_at_by, match_some, clamp_to, first_nanosecond, in_window, int_same, last_nanosecond, nanos_per_day, rule_day, rule_nanos, saturating_add, utc_window}
use Rattle.jiff_tz.specs.PosixText.{DstText, TzText, dst_view, tz_view}
use Rattle.jiff_tz.specs.Year.{year_of_nanos}
use Rattle.jiff_tz.specs.Zone.{offset_at}
use Rattle.jiff_tz.specs.declared.posix.Day.{Day}
use Rattle.jiff_tz.specs.declared.posix.Dst.{Dst}
use Rattle.jiff_tz.specs.declared.posix.TimeZone.{TimeZone as Rule}
use Rattle.jiff_tz.specs.declared.timezone.TimeZone.{TimeZone}
use Rattle.jiff_tz.specs.declared.timezone.TimeZone.TheVariants.{UTC, Unknown, Fixed, Posix, Tzif}
use Rattle.jiff.specs.Placed.{IsPosixZone}
use Rattle.rnv_schedule.specs.Clock.{IsLocal, IsRule, IsShown}
use Rattle.rnv_schedule.specs.declared.shown.Local.{Local}

-- ---- the offset of a rule is in what its text says

rule_at : ℤ → Day × ℤ → ℤ → ℤ
rule_at y d seconds = match_some (rule_day y d.0) (last_nanosecond y) (λ day.
    clamp_to (first_nanosecond y) (last_nanosecond y)
    (day *ℤ nanos_per_day +ℤ nanos_of_seconds (d.1 -ℤ seconds)))

window : DstText → ℤ → ℤ → ℤ × ℤ
window d y std =
    let start : ℤ = rule_at y d.start std in
    let end : ℤ = rule_at y d.finish d.seconds in
    let shifted : ℤ = saturating_add end (nanos_of_seconds std) in
    if int_same start (first_nanosecond y)
    && (int_lt shifted (first_nanosecond y) || int_lt (last_nanosecond y) shifted)
    then (start, last_nanosecond y)
    else (start, end)

offset_by : Option DstText → ℤ → ℤ → ℤ
offset_by dst std n = match_some dst std (λ d. if in_window (window d (year_of_nanos n) std) n then d.seconds else std)

offset_said : (std : Offset) (dst : Option Dst) (n : ℤ) → (match_some (dst_at_by std dst n) std (λ d. d.offset)).seconds ≡ offset_by (option_map dst_view dst) std.seconds n
unfolding utc_window rule_nanos rule_at window offset_by
offset_said std None n = refl
offset_said std (Some d) n = chosen (in_window (utc_window d (year_of_nanos n) std) n) where
  chosen : (b : Bool) → (match_some (if b then Some d else None) std (λ d. d.offset)).seconds ≡ (if b then d.offset.seconds else std.seconds)
  chosen true = refl
  chosen false = refl

offset_read : TzText → ℤ → ℤ
offset_read v n = offset_by v.dst v.std_seconds n

posix_said : (rule : Rule) (n : ℤ) → offset_at (Posix rule) n ≡ offset_read (tz_view rule) n
unfolding offset_at offset_read
posix_said rule n = offset_said rule.std_offset rule.dst n

same_read : (text : List ℕ) (a b : Rule) (n : ℤ) → read_whole text ≡ Some (tz_view a) → read_whole text ≡ Some (tz_view b) → offset_at (Posix a) n ≡ offset_at (Posix b) n
same_read text a b n p q =
    let e : tz_view a ≡ tz_view b = cc in
    posix_said a n ∙ ap (λ (v : TzText). offset_read v n) e ∙ sym (posix_said b n)

same_posix : (text : List ℕ) (a b : TimeZone) (n : ℤ) → IsPosixZone text a → IsPosixZone text b → offset_at a n ≡ offset_at b n
same_posix text (Posix a) (Posix b) n p q = same_read text a b n p q
same_posix text (Posix a) UTC n p q = absurd q
same_posix text (Posix a) Unknown n p q = absurd q
same_posix text (Posix a) (Fixed o) n p q = absurd q
same_posix text (Posix a) (Tzif z) n p q = absurd q
same_posix text UTC b n p q = absurd p
same_posix text Unknown b n p q = absurd p
same_posix text (Fixed o) b n p q = absurd p
same_posix text (Tzif z) b n p q = absurd p

same_offset : (zone : Option (List ℕ)) (a b : TimeZone) (n : ℤ) → IsRule zone a → IsRule zone b → offset_at a n ≡ offset_at b n
same_offset None a b n p q = ap (λ (r : TimeZone). offset_at r n) (p ∙ sym q)
same_offset (Some text) a b n p q = same_posix text a b n p q

-- ---- the parts that a clock shows are in its nanoseconds

same_hour : (a b : Time) → time_nanos a ≡ time_nanos b → a.hour ≡ b.hour
same_hour a b e = omega arith

same_shown : (a b : DateTime) (p q : Local) → civil_nanos a ≡ civil_nanos b → IsShown a p → IsShown b q → p ≡ q
same_shown a b p q e f g =
    let parts = civil_nanos_injective a b e in
    let dates = epoch_day_injective a.date b.date parts.0 in
    let days : weekday_of a.date ≡ weekday_of b.date = ap weekday_number parts.0 in
    let month : p.month ≡ q.month = f.month ∙ dates.1 ∙ sym g.month in
    let day : p.day ≡ q.day = f.day ∙ dates.2 ∙ sym g.day in
    let hour : p.hour ≡ q.hour = f.hour ∙ same_hour a.time b.time parts.1 ∙ sym g.hour in
    let weekday : p.weekday ≡ q.weekday = f.weekday ∙ ap (λ (n : ℕ). (n + 1) % 7) days ∙ sym g.weekday in
    λ i. record { month = month i; day = day i; hour = hour i; weekday = weekday i }

-- whatever is a local date and hour of the moment in the zone is the same
pub local_only : (zone : Option (List ℕ)) (moment : ℕ) (p q : Local) → IsLocal zone moment p → IsLocal zone moment q → p ≡ q
local_only zone moment p q f g =
    let n : ℤ = nanos_of_seconds (pos moment) in
    let offsets = same_offset zone f.is_clock.rule g.is_clock.rule n f.is_clock.read g.is_clock.read in
    let e : civil_nanos f.clock ≡ civil_nanos g.clock = f.is_clock.ahead ∙ ap (λ (o : ℤ). n +ℤ nanos_of_seconds o) offsets ∙ sym g.is_clock.ahead in
    same_shown f.clock g.clock p q e f.shown g.shown
