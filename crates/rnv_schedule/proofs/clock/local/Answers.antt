use Rattle.std.proofs.Common.{arith, ◌≡◌, ◌<◌, ◌+◌, ◌%◌, ◌^◌, ℕ, ℤ, pos, to_z, of_z, w8, w64, ap, subst, ◌∙◌}
use Rattle.std.proofs.lemmas.Int.{ints}
use lib.IntN.{nat_abs}
use lib.Signed.{mag}
use Rattle.jiff_core.specs.Timestamp.{nanos_of_seconds}
use Rattle.rnv_schedule.specs.Clock.{IsClock}
use Rattle.rnv_schedule.proofs.Locals.{local_only}
use Rattle.rnv_schedule.proofs.clock.local.Goals as goal

-- a small number is the same as a signed byte and as a byte
same : (z : ℤ) (n : ℕ) → z ≡ pos n → mag z < 128 → nat_abs (to_z w8 (of_z w8 z)) ≡ n
same z n e small = let f : n < 128 = subst (λ (x : ℤ). mag x < 128) e small in ap (λ (x : ℤ). nat_abs (to_z w8 (of_z w8 x))) e ∙ ap nat_abs (fits n f) where
  fits : (n : ℕ) → n < 128 → to_z w8 n ≡ pos n
  fits n f = omega (arith, ints)

pub returns-clause-shown : goal.returns-clause-shown
returns-clause-shown c =
    let fit : c.args.moment < 2 ^ 63 = omega arith in
    let wide : to_z w64 c.args.moment ≡ pos c.args.moment = omega (arith, ints) in
    let e : c.in-Ok.instant.nanosecond ≡ nanos_of_seconds (pos c.args.moment) = c.in-Ok.ensures.value ∙ ap nanos_of_seconds wide in
    record {
      clock = c.clock-clock.result;
      is_clock = subst (λ (n : ℤ). IsClock c.args.zone.now n c.clock-clock.result) e c.clock-clock.ensures;
      shown = record {
        month = same _ _ c.month.ensures c.month.type_inv;
        day = same _ _ c.day.ensures c.day.type_inv;
        hour = same _ _ c.hour.ensures c.hour.type_inv;
        weekday = same _ _ (c.to_sunday_zero_offset.ensures.value ∙ ap (λ (n : ℕ). pos ((n + 1) % 7)) c.weekday.ensures) c.to_sunday_zero_offset.type_inv;
      };
    }

pub returns-clause-only : goal.returns-clause-only
returns-clause-only c = λ other h. local_only c.args.zone.now c.args.moment other _ h (returns-clause-shown c)
