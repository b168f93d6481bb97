use Rattle.std.proofs.Common.{arith, ◌*◌, ◌≤◌, ◌∙◌, ℕ, Some, None, ap, sym, refl, length, take}
use Rattle.std.proofs.lemmas.List.{length-take}
use Rattle.rnv_schedule.specs.Ages.{past_space, unit_seconds}
use Rattle.rnv_schedule.proofs.AgeTexts.{age_long, age_short, rest_is}
use Rattle.rnv_schedule.proofs.age.age.Goals as goal

pub returns-then-digits-gt5 : goal.returns-then-digits-gt5
returns-then-digits-gt5 c = age_long c.args.text.now c.digit_count-digits.result c.digit_count-digits.ensures.count c.if-digits-gt5.true

pub returns-in_err-count : goal.returns-in_err-count
returns-in_err-count c =
    let few : length (take c.digit_count-digits.result c.args.text.now) ≤ 6 = omega (arith, length-take c.digit_count-digits.result c.args.text.now) in
    c.from_residual.ensures
    ∙ age_short c.args.text.now c.digit_count-digits.result None _ c.digit_count-digits.ensures.count c.if-digits-gt5.false (sym c.in_err-count.was ∙ c.number.ensures.short few) refl

pub returns-in_err-seconds : goal.returns-in_err-seconds
returns-in_err-seconds c =
    let few : length (take c.digit_count-digits.result c.args.text.now) ≤ 6 = omega (arith, length-take c.digit_count-digits.result c.args.text.now) in
    c.from_residual-in_err-seconds.ensures
    ∙ age_short c.args.text.now c.digit_count-digits.result (Some c.in_ok-count.count) None c.digit_count-digits.ensures.count c.if-digits-gt5.false (sym c.in_ok-count.was ∙ c.number.ensures.short few) (sym c.in_err-seconds.was ∙ (c.unit_seconds.ensures.value ∙ ap unit_seconds (c.past_space.ensures ∙ ap past_space (rest_is c.digit_count-digits.result c.args.text.now))))

pub returns : goal.returns
returns c =
    let few : length (take c.digit_count-digits.result c.args.text.now) ≤ 6 = omega (arith, length-take c.digit_count-digits.result c.args.text.now) in
    ap (λ (n : ℕ). Some (n * c.in_ok-seconds.seconds)) c.from.ensures
    ∙ age_short c.args.text.now c.digit_count-digits.result (Some c.in_ok-count.count) (Some c.in_ok-seconds.seconds) c.digit_count-digits.ensures.count c.if-digits-gt5.false (sym c.in_ok-count.was ∙ c.number.ensures.short few) (sym c.in_ok-seconds.was ∙ (c.unit_seconds.ensures.value ∙ ap unit_seconds (c.past_space.ensures ∙ ap past_space (rest_is c.digit_count-digits.result c.args.text.now))))
