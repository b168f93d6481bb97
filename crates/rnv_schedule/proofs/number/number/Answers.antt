use Rattle.std.proofs.Common.{sym, ap, ◌∙◌, ◌+◌, ◌*◌, min, ℕ}
use Rattle.rnv_schedule.proofs.Digits.{all_more, short_number, value_more}
use Rattle.rnv_schedule.proofs.number.number.Goals as goal

pub loop-digit-preserved : goal.loop-digit-preserved
loop-digit-preserved c =
    let i = c.loop-digit.digit-index in
    let digit = sym c.is_ascii_digit.ensures.value ∙ c.if-not-is_ascii_digit.false in (
      all_more c.args.text.now i c.loop-digit-test.true c.loop-digit.invariant.0 digit,
      value_more c.args.text.now i c.loop-digit.number c.min-number.result c.loop-digit-test.true c.loop-digit.invariant.1 digit (c.min-number.ensures ∙ ap (λ (n : ℕ). min (c.loop-digit.number * 10 + n) 1_000_000) c.from.ensures),
    )

pub returns-clause-short : goal.returns-clause-short
returns-clause-short c =
    short_number c.args.text.now c.loop-digit.number c.loop-digit.digit-index (sym c.is_empty.ensures ∙ c.if-is_empty.false) c.loop-digit-test.false c.loop-digit.invariant.0 c.loop-digit.invariant.1
