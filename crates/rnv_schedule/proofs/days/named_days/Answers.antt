use Rattle.std.proofs.Common.{arith, ◌+◌, ◌<◌, ◌∙◌, ap, sym, ℕ, List, Some, length, drop}
use Rattle.rnv_schedule.specs.DayTexts.{named_days}
use Rattle.rnv_schedule.specs.Words.{texts}
use Rattle.rnv_schedule.proofs.Joining.{behind, ends_here, goes_on, none_named, refused_here}
use Rattle.rnv_schedule.proofs.days.named_days.Goals as goal

pub returns-in_default : goal.returns-in_default
returns-in_default c =
    let at = c.loop-at.at in
    refused_here c.args.words.now at c.loop-at.days (none_named (drop at (texts c.args.words.now)) (sym c.day_at.ensures ∙ c.in_default.is)) c.loop-at.invariant

pub returns-then-at-words : goal.returns-then-at-words
returns-then-at-words c =
    ends_here c.args.words.now c.loop-at.at c.in-Some.day c.loop-at.days c.if-at-words.true (sym c.day_at.ensures ∙ c.in-Some.is) c.loop-at.invariant
    ∙ ap (λ (l : List ℕ). Some l) (sym c.in_ok-push.ensures.ok)

pub loop-at-preserved : goal.loop-at-preserved
loop-at-preserved c =
    let more : c.loop-at.at + 1 < length c.args.words.now = omega (arith, c.if-at-words.false, c.loop-at-test.true) in
    ap (λ (l : List ℕ). behind l (named_days (drop (c.loop-at.at + 2) (texts c.args.words.now)))) c.in_ok-push.ensures.ok
    ∙ goes_on c.args.words.now c.loop-at.at c.in-Some.day c.loop-at.days more (sym c.day_at.ensures ∙ c.in-Some.is) c.loop-at.invariant
