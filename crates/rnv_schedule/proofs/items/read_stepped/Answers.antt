use Rattle.std.proofs.Common.{ap, sym, ◌∙◌, List, ℕ}
use Rattle.rnv_schedule.specs.Cron.{range_of, step_of}
use Rattle.rnv_schedule.specs.Words.{texts}
use Rattle.rnv_schedule.proofs.Spans.{stepped_read}
use Rattle.rnv_schedule.proofs.items.read_stepped.Goals as goal

pub returns-in-Some-Some : goal.returns-in-Some-Some
returns-in-Some-Some c =
    let same = ap (λ (l : List (List ℕ)). range_of c.args.field l) (sym c.in_ok-parts.ensures ∙ ap texts (sym c.as_slice.ensures.value)) in
    stepped_read (step_of c.args.step_text.now) _ c.in-Some-Some.step c.in-Some-Some.first c.in-Some-Some.last _ (sym c.step.ensures.value ∙ c.in-Some-Some.is-0) (same ∙ (sym c.range.ensures ∙ c.in-Some-Some.is-1)) c.spaced.ensures
