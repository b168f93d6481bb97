use Rattle.std.proofs.Common.{inl, inr, refl}
use Rattle.rnv_journal.proofs.Ones.{one_self}
use Rattle.rnv_commands.proofs.Stops.{keeps_same}
use Rattle.rnv_app.proofs.Answers.{none_left, none_of, plan_left}
use Rattle.rnv_app.proofs.top.answer_to.Goals as goal

pub returns-in-Ok-Plan-clause-answered : goal.returns-in-Ok-Plan-clause-answered
returns-in-Ok-Plan-clause-answered g c =
    inl (record { repo = _; now = _; asked = c.plan_for.ensures.asked; same = refl; plain = c.plan_for.ensures.plain; told = c.plan_for.ensures.told })

pub returns-in-Ok-Import-clause-answered : goal.returns-in-Ok-Import-clause-answered
returns-in-Ok-Import-clause-answered g c = inr (inl c.import_for.ensures.answered)

pub returns-in-Ok-Show-clause-answered : goal.returns-in-Ok-Show-clause-answered
returns-in-Ok-Show-clause-answered g c = inr (inr (inl c.show_for.ensures.answered))

pub returns-in-Err-clause-answered : goal.returns-in-Err-clause-answered
returns-in-Err-clause-answered g c =
    inr (inr (inr (inr (record { same = refl; keeps = keeps_same _ _; refused = none_of c.args.words.now c.in-Err.error _ c.not_read.ensures.usage c.not_read.ensures.memory c.in-Err.ensures.usage }))))

pub returns-in-Ok-Run-clause-answered : goal.returns-in-Ok-Run-clause-answered
returns-in-Ok-Run-clause-answered g c = inr (inr (inr (inl c.run_for.ensures.answered)))

pub returns-in-Ok-Plan-clause-other : goal.returns-in-Ok-Plan-clause-other
returns-in-Ok-Plan-clause-other g c = one_self _

pub returns-in-Err-clause-other : goal.returns-in-Err-clause-other
returns-in-Err-clause-other g c = one_self _

pub returns-in-Ok-Plan-clause-left : goal.returns-in-Ok-Plan-clause-left
returns-in-Ok-Plan-clause-left g c = λ t. plan_left _ _ _ _ _ c.plan_for.ensures.plain

pub returns-in-Err-clause-left : goal.returns-in-Err-clause-left
returns-in-Err-clause-left g c = λ t. none_left _ _ _ _ c.in-Err.error _ c.not_read.ensures.usage c.not_read.ensures.memory
