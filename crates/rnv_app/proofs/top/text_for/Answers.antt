use Rattle.std.proofs.Common.{subst, sym}
use Rattle.rnv_app.specs.Top.{HasPlan}
use Rattle.rnv_app.proofs.Answers.{has_plan}
use Rattle.rnv_app.proofs.top.text_for.Goals as goal

pub returns-in-Ok-clause-plan : goal.returns-in-Ok-clause-plan
returns-in-Ok-clause-plan c = λ files planned built.
    subst (HasPlan c.args.words.now files) (sym c.new.ensures) (has_plan c.args.words.now files _ c.args.repo.now c.args.now c.args.items.now c.requires planned built c.in-Ok.ensures)
