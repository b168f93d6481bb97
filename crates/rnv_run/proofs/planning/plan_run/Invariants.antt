use Rattle.rnv_run.specs.Stage.{given_by}
use Rattle.rnv_run.proofs.planning.plan_run.Given as goal

abbrev pub ghost-plan_writes : goal.ghost-plan_writes
ghost-plan_writes g a = given_by a.terms.now.moment a.items.now
