use Rattle.std.proofs.lemmas.Result.{IfOk-weaker}
use Rattle.rnv_plan.specs.declared.error.RunError.{RunError}
use Rattle.rnv_plan.specs.Kept.{kept_updates}
use Rattle.rnv_plan.specs.Plan.{AreFewGroups, HaveManyGroups, IsFolderRefusal, IsPlanRefusal, not_gathered, many_items}
use Rattle.rnv_plan.proofs.Bases.{plan-fine}
use Rattle.rnv_plan.proofs.Told.{told-weaker, IfTold-weaker}
use Rattle.rnv_plan.proofs.planning.plan_folder.Goals as goal

pub returns-in-Ok-clause-planned : goal.returns-in-Ok-clause-planned
returns-in-Ok-clause-planned g c = λ t.
    IfOk-weaker c.picked_items.result _ _ (λ items few. record { planned = c.in-Ok.planned; gathered = c.in-Ok.ensures.gathered t; few = few }) c.picked_items.ensures.few

pub returns-in-Ok-clause-refused : goal.returns-in-Ok-clause-refused
returns-in-Ok-clause-refused g c = λ t.
    told-weaker c.picked_items.result (HaveManyGroups (kept_updates c.in-Ok.planned.inputs.picked)) (IsPlanRefusal c.args.repo.now c.args.moment (g.O.Folder.files c.args.folder.now))
    (λ e many. many_items c.in-Ok.planned (c.in-Ok.ensures.gathered t) many) c.picked_items.ensures.many

pub returns-in-Ok-clause-exactly : goal.returns-in-Ok-clause-exactly
returns-in-Ok-clause-exactly g c = λ t.
    IfOk-weaker c.picked_items.result (AreFewGroups (kept_updates c.in-Ok.planned.inputs.picked)) (λ items. (e : RunError) → ¬ (IsPlanRefusal c.args.repo.now c.args.moment (g.O.Folder.files c.args.folder.now) e))
    (λ items few. plan-fine c.args.repo.now (g.O.Folder.files c.args.folder.now) c.args.moment items (record { planned = c.in-Ok.planned; gathered = c.in-Ok.ensures.gathered t; few = few })) c.picked_items.ensures.few

pub returns-in-Err-clause-refused : goal.returns-in-Err-clause-refused
returns-in-Err-clause-refused g c = λ t.
    IfTold-weaker (IsFolderRefusal c.args.repo.now (g.O.Folder.files c.args.folder.now)) (IsPlanRefusal c.args.repo.now c.args.moment (g.O.Folder.files c.args.folder.now)) c.in-Err.error
    (λ e refused. not_gathered refused) (c.in-Err.ensures.refused t)
