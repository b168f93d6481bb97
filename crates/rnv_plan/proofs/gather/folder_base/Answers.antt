use Rattle.rnv_plan.proofs.Bases.{order-unchanged, large-at}
use Rattle.rnv_plan.proofs.gather.folder_base.Goals as goal

pub returns-in_ok-unchanged-in-Ok-clause-order : goal.returns-in_ok-unchanged-in-Ok-clause-order
returns-in_ok-unchanged-in-Ok-clause-order g c = order-unchanged c.in-Ok.field-0.files c.in_ok-unchanged-in-Ok.field-0 c.in_ok-unchanged-in-Ok.ensures c.in-Ok.ensures.order

pub returns-in-Err-Limit-clause-refused : goal.returns-in-Err-Limit-clause-refused
returns-in-Err-Limit-clause-refused g c = λ t.
    let wrong = rw c.in-Err-Limit.field-0-is at (c.in-Err-Limit.ensures.refused t) in
    large-at c.args.repo.now (g.O.Folder.files c.args.folder.now) _ c.in-Err-Limit.which c.in-Err-Limit.number wrong (cc (c.in-Err-Limit.which-is, c.in-Err-Limit.number-is))
