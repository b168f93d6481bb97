use Rattle.rnv_plan.specs.Taken.{readable_in}
use Rattle.rnv_plan.specs.Refusal.{HasUnsound, IsRefusal, refused_document}
use Rattle.rnv_plan.proofs.Told.{told-weaker}
use Rattle.rnv_plan.proofs.gather.gather_files.Goals as goal

pub returns-in-Ok-clause-refused : goal.returns-in-Ok-clause-refused
returns-in-Ok-clause-refused g c = λ t.
    let files = g.O.Folder.files c.args.folder.now in
    told-weaker c.gather_taken.result (HasUnsound files (readable_in c.in-Ok.taken)) (IsRefusal files c.args.files.now) (λ e refused. refused_document c.in-Ok.taken c.in-Ok.ensures.built refused) (c.gather_taken.ensures.refused t)

pub returns-in-Err-clause-refused : goal.returns-in-Err-clause-refused
returns-in-Err-clause-refused g c = λ t. c.in-Err.ensures.refused (g.O.Folder.files c.args.folder.now)
