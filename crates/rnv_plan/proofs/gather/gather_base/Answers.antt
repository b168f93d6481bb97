use Rattle.std.proofs.Common.{List, ap, sym, subst}
use Rattle.rnv_repo.specs.Files.{MarkedFile}
use Rattle.rnv_plan.specs.declared.inputs.Inputs.{Inputs}
use Rattle.rnv_plan.specs.Gather.{AreFit, IsGathered, IsPickedFrom}
use Rattle.rnv_plan.proofs.Fit.{are-fit}
use Rattle.rnv_plan.proofs.Refused.{gathered-fine}
use Rattle.rnv_plan.proofs.gather.gather_base.Goals as goal

pub returns-clause-fit : goal.returns-clause-fit
returns-clause-fit g c =
    let from = subst (λ (fs : List MarkedFile). IsPickedFrom c.args.moment fs c.in_ok-picked.picked) c.as_slice.ensures c.in_ok-picked.ensures.picked in
    subst (AreFit c.args.files.now) (sym (ap (λ (i : Inputs). i.picked) c.in_ok-inputs.ensures)) (are-fit c.args.moment c.args.files.now c.in_ok-picked.picked c.requires from)

pub returns-clause-exactly : goal.returns-clause-exactly
returns-clause-exactly g c = λ t.
    let files = g.O.Folder.files c.args.folder.now in
    gathered-fine files c.args.moment c.args.files.now c.in_ok-picked.picked (subst (λ (fs : List MarkedFile). IsGathered files c.args.moment fs c.in_ok-picked.picked) c.as_slice.ensures (c.in_ok-picked.ensures.gathered t))
