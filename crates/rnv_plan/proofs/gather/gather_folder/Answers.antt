use Rattle.std.proofs.Common.{Err, List, ap, subst, ◌∙◌}
use Rattle.std.proofs.lemmas.Result.{err_from_is_err_and}
use Rattle.rnv_base.specs.Files.{NamedFile}
use Rattle.rnv_plan.specs.Gather.{IsGathered}
use Rattle.rnv_plan.specs.Refusal.{IfTold, IsRefusal}
use Rattle.rnv_plan.specs.Plan.{IsFolderRefusal, of_files}
use Rattle.rnv_plan.proofs.Bases.{folder-fine}
use Rattle.rnv_plan.proofs.Told.{told-at}
use Rattle.rnv_plan.proofs.gather.gather_folder.Goals as goal

pub returns-in_err-inputs-clause-refused : goal.returns-in_err-inputs-clause-refused
returns-in_err-inputs-clause-refused g c = λ t.
    let files = g.O.Folder.files c.args.folder.now in
    let base = c.in_ok-files.files in
    let refused = c.in_err-inputs.field-0.0 in
    let ends = err_from_is_err_and c.from_residual-in_err-inputs.result c.from_residual-in_err-inputs.ensures.1 in
    told-at c.from_residual-in_err-inputs.result refused (IsRefusal files base) (IsFolderRefusal c.args.repo.now files) (ends.1 ∙ ap Err ends.2)
    (λ e cause. of_files base (c.in_ok-files.ensures.base t) cause)
    (subst (λ (fs : List NamedFile). IfTold (IsRefusal fs base) refused) (c.in_ok-files.ensures.same t) (c.in_err-inputs.ensures.refused t))

pub returns-clause-exactly : goal.returns-clause-exactly
returns-clause-exactly g c = λ t.
    folder-fine c.args.repo.now (g.O.Folder.files c.args.folder.now) c.args.moment (record { inputs = c.in_ok-inputs.inputs; files = c.in_ok-files.files }) (record {
      at = c.in_ok-inputs.ensures.moment;
      base = c.in_ok-files.ensures.base t;
      gathered = subst (λ (fs : List NamedFile). IsGathered fs c.args.moment c.in_ok-files.files c.in_ok-inputs.inputs.picked) (c.in_ok-files.ensures.same t) (c.in_ok-inputs.ensures.gathered t);
    })
