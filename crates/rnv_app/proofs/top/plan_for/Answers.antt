use Rattle.std.proofs.Common.{◌≡◌, ◌∙◌, Err, ap, sym, subst}
use Rattle.rnv_app.specs.declared.refusal.Refusal.{Refusal}
use Rattle.rnv_app.specs.declared.refusal.Refusal.TheVariants.{FolderFault}
use Rattle.rnv_app.specs.Top.{IsOfPlan, Tells}
use Rattle.rnv_app.proofs.Answers.{plain_of, plan_fault, refusal_plain, refusal_tells, tells_of}
use Rattle.rnv_app.proofs.top.plan_for.Goals as goal

pub returns-in-Ok-clause-told : goal.returns-in-Ok-clause-told
returns-in-Ok-clause-told g c = λ t.
    tells_of c.args.words.now (g.O.Folder.files c.args.folder.now) c.text_for.result (c.text_for.ensures.plan (g.O.Folder.files c.args.folder.now) (c.in-Ok.ensures.planned t) (c.in-Ok.ensures.exactly t)) c.text_for.ensures.memory

pub returns-in-Ok-clause-plain : goal.returns-in-Ok-clause-plain
returns-in-Ok-clause-plain g c = plain_of c.text_for.result c.text_for.ensures.memory

pub returns-in-Err-clause-plain : goal.returns-in-Err-clause-plain
returns-in-Err-clause-plain g c = subst IsOfPlan (sym c.plan_refusal_of.ensures) (refusal_plain c.in-Err.error (λ e. c.in-Err.ensures.disk (ap Err e)))

pub returns-in-Err-clause-told : goal.returns-in-Err-clause-told
returns-in-Err-clause-told g c = λ t.
    let files = g.O.Folder.files c.args.folder.now in
    subst (λ (r : Refusal). Tells c.args.words.now files (Err r)) (sym c.plan_refusal_of.ensures) (refusal_tells c.args.words.now files c.args.repo.now c.args.now c.in-Err.error (λ e. c.in-Err.ensures.disk (ap Err e)) c.requires (c.in-Err.ensures.refused t))

pub returns-in-Err-clause-cause : goal.returns-in-Err-clause-cause
returns-in-Err-clause-cause g c = record {
  later = c.in-Err.ensures.cause.later;
  failed = λ is.
      let same : c.plan_refusal_of.result ≡ FolderFault = cc is in
      c.in-Err.ensures.cause.failed (ap Err (plan_fault c.in-Err.error (sym c.plan_refusal_of.ensures ∙ same)));
}
