use Rattle.std.proofs.Common.{◌∙◌, ap, subst, sym}
use Rattle.rnv_base.specs.Moment.{IsMoment}
use Rattle.rnv_plan.proofs.Told.{IfTold-weaker}
use Rattle.rnv_steps.specs.declared.terms.Terms.{Terms}
use Rattle.rnv_run.specs.Repository.{IsBaseRefusal, many_items, not_gathered}
use Rattle.rnv_run.proofs.Wanted.{given_here, plain_fit, terms_told}
use Rattle.rnv_run.proofs.planning.given_of.Goals as goal

pub returns-in-Ok-desired-clause-given : goal.returns-in-Ok-desired-clause-given
returns-in-Ok-desired-clause-given g c =
    given_here g.O.Folder.tells (g.O.Folder.files c.args.folder.now) c.args.repo.files c.args.moment c.plain_terms.result.moment c.in-Ok.inputs.picked c.in-Ok-desired.items
    c.in-Ok.ensures.fit c.in-Ok.ensures.gathered c.in-Ok-desired.ensures.items (ap (λ (t : Terms). t.moment) c.plain_terms.ensures ∙ c.in-Ok.ensures.moment) c.requires.moment

pub returns-in-Ok-desired-clause-told : goal.returns-in-Ok-desired-clause-told
returns-in-Ok-desired-clause-told g c = terms_told c.args.repo c.plain_terms.result c.in-Ok.inputs.moment c.in-Ok-desired.items c.plain_terms.ensures

pub returns-in-Ok-desired-clause-fit : goal.returns-in-Ok-desired-clause-fit
returns-in-Ok-desired-clause-fit g c =
    plain_fit c.plain_terms.result.moment c.in-Ok-desired.items (subst IsMoment (sym (ap (λ (t : Terms). t.moment) c.plain_terms.ensures ∙ c.in-Ok.ensures.moment)) c.requires.moment) c.in-Ok-desired.ensures.distinct c.in-Ok-desired.ensures.ordered

pub returns-in-Err-desired-clause-refused : goal.returns-in-Err-desired-clause-refused
returns-in-Err-desired-clause-refused g c = λ t. IfTold-weaker _ (IsBaseRefusal (g.O.Folder.files c.args.folder.now) c.args.moment c.args.repo.files) c.in-Err-desired.error (λ f h. many_items _ (c.in-Ok.ensures.gathered t) h) c.in-Err-desired.ensures.many

pub returns-in-Err-clause-refused : goal.returns-in-Err-clause-refused
returns-in-Err-clause-refused g c = λ t. IfTold-weaker _ (IsBaseRefusal (g.O.Folder.files c.args.folder.now) c.args.moment c.args.repo.files) c.in-Err.error (λ f h. not_gathered h) (c.in-Err.ensures.refused t)
