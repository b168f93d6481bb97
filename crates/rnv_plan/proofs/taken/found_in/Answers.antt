use Rattle.std.proofs.Common.{Err, ◌∙◌, ap, inr}
use Rattle.rnv_manager.specs.Finds.{views}
use Rattle.rnv_plan.proofs.taken.found_in.Goals as goal

pub returns-in-Err-BadSyntax : goal.returns-in-Err-BadSyntax
returns-in-Err-BadSyntax c = inr (record {
  unread = λ utf8. c.extract.ensures.bad (c.in-Err-BadSyntax.is ∙ ap Err c.in-Err-BadSyntax.field-0-is);
  same = ap views c.empty.ensures;
})
