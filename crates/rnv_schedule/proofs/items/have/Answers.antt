use Rattle.std.proofs.Common.{rules, ◌∙◌}
use borrow.Author.Tests.{tests}
use Rattle.std.proofs.lemmas.Iterator.{YieldsList-from_slice}
use Rattle.std.proofs.lemmas.Iterator.Search.{any_from_yields_List}
use Rattle.rnv_schedule.specs.Schedules.{span_set}
use Rattle.rnv_schedule.proofs.Lists.{list_any-map}
use Rattle.rnv_schedule.proofs.items.have.Goals as goal

pub returns : goal.returns
returns c =
    any_from_yields_List (λ s. span_set s c.args.n) _ _ c.any.result c.any.ensures.ran (YieldsList-from_slice c.args.spans.now c.iter.ensures.rest) (λ x b q k. search (rules, tests))
    ∙ list_any-map span_set (λ set. set c.args.n) c.args.spans.now
