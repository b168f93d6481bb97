use Rattle.std.proofs.Common.{rules, ◌∙◌, ap}
use Rattle.std.specs.Slice.Iter.{iter_rest}
use Rattle.std.specs.Prelude.{not}
use borrow.Author.Tests.{tests}
use Rattle.std.proofs.lemmas.Iterator.{YieldsList-from_slice}
use Rattle.std.proofs.lemmas.Iterator.Consumers.{count_from_yields_List}
use Rattle.std.proofs.lemmas.Iterator.Search.{YieldsList-from_take_while}
use Rattle.std.proofs.lemmas.List.Folds.{length-prefix_len}
use Rattle.rnv_schedule.specs.DayTexts.{begins_days}
use Rattle.rnv_schedule.proofs.Lists.{prefix_len-map}
use Rattle.rnv_schedule.proofs.schedule.days_place.Goals as goal

pub returns-clause-place : goal.returns-clause-place
returns-clause-place c =
    count_from_yields_List _ _ c.count.ensures.ran (YieldsList-from_take_while _ (λ w. not (begins_days w.now)) (YieldsList-from_slice c.args.words.now (ap iter_rest c.take_while.ensures.source ∙ c.iter.ensures.rest)) c.take_while.ensures.closure c.take_while.ensures.done (λ x b q k. search (rules, tests)))
    ∙ (length-prefix_len (λ w. not (begins_days w.now)) c.args.words.now
    ∙ prefix_len-map (λ w. w.now) (λ w. not (begins_days w)) c.args.words.now)
