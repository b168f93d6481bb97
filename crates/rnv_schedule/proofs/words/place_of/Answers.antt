use Rattle.std.proofs.Common.{rules, ◌∙◌}
use borrow.Author.Tests.{tests}
use Rattle.std.proofs.lemmas.Iterator.{YieldsList-from_slice}
use Rattle.std.proofs.lemmas.Iterator.Search.{position_from_yields_List}
use Rattle.rnv_schedule.specs.Words.{is_word}
use Rattle.rnv_schedule.proofs.Lists.{position-map}
use Rattle.rnv_schedule.proofs.words.place_of.Goals as goal

pub returns-clause-place : goal.returns-clause-place
returns-clause-place c =
    position_from_yields_List (λ w. is_word w.now c.args.text.now) _ _ c.position.result c.position.ensures.ran (YieldsList-from_slice c.args.words.now c.iter.ensures.rest) (λ x b q k. search (rules, tests))
    ∙ position-map (λ w. w.now) (λ w. is_word w c.args.text.now) c.args.words.now
