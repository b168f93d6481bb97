use Rattle.std.proofs.Common.{rules, ◌∙◌, ℕ, List, ap, refl}
use Rattle.std.specs.Slice.Iter.{iter_rest}
use borrow.Author.Tests.{tests}
use denote.Ref.{Bor}
use Rattle.std.proofs.lemmas.Iterator.{YieldsList-from_slice, YieldsList-from_zip}
use Rattle.std.proofs.lemmas.Iterator.Search.{all_from_yields_List}
use Rattle.rnv_schedule.specs.Words.{is_word}
use Rattle.rnv_schedule.proofs.Lists.{list_all-zip}
use Rattle.rnv_schedule.proofs.words.are_words.Goals as goal

pub returns-then-words-found : goal.returns-then-words-found
returns-then-words-found c =
    all_from_yields_List {B = Bor (List ℕ) × Bor (List ℕ)} (λ p. is_word p.0.now p.1.now) c.all.new.self _ c.all.result c.all.ensures.ran (YieldsList-from_zip (YieldsList-from_slice c.args.words.now (ap iter_rest c.zip.ensures.first ∙ c.iter.ensures.rest)) (YieldsList-from_slice c.args.found.now c.zip.ensures.second.0)) (λ x b q k. search (rules, tests))
    ∙ list_all-zip (λ x y. is_word x.now y.now) (λ x. x.now) (λ y. y.now) is_word (λ x y. refl) c.args.words.now c.args.found.now c.if-words-found.true
