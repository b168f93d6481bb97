use Rattle.std.proofs.Common.{◌≢◌, ℕ, List, lit<, codes, rules}
use borrow.Author.Tests.{tests}
use Rattle.std.proofs.lemmas.Iterator.{cases_from_all}
use Rattle.std.proofs.lemmas.Iterator.Splits.{YieldsList-from_str_split}
use Rattle.rnv_base.specs.Names.{segments}
use Rattle.rnv_base.proofs.Pieces.{every_piece}
use Rattle.rnv_checkout.proofs.kept.is_visible.Goals as goal

pub returns : goal.returns
returns c =
    let P : List ℕ → Type 0 = λ part. part ≢ codes ".git" in
    every_piece P c.all.result (segments c.args.path.now)
    (cases_from_all _ _ _ P (λ part. ¬ P part) c.all.ensures.ran
    (YieldsList-from_str_split 47 c.args.path.now (lit< tt) c.split.ensures.text c.split.ensures.has_more c.split.ensures.pattern)
    (λ x q k. search (rules, tests)) (λ x q k. search (rules, tests)))
