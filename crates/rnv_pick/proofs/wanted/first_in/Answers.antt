use Rattle.std.proofs.Common.{rules, ◌∙◌, ap, map}
use borrow.Author.Tests.{tests}
use Rattle.std.proofs.lemmas.Iterator.{YieldsList-from_slice}
use Rattle.std.proofs.lemmas.Iterator.Search.{find_from_yields_List}
use Rattle.rnv_pick.specs.Listing.{in_range}
use Rattle.rnv_pick.specs.Seen.{seen}
use Rattle.rnv_pick.proofs.Ranked.{find_seen, seen_of}
use Rattle.rnv_pick.proofs.wanted.first_in.Goals as goal

pub returns : goal.returns
returns g c =
    let n = g.V.Versioning.numbering c.args.versioning.now in
    let found = find_from_yields_List (λ l. in_range n c.args.range.now (seen l)) _ _ c.find.result c.find.ensures.ran (YieldsList-from_slice c.args.found.now c.iter.ensures.rest) (λ x b q k. search (rules, tests)) in
    seen_of c.find.result _ found ∙ find_seen (in_range n c.args.range.now) c.args.found.now
