use Rattle.std.proofs.Common.{◌∙◌, map, sym}
use Rattle.std.proofs.lemmas.Result.{IfOk-weaker}
use Rattle.rnv_pick.specs.Seen.{seen, seen_at}
use Rattle.rnv_pick.proofs.Ranked.{current_found, first_greatest_in}
use Rattle.rnv_pick.proofs.picking.current_in.Goals as goal

pub returns-else-exact : goal.returns-else-exact
returns-else-exact g c =
    let n = g.V.Versioning.numbering c.args.versioning.now in
    let found = map seen c.args.found.now in
    IfOk-weaker c.text_of.result _ _ (λ text is.
    current_found n c.args.value.now c.args.range.now found text (sym c.exact.ensures ∙ c.if-exact.false)
    (first_greatest_in n (g.met.V.Versioning.total c.args.versioning.now) c.args.range.now found (seen_at c.first_in.result) text c.requires.ranked c.first_in.ensures is)) c.text_of.ensures
