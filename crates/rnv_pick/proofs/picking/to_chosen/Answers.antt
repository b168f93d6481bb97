use Rattle.std.proofs.lemmas.Result.{IfOk-weaker}
use Rattle.std.proofs.Common.{map}
use Rattle.rnv_pick.specs.Seen.{aim_of, seen}
use Rattle.rnv_pick.proofs.Ranked.{all_named_of}
use Rattle.rnv_pick.proofs.ToChosen.{to_chosen}
use Rattle.rnv_pick.proofs.picking.to_chosen.Goals as goal

pub to_each-requires-clause-versions : goal.to_each-requires-clause-versions
to_each-requires-clause-versions g c = all_named_of (g.V.Versioning.numbering c.args.versioning.now) c.args.found.now c.requires.ranked

pub returns : goal.returns
returns g c =
    let n = g.V.Versioning.numbering c.args.versioning.now in
    let o = g.O.Rules.options c.args.rules.now in
    IfOk-weaker c.to_each.result _ _ (λ updates is.
    to_chosen n o c.args.moment (aim_of c.args.target.now) c.in_ok-allowance.allowance (map seen c.args.found.now) updates (g.met.V.Versioning.total c.args.versioning.now) c.keeps_laws.ensures.kinds
    c.in_ok-allowance.ensures c.requires.ranked is) c.to_each.ensures
