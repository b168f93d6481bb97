use Rattle.std.proofs.Common.{◌≡◌, Bool, List, [], sym, subst, is_none, unwrap_or}
use Rattle.std.proofs.lemmas.Result.{IfOk-weaker}
use Rattle.rnv_pick.specs.declared.update.Picked.{Picked}
use Rattle.rnv_pick.specs.Listing.{Listed}
use Rattle.rnv_pick.specs.Ranking.{IsRanked}
use Rattle.rnv_pick.specs.Seen.{all_seen}
use Rattle.rnv_pick.specs.Updates.{IsPickedOf}
use Rattle.rnv_pick.proofs.Alike.{picked_from}
use Rattle.rnv_pick.proofs.Ranked.{none_seen, ranked_from}
use Rattle.rnv_pick.proofs.picking.picked.Goals as goal

pub picked_of-requires : goal.picked_of-requires
picked_of-requires g c =
    let n = g.V.Versioning.numbering c.args.versioning.now in
    subst (λ (found : List (Listed g.row.V-Version.Denot)). IsRanked n found) (sym c.versions-versions.ensures) (ranked_from n c.requires.0 (all_seen c.args.found) c.requires.1)

pub returns : goal.returns
returns g c = λ releases is.
    let n = g.V.Versioning.numbering c.args.versioning.now in
    let o = g.O.Rules.options c.args.rules.now in
    let missing : c.is_none-is_missing.result ≡ is_none (all_seen c.args.found) = none_seen c.args.found c.is_none-is_missing.result c.is_none-is_missing.ensures in
    let all = all_seen c.args.found in
    IfOk-weaker c.picked_of.result _ _ (λ (p : Picked) (picks : _).
    picked_from n o c.args.moment c.args.dep.now releases all p is
    (subst (λ (b : Bool). IsPickedOf n o c.args.moment c.args.dep.now b (unwrap_or all []) p) missing (subst (λ (found : List (Listed g.row.V-Version.Denot)). IsPickedOf n o c.args.moment c.args.dep.now c.is_none-is_missing.result found p) c.versions-versions.ensures picks))) c.picked_of.ensures
