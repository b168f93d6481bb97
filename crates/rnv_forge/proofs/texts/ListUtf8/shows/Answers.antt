use Rattle.std.proofs.Common.{◌≡◌, get_or, rules, arith, add-one, subst}
use Rattle.std.specs.List.{AllByRecursion}
use Rattle.rnv_forge.proofs.Each.{all_none, all_more, all_whole}
use Rattle.rnv_forge.proofs.texts.ListUtf8.shows.Goals as goal

pub loop-item-init : goal.loop-item-init
loop-item-init g c = all_none g.T.Utf8.is_utf8 c.as_slice-item-items.result.now

pub loop-item-preserved : goal.loop-item-preserved
loop-item-preserved g c =
    let items = c.as_slice-item-items.result.now in
    let i = c.loop-item.item-index in
    let item = c.item-item.result in
    let is : get_or items i item ≡ item = search rules in
    rw add-one (all_more g.T.Utf8.is_utf8 items i item (omega arith) is c.shows.ensures c.loop-item.invariant)

pub returns : goal.returns
returns g c = subst (λ l. AllByRecursion g.T.Utf8.is_utf8 l) c.as_slice-item-items.ensures (all_whole g.T.Utf8.is_utf8 _ c.loop-item.item-index c.loop-item-test.false c.loop-item.invariant)
