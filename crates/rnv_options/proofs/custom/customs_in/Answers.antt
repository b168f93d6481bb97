use Rattle.std.proofs.Common.{drop, ◌+◌, sym, subst, arith}
use Rattle.rnv_pattern.proofs.Turns.{agrees_first, agrees_later, asks_none, asks_then}
use Rattle.rnv_options.specs.Customs.{IsCustomBuilt}
use Rattle.rnv_options.specs.Readings.{Each}
use Rattle.rnv_options.proofs.Listed.{customs-end, customs-start, customs-step, customs-stop}
use Rattle.rnv_options.proofs.Turned.{all-dropped, cut, each-grown}
use Rattle.rnv_options.proofs.custom.customs_in.Goals as goal

pub loop-item-init : goal.loop-item-init
loop-item-init g c = record {
  asks = asks_none _ _ _;
  built = subst (Each IsCustomBuilt) (sym c.empty-list.ensures) tt;
  tells = λ wrong agrees. customs-start wrong c.args.items.now c.empty-list.result c.empty-list.ensures;
}

pub loop-item-preserved : goal.loop-item-preserved
loop-item-preserved g c =
    let before = c.loop-item.invariant in
    let items = c.args.items.now in
    let i = c.loop-item.item-index in
    let first_left = cut items i c.item-item.result c.item-item.is c.loop-item-test.true in
    record {
      asks = asks_then _ _ _ _ _ _ _ _ _ before.asks c.in-Ok.ensures.asks;
      built = each-grown IsCustomBuilt c.loop-item.list c.add_custom.new.list before.built c.in-Ok.ensures.built;
      tells = λ wrong agrees.
          let first = agrees_first wrong _ _ _ _ _ _ _ _ _ before.asks c.in-Ok.ensures.asks agrees in
          let later = agrees_later wrong _ _ _ _ _ _ _ _ _ before.asks c.in-Ok.ensures.asks agrees in
          let one = c.in-Ok.ensures.tells wrong later in
          customs-step wrong (drop i items) (drop (i + 1) items) c.item-item.result c.loop-item.list c.add_custom.new.list one.0 _ first_left (before.tells wrong first) one.2 one.1;
    }

pub returns-in-Err-clause-tells : goal.returns-in-Err-clause-tells
returns-in-Err-clause-tells g c = λ wrong agrees.
    let before = c.loop-item.invariant in
    let items = c.args.items.now in
    let i = c.loop-item.item-index in
    let first_left = cut items i c.item-item.result c.item-item.is c.loop-item-test.true in
    let first = agrees_first wrong _ _ _ _ _ _ _ _ _ before.asks c.in-Err.ensures.asks agrees in
    let later = agrees_later wrong _ _ _ _ _ _ _ _ _ before.asks c.in-Err.ensures.asks agrees in
    customs-stop wrong (drop i items) (drop (i + 1) items) c.item-item.result c.loop-item.list c.add_custom.new.list c.in-Err.wrong _ first_left (before.tells wrong first) (c.in-Err.ensures.tells wrong later)

pub returns-clause-tells : goal.returns-clause-tells
returns-clause-tells g c = λ wrong agrees.
    customs-end wrong (drop c.loop-item.item-index c.args.items.now) c.loop-item.list _ (all-dropped c.loop-item.item-index c.args.items.now (omega arith)) (c.loop-item.invariant.tells wrong agrees)
