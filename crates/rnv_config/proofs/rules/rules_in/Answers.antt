use Rattle.std.proofs.Common.{◌≡◌, ◌+◌, ◌∷◌, ℕ, List, Err, drop, ap, sym, ◌∙◌, arith}
use Rattle.serde_json.specs.View.{items_view, view}
use Rattle.serde_json.specs.declared.value.Value.{Value}
use Rattle.rnv_pattern.proofs.Turns.{agrees_first, agrees_later, asks_none, asks_then}
use Rattle.rnv_options.proofs.Turned.{all-dropped, cut, none-dropped}
use Rattle.rnv_config.specs.Rules.{joined_rules, no_rules, rule_of, rules_in, told_rules_read}
use Rattle.rnv_config.specs.declared.rules.ReadRules.{ReadRules}
use Rattle.rnv_config.proofs.Joined.{after-nothing, items-end, items-step, items-stop}
use Rattle.rnv_config.proofs.Told.{rules_join, stop-told}
use Rattle.rnv_config.proofs.rules.rules_in.Goals as goal

pub loop-count-init : goal.loop-count-init
loop-count-init g c = record {
  asks = asks_none _ _ _;
  built = c.empty-read.ensures.built;
  within = omega arith;
  tells = λ wrong agrees.
      ap (λ (vs : List Value). rules_in wrong (items_view vs)) (sym (none-dropped c.args.items.now))
      ∙ after-nothing joined_rules no_rules rules_join (told_rules_read c.empty-read.result) c.empty-read.ensures.told (rules_in wrong (items_view (drop 0 c.args.items.now)));
}

pub loop-count-preserved : goal.loop-count-preserved
loop-count-preserved g c =
    let before = c.loop-count.invariant in
    let items = c.args.items.now in
    let i = c.loop-count.count in
    let first_left = cut items i c.index-items-count.result c.index-items-count.is c.loop-count-test.true in
    record {
      asks = asks_then _ _ _ _ _ _ _ _ _ before.asks c.in-Ok.ensures.asks;
      built = c.in_ok-join-in-Ok.ensures.built before.built c.in-Ok.ensures.built;
      within = omega (arith, c.loop-count-test.true);
      tells = λ wrong agrees.
          let first = agrees_first wrong _ _ _ _ _ _ _ _ _ before.asks c.in-Ok.ensures.asks agrees in
          let later = agrees_later wrong _ _ _ _ _ _ _ _ _ before.asks c.in-Ok.ensures.asks agrees in
          items-step joined_rules no_rules rules_join (rule_of wrong) (i + 1) (drop i items) (drop (i + 1) items) c.index-items-count.result
          (told_rules_read c.loop-count.read) (told_rules_read c.in-Ok.more) (told_rules_read c.join.new.self) _ first_left (before.tells wrong first) (c.in-Ok.ensures.tells wrong later) c.in_ok-join-in-Ok.ensures.told;
    }

pub returns-in-Err-clause-tells : goal.returns-in-Err-clause-tells
returns-in-Err-clause-tells g c = λ wrong agrees.
    let before = c.loop-count.invariant in
    let items = c.args.items.now in
    let i = c.loop-count.count in
    let first_left = cut items i c.index-items-count.result c.index-items-count.is c.loop-count-test.true in
    let first = agrees_first wrong _ _ _ _ _ _ _ _ _ before.asks c.in-Err.ensures.asks agrees in
    let later = agrees_later wrong _ _ _ _ _ _ _ _ _ before.asks c.in-Err.ensures.asks agrees in
    stop-told {T = ReadRules} told_rules_read c.in-Err.wrong _ _
    (λ why h. items-stop joined_rules no_rules (rule_of wrong) (i + 1) (drop i items) (drop (i + 1) items) c.index-items-count.result (told_rules_read c.loop-count.read) _ first_left (before.tells wrong first) why h) (c.in-Err.ensures.tells wrong later)

pub returns-clause-tells : goal.returns-clause-tells
returns-clause-tells g c = λ wrong agrees.
    items-end joined_rules no_rules rules_join (rule_of wrong) (c.loop-count.count + 1) (drop c.loop-count.count c.args.items.now) (told_rules_read c.loop-count.read) _
    (all-dropped c.loop-count.count c.args.items.now (omega (arith, c.loop-count-test.false))) (c.loop-count.invariant.tells wrong agrees)
