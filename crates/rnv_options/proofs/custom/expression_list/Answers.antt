use Rattle.std.proofs.Common.{◌≡◌, Err, ℕ, List, true, not, ap, sym, subst, ◌∙◌, arith, rules}
use Rattle.std.specs.List.{list_all}
use Rattle.rnv_pattern.specs.Patterns.{IsWholeExpression}
use Rattle.rnv_pattern.proofs.Turns.{agrees_first, agrees_later, asks_none, asks_then}
use Rattle.rnv_options.specs.Customs.{AreWhole, texts_built}
use Rattle.rnv_options.specs.Readings.{IsOneMore, TellsTest}
use Rattle.rnv_pattern.specs.declared.pattern.Pattern.{Pattern}
use Rattle.rnv_options.proofs.Turned.{failed-for, none-dropped, none-taken, passed-all, passed-more, texts-more, whole-more}
use Rattle.rnv_options.proofs.custom.expression_list.Goals as goal

pub loop-text-init : goal.loop-text-init
loop-text-init g c = record {
  asks = asks_none _ _ _;
  texts = ap texts_built c.empty-list.ensures ∙ sym (none-taken c.args.texts.now);
  built = subst AreWhole (sym c.empty-list.ensures) tt;
  tells = λ wrong agrees. ap (list_all (λ t. not (wrong t))) (none-dropped c.args.texts.now);
}

pub loop-text-preserved : goal.loop-text-preserved
loop-text-preserved g c =
    let before = c.loop-text.invariant in
    let named : c.as_str.result.now ≡ c.text-item.result = search rules in
    let added = subst (λ (t : List ℕ). IsOneMore (IsWholeExpression t) c.loop-text.list c.add_expression.new.list) named c.in-Ok.ensures.added in
    record {
      asks = asks_then _ _ _ _ _ _ _ _ _ before.asks c.in-Ok.ensures.asks;
      texts = texts-more c.args.texts.now c.loop-text.text-index c.text-item.result c.loop-text.list c.add_expression.new.list c.text-item.is c.loop-text-test.true before.texts added;
      built = whole-more c.text-item.result c.loop-text.list c.add_expression.new.list before.built added;
      tells = λ wrong agrees.
          let first = agrees_first wrong _ _ _ _ _ _ _ _ _ before.asks c.in-Ok.ensures.asks agrees in
          let later = agrees_later wrong _ _ _ _ _ _ _ _ _ before.asks c.in-Ok.ensures.asks agrees in
          passed-more (λ t. not (wrong t)) c.args.texts.now c.loop-text.text-index c.text-item.result _ c.text-item.is c.loop-text-test.true (before.tells wrong first)
          (subst (λ (t : List ℕ). not (wrong t) ≡ true) named (c.in-Ok.ensures.tells wrong later));
    }

pub returns-in-Err-clause-tells : goal.returns-in-Err-clause-tells
returns-in-Err-clause-tells g c = λ wrong agrees.
    let before = c.loop-text.invariant in
    let first = agrees_first wrong _ _ _ _ _ _ _ _ _ before.asks c.in-Err.ensures.asks agrees in
    let later = agrees_later wrong _ _ _ _ _ _ _ _ _ before.asks c.in-Err.ensures.asks agrees in
    let named : c.as_str.result.now ≡ c.text-item.result = search rules in
    failed-for (Unit {0}) (List Pattern) c.in-Err.wrong (λ t. not (wrong t)) c.args.texts.now c.loop-text.text-index c.text-item.result _ c.text-item.is c.loop-text-test.true (before.tells wrong first)
    (subst (λ (t : List ℕ). TellsTest {T = Unit {0}} (Err c.in-Err.wrong) (not (wrong t))) named (c.in-Err.ensures.tells wrong later))

pub returns-clause-tells : goal.returns-clause-tells
returns-clause-tells g c = λ wrong agrees. passed-all (λ t. not (wrong t)) c.args.texts.now c.loop-text.text-index _ (omega arith) (c.loop-text.invariant.tells wrong agrees)
