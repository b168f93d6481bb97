use Rattle.std.proofs.Common.{◌≡◌, ◌∷◌, ℕ, List, Err, ap, sym, subst, ◌∙◌, String, Global}
use Rattle.serde_json.specs.View.{members_view, view}
use Rattle.serde_json.specs.declared.value.Value.{Value}
use Rattle.rnv_pattern.proofs.Turns.{agrees_first, agrees_later, asks_none, asks_then}
use Rattle.rnv_options.specs.Readings.{Tells}
use Rattle.rnv_config.specs.Rules.{RuleRead, empty_rule, joined_rule, rule_member, rule_members, told_rule_read}
use Rattle.rnv_config.specs.declared.rule.ReadRule.{ReadRule}
use Rattle.rnv_config.proofs.Joined.{after-nothing, members-end, members-step, members-stop}
use Rattle.rnv_config.proofs.Told.{rule_joins, stop-told}
use Rattle.rnv_config.proofs.rule.rule_members.Goals as goal

pub loop-name-init : goal.loop-name-init
loop-name-init g c = record {
  asks = asks_none _ _ _;
  built = c.empty-read.ensures.built;
  tells = λ wrong agrees.
      ap (λ (es : List (String Global × Value)). rule_members wrong (members_view es)) (sym c.iter-left.ensures.rest)
      ∙ after-nothing joined_rule empty_rule rule_joins (told_rule_read c.empty-read.result) c.empty-read.ensures.told (rule_members wrong (members_view c.iter-left.result));
}

pub loop-name-preserved : goal.loop-name-preserved
loop-name-preserved g c =
    let before = c.loop-name.invariant in
    record {
      asks = asks_then _ _ _ _ _ _ _ _ _ before.asks c.in-Ok.ensures.asks;
      built = c.in_ok-join-in-Ok.ensures.built before.built c.in-Ok.ensures.built;
      tells = λ wrong agrees.
          let first = agrees_first wrong _ _ _ _ _ _ _ _ _ before.asks c.in-Ok.ensures.asks agrees in
          let later = agrees_later wrong _ _ _ _ _ _ _ _ _ before.asks c.in-Ok.ensures.asks agrees in
          let says = ap (λ (n : List ℕ). rule_member wrong n (view c.in-Some.value.now)) (sym c.as_str.ensures.value) ∙ c.in-Ok.ensures.tells wrong later in
          members-step joined_rule empty_rule rule_joins (rule_member wrong) c.loop-name.left c.next.new.self c.in-Some.name.now c.in-Some.value.now
          (told_rule_read c.loop-name.read) (told_rule_read c.in-Ok.more) (told_rule_read c.join.new.self) _ c.in-Some.ensures.steps (before.tells wrong first) says c.in_ok-join-in-Ok.ensures.told;
    }

pub returns-in-Err-clause-tells : goal.returns-in-Err-clause-tells
returns-in-Err-clause-tells g c = λ wrong agrees.
    let before = c.loop-name.invariant in
    let first = agrees_first wrong _ _ _ _ _ _ _ _ _ before.asks c.in-Err.ensures.asks agrees in
    let later = agrees_later wrong _ _ _ _ _ _ _ _ _ before.asks c.in-Err.ensures.asks agrees in
    let name = c.in-Some.name.now in let value = c.in-Some.value.now in
    let says = subst (λ (n : List ℕ). Tells {T = ReadRule} told_rule_read (Err c.in-Err.wrong) (rule_member wrong n (view value))) c.as_str.ensures.value (c.in-Err.ensures.tells wrong later) in
    stop-told {T = ReadRule} told_rule_read c.in-Err.wrong _ _
    (λ why h. members-stop joined_rule empty_rule (rule_member wrong) c.loop-name.left c.next.new.self name value (told_rule_read c.loop-name.read) _ c.in-Some.ensures.steps (before.tells wrong first) why h) says
