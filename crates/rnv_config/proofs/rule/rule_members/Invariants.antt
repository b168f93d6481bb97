use Rattle.std.proofs.Common.{◌≡◌, ℕ, List, Bool, length}
use Rattle.serde_json.specs.View.{members_view}
use Rattle.rnv_pattern.specs.Turns.{Agrees, Asks}
use Rattle.rnv_config.specs.Rules.{joined_rule, rule_members, told_rule_read}
use Rattle.rnv_config.specs.Settings.{IsRuleBuilt}
use Rattle.rnv_config.proofs.Joined.{after}
use Rattle.rnv_config.proofs.rule.rule_members.Given as goal

abbrev pub invariant-loop-name : goal.invariant-loop-name
invariant-loop-name g l =
    let builder = g.E.Builder in
    record {
      asks : Asks (builder.refused l.fn.engines) (builder.took l.fn.engines) (builder.others l.fn.engines) (builder.refused l.engines) (builder.took l.engines) (builder.others l.engines);
      built : IsRuleBuilt l.read.rule;
      tells : (wrong : List ℕ → Bool) → Agrees wrong (builder.refused l.fn.engines) (builder.took l.fn.engines) (builder.refused l.engines) (builder.took l.engines) →
          rule_members wrong (members_view l.fn.map.entries) ≡ after joined_rule (told_rule_read l.read) (rule_members wrong (members_view l.left));
    }

abbrev pub decreases-loop-name : goal.decreases-loop-name
decreases-loop-name g l = length l.left
