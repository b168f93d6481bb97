use Rattle.std.proofs.Common.{◌≡◌, ◌+◌, ◌≤◌, ◌-◌, ℕ, List, Bool, drop, length}
use Rattle.serde_json.specs.View.{items_view}
use Rattle.rnv_pattern.specs.Turns.{Agrees, Asks}
use Rattle.rnv_config.specs.Members.{items_say}
use Rattle.rnv_config.specs.Rules.{AreRulesBuilt, joined_rules, no_rules, rule_of, rules_in, told_rules_read}
use Rattle.rnv_config.proofs.Joined.{after}
use Rattle.rnv_config.proofs.rules.rules_in.Given as goal

abbrev pub invariant-loop-count : goal.invariant-loop-count
invariant-loop-count g l =
    let builder = g.E.Builder in
    record {
      asks : Asks (builder.refused l.fn.engines) (builder.took l.fn.engines) (builder.others l.fn.engines) (builder.refused l.engines) (builder.took l.engines) (builder.others l.engines);
      built : AreRulesBuilt l.read;
      within : l.count ≤ length l.fn.items;
      tells : (wrong : List ℕ → Bool) → Agrees wrong (builder.refused l.fn.engines) (builder.took l.fn.engines) (builder.refused l.engines) (builder.took l.engines) →
          rules_in wrong (items_view l.fn.items) ≡ after joined_rules (told_rules_read l.read) (items_say joined_rules no_rules (rule_of wrong) (l.count + 1) (items_view (drop l.count l.fn.items)));
    }

abbrev pub decreases-loop-count : goal.decreases-loop-count
decreases-loop-count g l = length l.fn.items - l.count
