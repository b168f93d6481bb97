use Rattle.std.proofs.Common.{◌≡◌, length, map}
use Rattle.serde_json.specs.View.{members_view}
use Rattle.rnv_options.specs.Readings.{told_rule_setting}
use Rattle.rnv_config.specs.Texts.{with_sets}
use Rattle.rnv_config.proofs.text.put_sets.Given as goal

abbrev pub invariant-loop-left : goal.invariant-loop-left
invariant-loop-left l = with_sets (members_view l.members.entries) (map told_rule_setting l.left) ≡ with_sets (members_view l.fn.members.entries) (map told_rule_setting l.fn.sets)

abbrev pub decreases-loop-left : goal.decreases-loop-left
decreases-loop-left l = length l.left
