use Rattle.std.proofs.Common.{◌≡◌, ◌++◌, length, map}
use Rattle.serde_json.specs.View.{view}
use Rattle.rnv_config.specs.Settings.{told_rule}
use Rattle.rnv_config.specs.Texts.{shown_rule}
use Rattle.rnv_config.proofs.text.shown_rules.Given as goal

abbrev pub invariant-loop-left : goal.invariant-loop-left
invariant-loop-left l = map view l.items.items ++ map shown_rule (map told_rule l.left) ≡ map shown_rule (map told_rule l.fn.rules)

abbrev pub decreases-loop-left : goal.decreases-loop-left
decreases-loop-left l = length l.left
