use Rattle.std.proofs.Common.{◌≡◌, length}
use Rattle.serde_json.specs.View.{members_view}
use Rattle.rnv_config.specs.Rules.{unknown_matcher}
use Rattle.rnv_config.proofs.rules.unknown_matcher.Given as goal

abbrev pub invariant-loop-name : goal.invariant-loop-name
invariant-loop-name l = unknown_matcher (members_view l.left) ≡ unknown_matcher (members_view l.fn.map.entries)

abbrev pub decreases-loop-name : goal.decreases-loop-name
decreases-loop-name l = length l.left
