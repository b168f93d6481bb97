use Rattle.std.proofs.Common.{◌≡◌, length, map}
use Rattle.serde_json.specs.View.{members_view}
use Rattle.rnv_options.specs.Matchers.{told_matcher}
use Rattle.rnv_config.specs.Texts.{with_matchers}
use Rattle.rnv_config.proofs.text.put_matchers.Given as goal

abbrev pub invariant-loop-left : goal.invariant-loop-left
invariant-loop-left l = with_matchers (members_view l.members.entries) (map told_matcher l.left) ≡ with_matchers (members_view l.fn.members.entries) (map told_matcher l.fn.matchers)

abbrev pub decreases-loop-left : goal.decreases-loop-left
decreases-loop-left l = length l.left
