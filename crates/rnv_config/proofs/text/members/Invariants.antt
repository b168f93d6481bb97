use Rattle.std.proofs.Common.{◌≡◌, length, map}
use Rattle.serde_json.specs.Data.{no_members}
use Rattle.serde_json.specs.View.{members_view}
use Rattle.rnv_config.specs.Settings.{told_setting}
use Rattle.rnv_config.specs.Texts.{with_settings}
use Rattle.rnv_config.proofs.text.members.Given as goal

abbrev pub invariant-loop-left : goal.invariant-loop-left
invariant-loop-left l = with_settings (members_view l.members.entries) (map told_setting l.left) ≡ with_settings no_members (map told_setting l.fn.settings)

abbrev pub decreases-loop-left : goal.decreases-loop-left
decreases-loop-left l = length l.left
