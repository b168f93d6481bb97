use Rattle.std.proofs.Common.{◌≡◌, ◌++◌, length, map}
use Rattle.serde_json.specs.View.{view}
use Rattle.rnv_options.specs.Customs.{told_custom}
use Rattle.rnv_config.specs.Texts.{shown_custom}
use Rattle.rnv_config.proofs.text.shown_customs.Given as goal

abbrev pub invariant-loop-left : goal.invariant-loop-left
invariant-loop-left l = map view l.items.items ++ map shown_custom (map told_custom l.left) ≡ map shown_custom (map told_custom l.fn.customs)

abbrev pub decreases-loop-left : goal.decreases-loop-left
decreases-loop-left l = length l.left
