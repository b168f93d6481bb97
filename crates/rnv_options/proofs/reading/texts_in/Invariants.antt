use Rattle.std.proofs.Common.{◌≡◌, length}
use Rattle.serde_json.specs.View.{items_view}
use Rattle.rnv_options.specs.Readings.{texts_in}
use Rattle.rnv_options.proofs.Joined.{behind}
use Rattle.rnv_options.proofs.reading.texts_in.Given as goal

abbrev pub invariant-loop-left : goal.invariant-loop-left
invariant-loop-left l = behind l.texts (texts_in (items_view l.left)) ≡ texts_in (items_view l.fn.items)

abbrev pub decreases-loop-left : goal.decreases-loop-left
decreases-loop-left l = length l.left
