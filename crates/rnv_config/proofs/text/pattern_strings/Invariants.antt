use Rattle.std.proofs.Common.{◌≡◌, ◌++◌, length, map}
use Rattle.serde_json.specs.Data.{string}
use Rattle.serde_json.specs.View.{view}
use Rattle.rnv_options.specs.Customs.{texts_built}
use Rattle.rnv_config.proofs.text.pattern_strings.Given as goal

abbrev pub invariant-loop-left : goal.invariant-loop-left
invariant-loop-left l = map view l.items.items ++ map string (texts_built l.left) ≡ map string (texts_built l.fn.patterns)

abbrev pub decreases-loop-left : goal.decreases-loop-left
decreases-loop-left l = length l.left
