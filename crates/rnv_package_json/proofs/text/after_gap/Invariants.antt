use Rattle.std.proofs.Common.{◌≡◌, length}
use Rattle.rnv_package_json.specs.Rest.{IsRest}
use Rattle.rnv_package_json.specs.Text.{skip, is_space}
use Rattle.rnv_package_json.proofs.text.after_gap.Given as goal

abbrev pub invariant-loop-rest : goal.invariant-loop-rest
invariant-loop-rest l = (skip is_space l.rest ≡ skip is_space l.bytes) × IsRest l.bytes l.rest

abbrev pub decreases-loop-rest : goal.decreases-loop-rest
decreases-loop-rest l = length l.rest
