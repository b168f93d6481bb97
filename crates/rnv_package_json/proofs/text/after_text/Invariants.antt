use Rattle.std.proofs.Common.{◌≡◌, length, Some}
use Rattle.rnv_package_json.specs.Rest.{IsRest}
use Rattle.rnv_package_json.specs.Text.{after_text}
use Rattle.rnv_package_json.specs.declared.text.Within.TheVariants.{Plain}
use Rattle.rnv_package_json.proofs.text.after_text.Given as goal

abbrev pub invariant-loop-rest : goal.invariant-loop-rest
invariant-loop-rest l = (after_text (Some l.within) l.rest ≡ after_text (Some Plain) l.bytes) × IsRest l.bytes l.rest

abbrev pub decreases-loop-rest : goal.decreases-loop-rest
decreases-loop-rest l = length l.rest
