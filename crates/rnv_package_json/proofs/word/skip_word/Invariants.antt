use Rattle.std.proofs.Common.{◌≡◌, length}
use Rattle.rnv_package_json.specs.Rest.{IsRest}
use Rattle.rnv_package_json.specs.Text.{skip}
use Rattle.rnv_package_json.specs.Word.{is_word_byte}
use Rattle.rnv_package_json.proofs.word.skip_word.Given as goal

abbrev pub invariant-loop-rest : goal.invariant-loop-rest
invariant-loop-rest l = (skip is_word_byte l.rest ≡ skip is_word_byte l.bytes) × IsRest l.bytes l.rest

abbrev pub decreases-loop-rest : goal.decreases-loop-rest
decreases-loop-rest l = length l.rest
