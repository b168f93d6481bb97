use Rattle.std.proofs.Common.{◌∙◌, refl, sym}
use Rattle.rnv_spelling.specs.Spelling.{spelling}
use Rattle.rnv_spelling.proofs.Formats.{some_is}
use Rattle.rnv_spelling.proofs.WriteFormats.{whole_again}
use Rattle.rnv_spelling.proofs.reading.one_spelling.Goals as goal

pub returns : goal.returns
returns c v w tv tw e = some_is v w (sym (whole_again (spelling v) v tv refl) ∙ whole_again (spelling v) w tw e)
