use Rattle.std.proofs.Common.{◌∙◌, ap}
use Rattle.rnv_schedule.specs.Ages.{age_of}
use Rattle.rnv_schedule.proofs.AgeTexts.{ages_are}
use Rattle.rnv_schedule.proofs.age.age_read.Goals as goal

pub returns : goal.returns
returns c = λ seconds. ages_are c.args.text.now c.age.result (c.age.ensures ∙ ap age_of c.as_bytes.ensures.value) seconds
