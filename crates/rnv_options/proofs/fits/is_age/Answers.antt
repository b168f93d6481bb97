use Rattle.std.proofs.Common.{◌∙◌}
use Rattle.rnv_options.proofs.Ages.{age-told}
use Rattle.rnv_options.proofs.fits.is_age.Goals as goal

pub returns : goal.returns
returns c = c.is_some.ensures ∙ age-told c.args.text.now c.age_read.result c.age_read.ensures
