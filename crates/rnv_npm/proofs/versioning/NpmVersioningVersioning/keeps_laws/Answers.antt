use Rattle.rnv_npm.proofs.ExactTexts.{exact_is_met}
use Rattle.rnv_version.proofs.Tags.{some_of}
use Rattle.rnv_npm.specs.Ranges.{npm_range}
use Rattle.rnv_npm.proofs.RangeGrammar.{npm_range-quotable}
use Rattle.rnv_npm.proofs.NewTexts.{npm_new_text-given}
use Rattle.rnv_npm.proofs.versioning.NpmVersioningVersioning.keeps_laws.Goals as goal

pub returns-clause-spelled : goal.returns-clause-spelled
returns-clause-spelled c = λ text readable.
    let range = some_of (npm_range text) readable in
    npm_range-quotable text range.0 range.1

pub returns-clause-given : goal.returns-clause-given
returns-clause-given c = λ strategy value version text v readable read given.
    let range = some_of (npm_range value) readable in
    npm_new_text-given strategy value version text range.0 v range.1 read given

pub returns-clause-exact_met : goal.returns-clause-exact_met
returns-clause-exact_met c = exact_is_met
