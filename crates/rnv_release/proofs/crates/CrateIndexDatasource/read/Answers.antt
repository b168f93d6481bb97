use Rattle.rnv_release.specs.Crates.{crate_reading}
use Rattle.rnv_release.proofs.Cuts.{above, listed-within}
use Rattle.rnv_release.proofs.crates.CrateIndexDatasource.read.Goals as goal

pub returns-clause-listed : goal.returns-clause-listed
returns-clause-listed c = listed-within c.limited.result (crate_reading c.args.bytes.now) c.in_ok-first_releases.field-0 c.in_ok-first_releases.ensures.front c.limited.ensures.value

pub returns-clause-many : goal.returns-clause-many
returns-clause-many c = above c.limited.result (crate_reading c.args.bytes.now) c.in_ok-first_releases.field-0 c.in_ok-first_releases.ensures.front c.limited.ensures.many
