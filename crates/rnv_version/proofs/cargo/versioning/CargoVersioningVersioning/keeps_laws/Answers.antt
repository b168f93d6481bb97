use Rattle.rnv_version.proofs.CargoExact.{exact_is_met}
use Rattle.rnv_version.specs.SemVer.{first_numbers}
use Rattle.rnv_version.proofs.KindsRise.{are_up, kinds_up}
use Rattle.rnv_version.specs.Cargo.{cargo_range}
use Rattle.rnv_version.proofs.Tags.{some_of}
use Rattle.rnv_version.proofs.CargoClean.{cargo_range-quotable}
use Rattle.rnv_version.proofs.CargoGiven.{cargo_new_text-given}
use Rattle.rnv_version.proofs.cargo.versioning.CargoVersioningVersioning.keeps_laws.Goals as goal

pub returns-clause-spelled : goal.returns-clause-spelled
returns-clause-spelled c = λ text readable.
    let range = some_of (cargo_range text) readable in
    cargo_range-quotable text range.0 range.1

pub returns-clause-given : goal.returns-clause-given
returns-clause-given c = λ strategy value version text v readable read given.
    let range = some_of (cargo_range value) readable in
    cargo_new_text-given strategy value version text range.0 v range.1 read given

pub returns-clause-kinds : goal.returns-clause-kinds
returns-clause-kinds c = λ from a b up also.
    kinds_up (first_numbers from) (first_numbers a) (first_numbers b) (are_up (first_numbers from) (first_numbers a) _ up) (are_up (first_numbers a) (first_numbers b) _ also)

pub returns-clause-exact_met : goal.returns-clause-exact_met
returns-clause-exact_met c = exact_is_met
