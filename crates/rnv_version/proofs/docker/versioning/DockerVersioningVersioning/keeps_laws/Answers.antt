use Rattle.std.proofs.Common.{◌≡◌, ◌∙◌, ap, refl, sym}
use Rattle.rnv_version.specs.Docker.{docker_tag, tag_numbers}
use Rattle.rnv_version.proofs.KindsRise.{are_up, kinds_up}
use Rattle.rnv_version.proofs.Tags.{docker_new_text-given, docker_tag-spelled, same_list, some_of}
use Rattle.rnv_version.proofs.docker.versioning.DockerVersioningVersioning.keeps_laws.Goals as goal

pub returns-clause-spelled : goal.returns-clause-spelled
returns-clause-spelled c = λ text readable.
    let tag = some_of (docker_tag text) readable in
    docker_tag-spelled text tag.0 tag.1

pub returns-clause-given : goal.returns-clause-given
returns-clause-given c = λ strategy value version text v readable read given. docker_new_text-given strategy version text v read given

pub returns-clause-kinds : goal.returns-clause-kinds
returns-clause-kinds c = λ from a b up also.
    kinds_up (tag_numbers from) (tag_numbers a) (tag_numbers b) (are_up (tag_numbers from) (tag_numbers a) _ up) (are_up (tag_numbers a) (tag_numbers b) _ also)

pub returns-clause-exact_met : goal.returns-clause-exact_met
returns-clause-exact_met c = λ value text range read given.
    let same : value ≡ text = cc given in
    record { exact = refl; version = range; read = ap docker_tag (sym same) ∙ read; met = same_list range.text }
