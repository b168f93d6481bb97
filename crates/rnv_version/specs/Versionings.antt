-- What the versionings of Cargo and Docker mean.
use Rattle.std.specs.Prelude.{ℕ, ◌==◌, ◌&&◌, true, List, Option, Some, None, option_and_then, if◌then◌else◌}
use Rattle.semver.specs.Parse.{Held}
use Rattle.rnv_base.specs.Values.{is_quotable, is_tag_text}
use Rattle.rnv_version.specs.Cargo.{cargo_range, cargo_version, is_met, is_pinned}
use Rattle.rnv_version.specs.CargoNew.{cargo_new_text}
use Rattle.rnv_version.specs.Docker.{Tag, are_alike, docker_new_text, docker_tag, same_text, tag_cmp, tag_numbers}
use Rattle.rnv_version.specs.Kind.{kind_between}
use Rattle.rnv_version.specs.Numbering.{Numbering}
use Rattle.rnv_version.specs.Plain.{named_text, word_of}
use Rattle.rnv_version.specs.SemVer.{Version, first_numbers, has_no_pre, version_cmp}

-- the word of an exact requirement without its sign
abbrev pub exact_word : List ℕ → Option (List Held) → Option (List ℕ)
exact_word value None = None
exact_word value (Some range) = if is_pinned range then Some (word_of value) else None

abbrev pub cargo_exact_text : List ℕ → Option (List ℕ)
cargo_exact_text value = exact_word value (cargo_range value)

abbrev pub cargo : Numbering Version (List Held)
cargo = record {
  version_of = cargo_version;
  range_of = cargo_range;
  is_spelled = is_quotable;
  order = version_cmp;
  are_comparable = λ a b. true;
  is_satisfied = is_met;
  is_exact = is_pinned;
  is_stable = has_no_pre;
  kind_between = λ from to. kind_between (first_numbers from) (first_numbers to);
  numbers_of = first_numbers;
  exact_text = cargo_exact_text;
  bump_start = λ value. option_and_then cargo_version (named_text value);
  new_text = cargo_new_text;
}

abbrev pub docker : Numbering Tag Tag
docker = record {
  version_of = docker_tag;
  range_of = docker_tag;
  is_spelled = is_tag_text;
  order = tag_cmp;
  are_comparable = are_alike;
  is_satisfied = same_text;
  is_exact = λ range. true;
  is_stable = λ version. true;
  kind_between = λ from to. kind_between (tag_numbers from) (tag_numbers to);
  numbers_of = tag_numbers;
  exact_text = λ value. Some value;
  bump_start = λ value. None;
  new_text = λ strategy value version. docker_new_text strategy version;
}
