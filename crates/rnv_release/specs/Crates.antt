-- The documents of a crates index (the Cargo Book, "Registry Index"): of each release a line, which is a
-- JSON object.
use Rattle.std.specs.Prelude.{ℕ, ◌+◌, List, [], ◌∷◌, ◌++◌, codes, Bool, false, if◌then◌else◌, Option, Some, None, option_and_then, option_map}
use Rattle.serde_json.specs.Data.{Data}
use Rattle.serde_json.specs.Find.{get, as_bool, as_str}
use Rattle.rnv_release.specs.declared.release.Release.{Release}
use Rattle.rnv_release.specs.Json.{json_of}
use Rattle.rnv_release.specs.Lines.{lines, is_blank}
use Rattle.rnv_release.specs.Moments.{time_of}
use Rattle.rnv_release.specs.Reading.{Reading, listed, refused}

abbrev pub crate_path : List ℕ → List ℕ
crate_path name = codes "index/crates/" ++ name

-- whether it was drawn back: the flag `yanked`, false where it is missing
abbrev pub yanked_of : Option Data → Option Bool
yanked_of None = Some false
yanked_of (Some value) = as_bool value

abbrev pub release_as : Data → List ℕ → Bool → Release
release_as value text yanked = record { text = text; time = option_and_then time_of (get (codes "pubtime") value); yanked = yanked }

-- the release of an object with a text `vers`, perhaps a flag `yanked` and a `pubtime`
abbrev pub crate_release : Data → Option Release
crate_release value = option_and_then (λ text. option_map (release_as value text) (yanked_of (get (codes "yanked") value))) (option_and_then as_str (get (codes "vers") value))

-- the release of a line
abbrev pub line_release : List ℕ → Option Release
line_release line = option_and_then crate_release (json_of line)

-- a release before those that are listed behind it
abbrev pub with_release : ℕ → Option Release → Reading → Reading
with_release number None behind = refused number
with_release number (Some release) (listed releases) = listed (release ∷ releases)
with_release number (Some release) (refused line) = refused line

-- what a line with this number lists before what is behind it; blank lines are passed
abbrev pub with_line : ℕ → List ℕ → Reading → Reading
with_line number line behind = if is_blank line then behind else with_release number (line_release line) behind

-- what lines list, the first of which has this number
abbrev pub lines_from : ℕ → List (List ℕ) → Reading
lines_from number [] = listed []
lines_from number (line ∷ rest) = with_line number line (lines_from (number + 1) rest)

-- what a document of a crates index lists
abbrev pub crate_reading : List ℕ → Reading
crate_reading bytes = lines_from 1 (lines bytes)
