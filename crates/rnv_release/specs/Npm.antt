-- The documents of an npm index: a JSON object with an object `versions`, whose names are the
-- releases, and optionally an object `time` from release to the text of an instant.
use Rattle.std.specs.Prelude.{ℕ, List, [], ◌∷◌, ◌++◌, codes, map, Bool, true, false, if◌then◌else◌, Option, Some, None, is_some, option_and_then}
use Rattle.serde_json.specs.Data.{Data, Members, no_members, member}
use Rattle.serde_json.specs.Find.{get, as_object}
use Rattle.rnv_release.specs.declared.release.Release.{Release}
use Rattle.rnv_release.specs.Json.{json_of}
use Rattle.rnv_release.specs.Moments.{time_of}
use Rattle.rnv_release.specs.Reading.{Reading, reading_of}

abbrev pub npm_path : List ℕ → List ℕ
npm_path name = codes "index/npm/" ++ name ++ codes ".json"

-- the release of this name, given the member `time`
abbrev pub release_of : Option Data → List ℕ → Release
release_of times name = record { text = name; time = option_and_then time_of (option_and_then (get name) times); yanked = false }

-- the names of an object's members, in the order of their bytes
abbrev pub names_of : Members → List (List ℕ)
names_of no_members = []
names_of (member name value rest) = name ∷ names_of rest

-- `time` may be missing, and else is an object
abbrev pub are_times : Option Data → Bool
are_times None = true
are_times (Some value) = is_some (as_object value)

-- the releases of the object `versions`
abbrev pub releases_of : Option Data → Members → Option (List Release)
releases_of times versions = if are_times times then Some (map (release_of times) (names_of versions)) else None

-- the releases that a JSON value lists
abbrev pub npm_releases : Data → Option (List Release)
npm_releases document = option_and_then (releases_of (get (codes "time") document)) (option_and_then as_object (get (codes "versions") document))

-- what an npm document lists
abbrev pub npm_reading : List ℕ → Reading
npm_reading bytes = reading_of (option_and_then npm_releases (json_of bytes))
