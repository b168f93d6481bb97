-- The documents of an index of image tags: a JSON object with a list of texts `tags`.
use Rattle.std.specs.Prelude.{ℕ, List, [], ◌∷◌, ◌++◌, codes, false, Option, Some, None, option_and_then, option_map}
use Rattle.serde_json.specs.Data.{Data, Items, no_items, item}
use Rattle.serde_json.specs.Find.{get, as_array, as_str}
use Rattle.rnv_release.specs.declared.release.Release.{Release}
use Rattle.rnv_release.specs.Json.{json_of}
use Rattle.rnv_release.specs.Reading.{Reading, reading_of}

abbrev pub docker_path : List ℕ → List ℕ
docker_path name = codes "index/docker/" ++ name ++ codes ".json"

-- the release of a tag
abbrev pub tagged : List ℕ → Release
tagged tag = record { text = tag; time = None; yanked = false }

-- the releases of a list of texts, in its order
abbrev pub tag_releases : Items → Option (List Release)
tag_releases no_items = Some []
tag_releases (item value rest) = option_and_then (λ tag. option_map (λ releases. tagged tag ∷ releases) (tag_releases rest)) (as_str value)

-- the releases that a JSON value lists
abbrev pub docker_releases : Data → Option (List Release)
docker_releases document = option_and_then tag_releases (option_and_then as_array (get (codes "tags") document))

-- what a document of image tags lists
abbrev pub docker_reading : List ℕ → Reading
docker_reading bytes = reading_of (option_and_then docker_releases (json_of bytes))
