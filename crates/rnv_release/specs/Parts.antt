-- The releases that the objects of a document tell.
use Rattle.std.specs.Prelude.{List, map, Some}
use Rattle.serde_json.specs.Data.{object}
use Rattle.serde_json.specs.View.{members_view}
use Rattle.rnv_release.specs.declared.npm.Parts.{Parts}
use Rattle.rnv_release.specs.declared.release.Release.{Release}
use Rattle.rnv_release.specs.Npm.{names_of, release_of}

abbrev pub releases_of_parts : Parts → List Release
releases_of_parts parts = map (release_of (Some (object (members_view parts.times.entries)))) (names_of (members_view parts.versions.entries))
