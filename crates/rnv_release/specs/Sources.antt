-- The documents of each kind of index.
use Rattle.std.specs.Prelude.{ℕ, List}
use Rattle.rnv_base.specs.declared.kinds.SourceKind.{SourceKind}
use Rattle.rnv_base.specs.declared.kinds.SourceKind.TheVariants.{Crates, Npm, Docker}
use Rattle.rnv_release.specs.Crates.{crate_path, crate_reading}
use Rattle.rnv_release.specs.Docker.{docker_path, docker_reading}
use Rattle.rnv_release.specs.Npm.{npm_path, npm_reading}
use Rattle.rnv_release.specs.Reading.{Reading}

abbrev pub path_by : SourceKind → List ℕ → List ℕ
path_by Crates name = crate_path name
path_by Npm name = npm_path name
path_by Docker name = docker_path name

abbrev pub reading_by : SourceKind → List ℕ → Reading
reading_by Crates bytes = crate_reading bytes
reading_by Npm bytes = npm_reading bytes
reading_by Docker bytes = docker_reading bytes
