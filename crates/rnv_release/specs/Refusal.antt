-- Why a document gives no releases.
use Rattle.std.specs.Prelude.{◌<◌, ℕ, length}
use Rattle.rnv_base.specs.Limits.{most_releases}
use Rattle.rnv_release.specs.declared.datasource.IndexError.{IndexError}
use Rattle.rnv_release.specs.declared.datasource.IndexError.TheVariants.{BadIndex, TooManyReleases, Memory}
use Rattle.rnv_release.specs.Reading.{Reading, listed, refused}

-- a fact of the line, where the error names one
abbrev pub IfBadIndex : (ℕ → Type 0) → IndexError → Type 0
IfBadIndex P (BadIndex line) = P line
IfBadIndex P (TooManyReleases number) = Unit {0}
IfBadIndex P Memory = Unit {0}

-- a fact of the number, where the error names one
abbrev pub IfTooManyReleases : (ℕ → Type 0) → IndexError → Type 0
IfTooManyReleases P (BadIndex line) = Unit {0}
IfTooManyReleases P (TooManyReleases number) = P number
IfTooManyReleases P Memory = Unit {0}

-- the document lists more than 50,000 releases
abbrev pub ListsMore : Reading → Type 0
ListsMore (listed releases) = most_releases < length releases
ListsMore (refused line) = ⊥
