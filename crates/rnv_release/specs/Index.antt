-- What the index of a folder gives for a package.
use Rattle.std.specs.Prelude.{◌≡◌, ℕ, List, length, nat_le, if◌then◌else◌, Option, Some, None, Result, Ok, Err}
use Rattle.rnv_base.specs.Files.{NamedFile, read_of}
use Rattle.rnv_base.specs.Limits.{document_bytes, most_releases}
use Rattle.rnv_release.specs.declared.release.Release.{Release}
use Rattle.rnv_release.specs.declared.lookup.ReadIndexError.{ReadIndexError}
use Rattle.rnv_release.specs.declared.lookup.ReadIndexError.TheVariants.{FolderFault, TooLong, BadIndex, TooManyReleases, Memory}
use Rattle.rnv_release.specs.Reading as reading
use Rattle.rnv_release.specs.Package.{is_package_name}

-- no document, its releases, or why it gives none: more than 67,108,864 bytes, a line outside the
-- grammar, more than 50,000 releases
pub data Index : Type 0 where
  absent : Index
  listed : List Release → Index
  too_long : Index
  bad : ℕ → Index
  too_many : Index

-- what a document gives that is not too long
abbrev pub index_in : reading.Reading → Index
index_in (reading.listed releases) = if nat_le (length releases) most_releases then listed releases else too_many
index_in (reading.refused line) = bad line

-- what the front of a file gives, as a read of a folder cuts it off
abbrev pub index_from : (List ℕ → reading.Reading) → Option (List ℕ) → Index
index_from reading_of None = absent
index_from reading_of (Some bytes) = if nat_le (length bytes) document_bytes then index_in (reading_of bytes) else too_long

-- what the files give for a package, by the datasource's path and reading
abbrev pub index_of : (List ℕ → List ℕ) → (List ℕ → reading.Reading) → List ℕ → List NamedFile → Index
index_of path_of reading_of name files = if is_package_name name then index_from reading_of (read_of (path_of name) files) else absent

-- a result that tells the index, as far as memory and the folder allow
abbrev pub GivesIndex : Result (Option (List Release)) ReadIndexError → Index → Type 0
GivesIndex (Ok None) index = index ≡ absent
GivesIndex (Ok (Some releases)) index = index ≡ listed releases
GivesIndex (Err FolderFault) index = Unit {0}
GivesIndex (Err TooLong) index = index ≡ too_long
GivesIndex (Err (BadIndex line)) index = index ≡ bad line
GivesIndex (Err (TooManyReleases number)) index = (number ≡ most_releases) × (index ≡ too_many)
GivesIndex (Err Memory) index = Unit {0}
