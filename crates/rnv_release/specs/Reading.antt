-- What a document of an index lists.
use Rattle.std.specs.Prelude.{ℕ, List, Option, None, Some}
use Rattle.rnv_release.specs.declared.release.Release.{Release}

-- its releases, or the line, from 1, at which it is outside the grammar
pub data Reading : Type 0 where
  listed : List Release → Reading
  refused : ℕ → Reading

-- of a document of one JSON value, which is refused at its first line
abbrev pub reading_of : Option (List Release) → Reading
reading_of None = refused 1
reading_of (Some releases) = listed releases
