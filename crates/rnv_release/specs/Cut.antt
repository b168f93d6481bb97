-- The front of what a document lists.
use Rattle.std.specs.Prelude.{ℕ, List, ◌++◌, take}
use Rattle.rnv_release.specs.declared.release.Release.{Release}
use Rattle.rnv_release.specs.Reading.{Reading, listed, refused}

-- so many of the releases, if there are as many
abbrev pub cut : ℕ → Reading → Reading
cut most (listed releases) = listed (take most releases)
cut most (refused line) = refused line

-- releases before those that are listed behind them
abbrev pub before : List Release → Reading → Reading
before releases (listed behind) = listed (releases ++ behind)
before releases (refused line) = refused line
