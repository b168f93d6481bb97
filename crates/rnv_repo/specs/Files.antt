-- The files of a repository, and their changes.
use Rattle.std.specs.Prelude.{ℕ, List, Option}

-- a file of the base, and the revision at which its bytes last changed
pub record MarkedFile : Type 0 where
  pub path : List ℕ
  pub bytes : List ℕ
  pub changed : ℕ

-- the new bytes of the file at a path, or none where it is removed
pub record PathChange : Type 0 where
  pub path : List ℕ
  pub bytes : Option (List ℕ)
