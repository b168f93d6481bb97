-- Which values are writes: texts are UTF-8, names are repository names, paths are paths and rise, and moments are moments.
use Rattle.std.specs.Prelude.{ℕ, List}
use Rattle.rnv_base.specs.Names.{IsRepositoryName}
use Rattle.rnv_repo.specs.declared.write.Write.{Write}
use Rattle.rnv_repo.specs.Meaning.{meaning}
pub use Rattle.rnv_repo.specs.Named.{AreInOrder}
pub use Rattle.rnv_repo.specs.Texts.{HasBranchTexts, HasKeyTexts, HasRequestTexts}

-- the name of the repository that a write changes
abbrev pub repo_of : Write → List ℕ
repo_of w = (meaning w).repo

-- the changes of a write, or the files of its branch, have paths that rise, and a request is opened at a moment
abbrev pub HasOrder : Write → Type 0
HasOrder w = (meaning w).order

-- a write names a repository, its paths are paths and rise, and its moment is one
pub record IsOrderly (w : Write) : Type 0 where
  pub name : IsRepositoryName (repo_of w)
  pub order : HasOrder w

-- each text of a write is UTF-8
abbrev pub HasTexts : Write → Type 0
HasTexts w = (meaning w).texts

pub record IsWellFormed (w : Write) : Type 0 where
  pub orderly : IsOrderly w
  pub texts : HasTexts w
