-- The bounds that the writes of a journal within its limit keep.
use Rattle.std.specs.Prelude.{◌<◌}
use Rattle.std.specs.List.{AllByRecursion}
use Rattle.rnv_repo.specs.declared.repo.Repo.{Repo}

-- the bounds of a repository's revision, and of the numbers of its requests
pub record IsBounded (repo : Repo) : Type 0 where
  pub revision : repo.revision < 4294967295
  pub numbers : AllByRecursion (λ r. r.number < 2147483648) repo.requests
