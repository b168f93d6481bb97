-- Repositories by their name.
use Rattle.std.specs.Prelude.{◌≡◌, ℕ, List}
use Rattle.std.specs.List.{AllByRecursion}
use Rattle.std.specs.List.Sorted.{IsStrictlySortedBy}
use Rattle.std.specs.Cmp.Lexicographic.{slice_cmp}
use Rattle.std.specs.Map.{keys_of}
use Rattle.std.specs.Ordering.{nat_cmp}
use Rattle.rnv_repo.specs.declared.repo.Repo.{Repo}

-- each repository beside its name, in the order of the names
pub record IsByName (entries : List (List ℕ × Repo)) : Type 0 where
  pub named : AllByRecursion (λ e. e.0 ≡ e.1.name) entries
  pub ordered : IsStrictlySortedBy (slice_cmp nat_cmp) (keys_of entries)
