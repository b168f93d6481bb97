-- The texts of the parts of a write, each of them UTF-8.
use Rattle.std.specs.Prelude.{ℕ, List}
use Rattle.std.specs.List.{AllByRecursion}
use Rattle.std.specs.Str.{IsUtf8}
use Rattle.rnv_repo.specs.declared.branch.Branch.{Branch}
use Rattle.rnv_repo.specs.declared.branch.Key.{Key}

pub record HasKeyTexts (k : Key) : Type 0 where
  pub file : IsUtf8 k.file
  pub of : IsUtf8 k.«package»
  pub value : IsUtf8 k.new_value

pub record HasBranchTexts (b : Branch) : Type 0 where
  pub name : IsUtf8 b.name
  pub updates : AllByRecursion HasKeyTexts b.updates
  pub files : AllByRecursion (λ f. IsUtf8 f.path) b.files
  pub problem : IsUtf8 b.problem

pub record HasRequestTexts (us : List Key) (t b : List ℕ) (ls : List (List ℕ)) : Type 0 where
  pub updates : AllByRecursion HasKeyTexts us
  pub title : IsUtf8 t
  pub body : IsUtf8 b
  pub labels : AllByRecursion IsUtf8 ls
