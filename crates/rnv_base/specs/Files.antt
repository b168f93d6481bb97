-- The files of a folder.
use Rattle.std.specs.Prelude.{ℕ, List, [], ◌∷◌, All, Option, None, Some, ◌==◌, if◌then◌else◌, take, map}
use Rattle.std.specs.List.{filter, starts_with}
use Rattle.std.specs.List.Sorted.{IsStrictlySortedBy}
use Rattle.std.specs.Ordering.{on, nat_cmp}
use Rattle.std.specs.Cmp.Lexicographic.{pointwise, slice_cmp}
use Rattle.rnv_base.specs.Buffer.{Buffer}
use Rattle.rnv_base.specs.Names.{IsPath}

pub record NamedFile : Type 0 where
  pub path : List ℕ
  pub bytes : List ℕ

-- what a read gives: the first 67,108,865 bytes of the file with this path
abbrev pub read_of : List ℕ → List NamedFile → Option (List ℕ)
read_of path [] = None
read_of path (f ∷ files) = if pointwise ◌==◌ f.path path then Some (take 67108865 f.bytes) else read_of path files

abbrev pub bytes_inside : Option Buffer → Option (List ℕ)
bytes_inside None = None
bytes_inside (Some b) = Some b.bytes

abbrev pub paths_of : List NamedFile → List (List ℕ)
paths_of files = map (λ f. f.path) files

-- the paths that begin with a prefix
abbrev pub listed_of : List ℕ → List NamedFile → List (List ℕ)
listed_of prefix files = filter (λ path. starts_with ◌==◌ path prefix) (paths_of files)

-- each path is below those after it
abbrev pub IsRising : List (List ℕ) → Type 0
IsRising paths = IsStrictlySortedBy (slice_cmp nat_cmp) paths

-- the text of each is below those of the ones after it
abbrev pub IsRisingBy : {X : Type 0} → (X → List ℕ) → List X → Type 0
IsRisingBy key xs = IsStrictlySortedBy (on key (slice_cmp nat_cmp)) xs

-- paths that rise
pub record AreInOrder {X : Type 0} (path : X → List ℕ) (xs : List X) : Type 0 where
  pub each : All (λ x. IsPath (path x)) xs
  pub rising : IsRisingBy path xs
