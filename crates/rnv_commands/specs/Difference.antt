-- How a base differs from files that it is to become.
use Rattle.std.specs.Prelude.{◌≡◌, ◌≢◌, ℕ, true, List, [], ◌∷◌, ◌++◌, map, None, Some}
use Rattle.std.specs.List.{AllByRecursion}
use Rattle.std.specs.declared.cmp.Ordering.TheVariants.{Less}
use Rattle.std.specs.Ordering.{nat_cmp}
use Rattle.std.specs.Cmp.Lexicographic.{slice_cmp}
use Rattle.rnv_base.specs.Files.{NamedFile}
use Rattle.rnv_base.specs.Names.{IsPath}
use Rattle.rnv_repo.specs.Base.{changed, differs, is_changing, path_of}
use Rattle.rnv_repo.specs.Files.{MarkedFile, PathChange}
use Rattle.rnv_repo.specs.Merging.{change_path}
use Rattle.rnv_repo.specs.Named.{IsRisingBy, at}

-- the files of a base without their marks
abbrev pub plain : List MarkedFile → List NamedFile
plain files = map (λ f. record { path = f.path; bytes = f.bytes }) files

abbrev pub named_path : NamedFile → List ℕ
named_path f = f.path

-- the change that sets a file, and the one that removes it
abbrev pub setting : NamedFile → PathChange
setting f = record { path = f.path; bytes = Some f.bytes }

abbrev pub removal : MarkedFile → PathChange
removal f = record { path = f.path; bytes = None }

-- a path is below these
abbrev pub IsBelow : {X : Type 0} → (X → List ℕ) → List ℕ → List X → Type 0
IsBelow key path xs = AllByRecursion (λ x. slice_cmp nat_cmp path (key x) ≡ Less) xs

-- The changes make the base of these old files the new ones, whatever the revision; each is at a path of one of them, and they
-- rise. Each differs from the old file at its path, so no other changes are so: where there are any, they change the base, and
-- there are none where the files are the old ones.
pub record IsDifference (old : List MarkedFile) (new : List NamedFile) (changes : List PathChange) : Type 0 where
  pub makes : (revision : ℕ) → plain (changed revision changes old) ≡ new
  pub rising : IsRisingBy change_path changes
  pub paths : AllByRecursion (λ f. IsPath f.path) old → AllByRecursion (λ f. IsPath f.path) new → AllByRecursion (λ c. IsPath c.path) changes
  pub below : (path : List ℕ) → IsBelow path_of path old → IsBelow named_path path new → IsBelow change_path path changes
  pub each : AllByRecursion (λ c. differs c.bytes (at path_of c.path old) ≡ true) changes
  pub changing : changes ≢ [] → is_changing changes old ≡ true
  pub none : plain old ≡ new → changes ≡ []

-- One new file more: some old files, the first of them, are done with, and what they and it ask for stands behind the changes so far.
pub record IsTurn (old : List MarkedFile) (file : NamedFile) (out out' : List PathChange) (rest : List MarkedFile) : Type 0 where
  pub added : List PathChange
  pub is : out' ≡ out ++ added
  pub rising : IsRisingBy path_of old → IsRisingBy path_of rest
  pub more : (new : List NamedFile) (changes : List PathChange) → IsRisingBy path_of old → IsRisingBy named_path (file ∷ new)
      → IsDifference rest new changes → IsDifference old (file ∷ new) (added ++ changes)
