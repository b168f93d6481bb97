-- Changes in the order of their paths, merged into files in theirs.
use Rattle.std.specs.Prelude.{◌≡◌, ℕ, Bool, ◌||◌, is_some, ◌++◌, if◌then◌else◌, List, [], ◌∷◌, Option, None, Some}
use Rattle.std.specs.List.{list_any}
use Rattle.std.specs.Str.{bytes_eq}
use Rattle.rnv_repo.specs.Base.{path_of, changed, is_changing}
use Rattle.rnv_repo.specs.Files.{MarkedFile, PathChange}
use Rattle.rnv_repo.specs.Named.{IsRisingBy}

abbrev pub change_path : PathChange → List ℕ
change_path c = c.path

-- the file that a change sets where none was
abbrev pub set_at : ℕ → List ℕ → Option (List ℕ) → List MarkedFile
set_at revision path None = []
set_at revision path (Some bytes) = record { path = path; bytes = bytes; changed = revision } ∷ []

abbrev pub set_by : ℕ → PathChange → List MarkedFile
set_by revision c = set_at revision c.path c.bytes

-- the file that a change leaves of this one
abbrev pub left_at : ℕ → MarkedFile → Option (List ℕ) → List MarkedFile
left_at revision f None = []
left_at revision f (Some bytes) =
    record { path = f.path; bytes = bytes; changed = if bytes_eq f.bytes bytes then f.changed else revision } ∷ []

-- some change sets a file
abbrev pub sets_some : List PathChange → Bool
sets_some cs = list_any (λ c. is_some c.bytes) cs

-- The changes of these up to a file's path are merged with that file: old files and then new ones, as the changes and the file
-- and whatever is behind it would give them.
pub record MergesFile (revision : ℕ) (changes : List PathChange) (f : MarkedFile) (old new : List MarkedFile) (rest : List PathChange) (any : Bool) : Type 0 where
  pub files : (more : List MarkedFile) → IsRisingBy path_of (f ∷ more) → IsRisingBy change_path changes → old ++ changed revision changes (f ∷ more) ≡ new ++ changed revision rest more
  pub changing : (more : List MarkedFile) → IsRisingBy path_of (f ∷ more) → IsRisingBy change_path changes → is_changing changes (f ∷ more) ≡ (any || is_changing rest more)
  pub rising : IsRisingBy change_path changes → IsRisingBy change_path rest
