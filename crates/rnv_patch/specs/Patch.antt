-- A patch: the diffs that take the files of a base to those of a branch.
use Rattle.std.specs.Prelude.{◌≡◌, ℕ, if◌then◌else◌, List, [], ◌∷◌, ◌++◌, Option, Some, MatchBool}
use Rattle.std.specs.Option.{option_map}
use Rattle.std.specs.Str.{bytes_eq}
use Rattle.rnv_base.specs.Files.{NamedFile}
use Rattle.rnv_repo.specs.Base.{path_of}
use Rattle.rnv_repo.specs.Files.{MarkedFile}
use Rattle.rnv_repo.specs.Named.{at}
use Rattle.rnv_patch.specs.Diff.{Take}
use Rattle.rnv_patch.specs.File.{FileDiff, IsPart, diffs_text, is_none, old_text}
use Rattle.rnv_patch.specs.Lines.{lines}

-- the bytes of the file at a path
abbrev pub text_at : List ℕ → List MarkedFile → Option (List ℕ)
text_at path base = option_map (λ f. f.bytes) (at path_of path base)

-- The diff of a file of the branch, if it has one, and those of the others, of which Rest holds.
pub record AreNext (base : List MarkedFile) (f : NamedFile) (diffs : List FileDiff) (Rest : List FileDiff → Type 0) : Type 0 where
  pub part : List FileDiff
  pub rest : List FileDiff
  pub diffs_are : diffs ≡ part ++ rest
  pub is_part : IsPart f.path (text_at f.path base) f.bytes part
  pub rest_is : Rest rest

-- The diffs from the base to these files of the branch, in turn: each takes the base's file at its path, or no file,
-- to the branch's file. A file without a difference has none.
abbrev pub AreDiffs : List MarkedFile → List NamedFile → List FileDiff → Type 0
AreDiffs base [] diffs = diffs ≡ []
AreDiffs base (f ∷ files) diffs = AreNext base f diffs (AreDiffs base files)

-- the diffs from the base to these files of the branch, as bytes
pub record IsPatch (base : List MarkedFile) (files : List NamedFile) (bytes : List ℕ) : Type 0 where
  pub diffs : List FileDiff
  pub are : AreDiffs base files diffs
  pub text : bytes ≡ diffs_text diffs

-- ---- applied to the base

-- what a diff makes of the file at its path, or of no file
pub record DiffTakes (d : FileDiff) (old new : Option (List ℕ)) : Type 0 where
  pub text : List ℕ
  pub new_is : new ≡ Some text
  pub is_new : d.is_new ≡ is_none old
  pub take : Take d.hunks (lines (old_text old)) (lines text)

-- What diffs make of the file at a path: what the one for that path makes of it, and else it stays.
abbrev pub DiffsTake : List FileDiff → List ℕ → Option (List ℕ) → Option (List ℕ) → Type 0
DiffsTake [] path old new = new ≡ old
DiffsTake (d ∷ diffs) path old new = MatchBool (bytes_eq d.path path) (DiffTakes d old new) (DiffsTake diffs path old new)

abbrev pub branch_path : NamedFile → List ℕ
branch_path f = f.path

-- the bytes of the branch's file at a path: where it lists none, the base's
abbrev pub branch_text : List ℕ → List MarkedFile → List NamedFile → Option (List ℕ)
branch_text path base [] = text_at path base
branch_text path base (f ∷ files) = if bytes_eq f.path path then Some f.bytes else branch_text path base files

-- bytes of diffs that make of each file of the base, and of each path without a file, what the branch has there
pub record TakesToBranch (base : List MarkedFile) (files : List NamedFile) (bytes : List ℕ) : Type 0 where
  pub diffs : List FileDiff
  pub text : bytes ≡ diffs_text diffs
  pub take : (path : List ℕ) → DiffsTake diffs path (text_at path base) (branch_text path base files)
