-- The checked-out files of a repository in the operator's folder.
use Rattle.std.specs.Prelude.{◌≡◌, ◌≢◌, ℕ, ◌+◌, ◌<◌, ◌≤◌, List, ◌++◌, length, sum_by, Option, None, Some, All, codes, option_to_list}
use Rattle.std.specs.List.{AllZip, flat_map}
use Rattle.std.specs.Str.{IsUtf8}
use Rattle.rnv_base.specs.Files.{NamedFile, read_of, listed_of}
use Rattle.rnv_base.specs.Limits.{base_bytes, base_files}
use Rattle.rnv_base.specs.Names.{IsPath, segments}

-- the front of the paths of a repository's files
abbrev pub folder_of : List ℕ → List ℕ
folder_of repo = codes "repos/" ++ (repo ++ codes "/")

-- the file at this path of the folder, by its path in the repository
pub record IsAt (files : List NamedFile) (folder path : List ℕ) (f : NamedFile) : Type 0 where
  pub place : path ≡ folder ++ f.path
  pub bytes : read_of path files ≡ Some f.bytes

-- It is kept: its path is a path without a part `.git`, and it has at most 1,048,576 bytes, which are UTF-8.
pub record IsKept (f : NamedFile) : Type 0 where
  pub path : IsPath f.path
  pub visible : All (λ part. part ≢ codes ".git") (segments f.path)
  pub short : length f.bytes ≤ 1048576
  pub text : IsUtf8 f.bytes

-- what becomes of a path of the folder: its file is kept, or it is passed over
abbrev pub IsOutcome : List NamedFile → List ℕ → List ℕ → Option NamedFile → Type 0
IsOutcome files folder path (Some f) = IsAt files folder path f × IsKept f
IsOutcome files folder path None = (f : NamedFile) → IsAt files folder path f → ¬ IsKept f

-- also where the folder tells nothing: the file that is kept of this path has a path in the repository
abbrev pub IsPlaced : List ℕ → List ℕ → Option NamedFile → Type 0
IsPlaced folder path (Some f) = (path ≡ folder ++ f.path) × IsPath f.path
IsPlaced folder path None = Unit {0}

-- the files that are kept, of what becomes of each path
abbrev pub kept_of : List (Option NamedFile) → List NamedFile
kept_of outcomes = flat_map option_to_list outcomes

-- of these paths in turn the files that are kept, and how many others there are
pub record AreKept (files : List NamedFile) (folder : List ℕ) (paths : List (List ℕ)) (kept : List NamedFile) (passed : ℕ) : Type 0 where
  pub outcomes : List (Option NamedFile)
  pub each : AllZip (IsOutcome files folder) paths outcomes
  pub kept_are : kept ≡ kept_of outcomes
  pub passed_are : passed + length kept ≡ length paths

-- the base: what is kept of all files of the repository's folder
abbrev pub IsBase : List NamedFile → List ℕ → List NamedFile → ℕ → Type 0
IsBase files folder kept passed = AreKept files folder (listed_of folder files) kept passed

abbrev pub size_of : List NamedFile → ℕ
size_of kept = sum_by (λ f. length f.bytes) kept

-- one file at least, at most 20,000 files, and at most 67,108,864 bytes
pub record IsWithin (kept : List NamedFile) : Type 0 where
  pub some : 0 < length kept
  pub few : length kept ≤ base_files
  pub small : size_of kept ≤ base_bytes
