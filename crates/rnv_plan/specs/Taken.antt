-- The files of a base that a manager takes, with their dependencies.
use Rattle.std.specs.Prelude.{◌≡◌, ◌⊎◌, ℕ, List, [], ◌==◌, map, filter, codes, Bool, None, Some, is_some}
use Rattle.std.specs.List.{AllZip, flat_map, list_any}
use Rattle.std.specs.Str.{IsUtf8}
use Rattle.std.specs.Cmp.Lexicographic.{pointwise}
use Rattle.rnv_base.specs.declared.kinds.ManagerKind.{ManagerKind}
use Rattle.rnv_repo.specs.Files.{MarkedFile}
use Rattle.rnv_manager.specs.Finds.{Find}
use Rattle.rnv_manager.specs.Marks.{Mark, finds_from}
use Rattle.rnv_pick.specs.BySource.{is_range}
use Rattle.rnv_pick.specs.declared.dep.Dep.{Dep}
use Rattle.rnv_plan.specs.declared.taken.TakenFile.{TakenFile}
use Rattle.rnv_plan.specs.Managers.{manager_of, IsReadBy}

-- ---- the finds of a file

-- these are what the manager finds in the text
pub record AreFindsOf (manager : ManagerKind) (text : List ℕ) (finds : List Find) : Type 0 where
  pub utf8 : IsUtf8 text
  pub marks : List Mark
  pub read : IsReadBy manager text marks
  pub same : finds ≡ finds_from 0 marks

-- there are none, since the bytes are no text, or none that the manager reads
pub record AreUnread (manager : ManagerKind) (bytes : List ℕ) (finds : List Find) : Type 0 where
  pub unread : IsUtf8 bytes → (marks : List Mark) → ¬ (IsReadBy manager bytes marks)
  pub same : finds ≡ []

-- what the manager finds in a file
abbrev pub AreFinds : ManagerKind → List ℕ → List Find → Type 0
AreFinds manager bytes finds = AreFindsOf manager bytes finds ⊎ AreUnread manager bytes finds

-- ---- the files of a base

abbrev pub dep_of : List ℕ → ManagerKind → Find → Dep
dep_of path manager f = record { file = path; manager = manager; source = f.source; place = f.place; name = f.name; «package» = f.«package»; value = f.value; start = f.start; current = None }

-- the finds of a file in turn
pub record AreDeps (manager : ManagerKind) (file : MarkedFile) (deps : List Dep) : Type 0 where
  pub finds : List Find
  pub read : AreFinds manager file.bytes finds
  pub same : deps ≡ map (dep_of file.path manager) finds

-- a file, with the manager that takes it and its dependencies
pub record IsTaken (file : MarkedFile) (taken : TakenFile) : Type 0 where
  pub path : taken.path ≡ file.path
  pub manager : manager_of file.path ≡ Some taken.manager
  pub deps : AreDeps taken.manager file taken.deps

abbrev pub is_taken : MarkedFile → Bool
is_taken file = is_some (manager_of file.path)

-- all files of the base that a manager takes, in the order of the base
abbrev pub AreTaken : List MarkedFile → List TakenFile → Type 0
AreTaken base taken = AllZip IsTaken (filter is_taken base) taken

-- their dependencies in turn
abbrev pub deps_in : List TakenFile → List Dep
deps_in taken = flat_map (λ t. t.deps) taken

-- those whose value is a range of the versioning of its source
abbrev pub is_readable : Dep → Bool
is_readable d = is_range d.source d.value

abbrev pub readable_in : List TakenFile → List Dep
readable_in taken = filter is_readable (deps_in taken)

-- ---- the configuration

-- the configuration of a repository stands at its root
abbrev pub is_configured : List MarkedFile → Bool
is_configured base = list_any (λ f. pointwise ◌==◌ f.path (codes "renovate.json")) base
