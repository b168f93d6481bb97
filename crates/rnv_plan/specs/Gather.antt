-- What is gathered of a base: the dependencies of its files, each with its updates.
use Rattle.std.specs.Prelude.{◌≡◌, ◌≤◌, ℕ, List, length, map, Bool, true, false, Option, Some, None}
use Rattle.std.specs.List.{All, AllZip, Contains}
use Rattle.rnv_base.specs.declared.kinds.SourceKind.{SourceKind}
use Rattle.rnv_base.specs.Files.{NamedFile}
use Rattle.rnv_base.specs.Limits.{most_dependencies}
use Rattle.rnv_repo.specs.Files.{MarkedFile}
use Rattle.rnv_repo.specs.Named.{IsRisingBy}
use Rattle.rnv_release.specs.declared.release.Release.{Release}
use Rattle.rnv_release.specs.Sources.{path_by, reading_by}
use Rattle.rnv_release.specs.Index.{Index, absent, listed, too_long, bad, too_many, index_of}
use Rattle.rnv_pick.specs.declared.dep.Dep.{Dep}
use Rattle.rnv_pick.specs.BySource.{IsPickedFrom as IsPickedBy}
use Rattle.rnv_pick.specs.Options.{with_current}
use Rattle.rnv_plan.specs.declared.inputs.PickedDep.{PickedDep}
use Rattle.rnv_plan.specs.declared.inputs.PickedFile.{PickedFile}
use Rattle.rnv_plan.specs.declared.taken.TakenFile.{TakenFile}
use Rattle.rnv_plan.specs.Plain.{plain}
use Rattle.rnv_plan.specs.Taken.{AreDeps, AreTaken, deps_in, readable_in, is_configured}

-- ---- the base

-- the files that managers take, with at most 20,000 dependencies together
pub record AreFew (base : List MarkedFile) (taken : List TakenFile) : Type 0 where
  pub read : AreTaken base taken
  pub few : length (deps_in taken) ≤ most_dependencies

-- nothing of the base is not built yet
pub record AreBuilt (base : List MarkedFile) (taken : List TakenFile) : Type 0 where
  pub few : AreFew base taken
  pub plain : is_configured base ≡ false

-- ---- the documents of packages

-- what the source's index has for a package
abbrev pub index_for : List NamedFile → SourceKind → List ℕ → Index
index_for files source name = index_of (path_by source) (reading_by source) name files

-- there is no document, or it is read
abbrev pub is_sound : Index → Bool
is_sound absent = true
is_sound (listed releases) = true
is_sound too_long = false
is_sound (bad line) = false
is_sound too_many = false

abbrev pub releases_in : Index → Option (List Release)
releases_in absent = None
releases_in (listed releases) = Some releases
releases_in too_long = None
releases_in (bad line) = None
releases_in too_many = None

abbrev pub releases_for : List NamedFile → SourceKind → List ℕ → Option (List Release)
releases_for files source name = releases_in (index_for files source name)

abbrev pub IsSound : List NamedFile → SourceKind → List ℕ → Type 0
IsSound files source name = is_sound (index_for files source name) ≡ true

-- ---- the updates

-- a dependency with what is picked for it at a moment, from the releases of its package
pub record IsPickedDep (moment : ℕ) (releases : SourceKind → List ℕ → Option (List Release)) (d : Dep) (p : PickedDep) : Type 0 where
  pub dep : p.dep ≡ d
  pub picked : IsPickedBy d.source plain moment d (releases d.source d.«package») p.picked

-- a file with its dependencies in turn
pub record IsPickedFile (moment : ℕ) (releases : SourceKind → List ℕ → Option (List Release)) (t : TakenFile) (p : PickedFile) : Type 0 where
  pub path : p.path ≡ t.path
  pub manager : p.manager ≡ t.manager
  pub deps : AllZip (IsPickedDep moment releases) t.deps p.deps

abbrev pub ArePicked : ℕ → (SourceKind → List ℕ → Option (List Release)) → List TakenFile → List PickedFile → Type 0
ArePicked moment releases taken picked = AllZip (IsPickedFile moment releases) taken picked

-- what is gathered of a base at a moment, from the documents of a folder's files: of each package of a dependency whose
-- value is a range
pub record IsGathered (files : List NamedFile) (moment : ℕ) (base : List MarkedFile) (picked : List PickedFile) : Type 0 where
  pub taken : List TakenFile
  pub built : AreBuilt base taken
  pub sound : All (λ d. IsSound files d.source d.«package») (readable_in taken)
  pub each : ArePicked moment (releases_for files) taken picked

-- the same from some releases, as a folder has it that tells nothing
pub record IsPickedFrom (moment : ℕ) (base : List MarkedFile) (picked : List PickedFile) : Type 0 where
  pub taken : List TakenFile
  pub built : AreBuilt base taken
  pub releases : SourceKind → List ℕ → Option (List Release)
  pub each : ArePicked moment releases taken picked

-- a file of the base, whose finds in turn are the dependencies, and each update is of the dependency
-- with which it stands, with its current version
pub record IsPickedOf (base : List MarkedFile) (p : PickedFile) : Type 0 where
  pub file : MarkedFile
  pub there : Contains base file
  pub path : p.path ≡ file.path
  pub deps : AreDeps p.manager file (map (λ d. d.dep) p.deps)
  pub own : All (λ d. All (λ u. u.dep ≡ with_current d.dep d.picked.current) d.picked.updates) p.deps

-- the picked files stand by path, each once
pub record AreFit (base : List MarkedFile) (picked : List PickedFile) : Type 0 where
  pub rising : IsRisingBy (λ p. p.path) picked
  pub each : All (IsPickedOf base) picked
