-- Why a base is not gathered.
use Rattle.std.specs.Prelude.{◌≡◌, ◌<◌, ℕ, List, length, codes, true, false}
use Rattle.std.specs.List.{All, Any}
use Rattle.std.specs.Ordering.{nat_cmp}
use Rattle.std.specs.Cmp.Lexicographic.{slice_cmp}
use Rattle.std.specs.declared.cmp.Ordering.TheVariants.{Less}
use Rattle.rnv_base.specs.declared.kinds.SourceKind.{SourceKind}
use Rattle.rnv_base.specs.Files.{NamedFile}
use Rattle.rnv_base.specs.Limits.{document_bytes, most_dependencies, most_releases}
use Rattle.rnv_repo.specs.Files.{MarkedFile}
use Rattle.rnv_release.specs.Sources.{path_by}
use Rattle.rnv_release.specs.Index.{Index, absent, listed, too_long, bad, too_many}
use Rattle.rnv_pick.specs.declared.dep.Dep.{Dep}
use Rattle.rnv_plan.specs.declared.error.RunError.{RunError}
use Rattle.rnv_plan.specs.declared.error.RunError.TheVariants.{Memory, FolderFault, DiskFault, UnknownRepo, NotBuilt, Limit, IndexRefused}
use Rattle.rnv_plan.specs.declared.taken.TakenFile.{TakenFile}
use Rattle.rnv_plan.specs.Sources.{from, place}
use Rattle.rnv_plan.specs.Taken.{AreTaken, deps_in, readable_in, is_configured}
use Rattle.rnv_plan.specs.Gather.{AreFew, AreBuilt, index_for, is_sound, IsSound}

-- a fact of the error, but for want of memory and a fault of the folder
abbrev pub IfTold : (RunError → Type 0) → RunError → Type 0
IfTold P Memory = Unit {0}
IfTold P FolderFault = Unit {0}
IfTold P DiskFault = P DiskFault
IfTold P UnknownRepo = P UnknownRepo
IfTold P (NotBuilt path) = P (NotBuilt path)
IfTold P (Limit which number) = P (Limit which number)
IfTold P (IndexRefused file line) = P (IndexRefused file line)

-- its files have more than 20,000 dependencies together
pub record HaveMany (base : List MarkedFile) : Type 0 where
  pub taken : List TakenFile
  pub read : AreTaken base taken
  pub many : most_dependencies < length (deps_in taken)

-- the first package of a source, by its name, whose document is refused
pub record IsFirstUnsound (files : List NamedFile) (source : SourceKind) (deps : List Dep) (name : List ℕ) : Type 0 where
  pub among : Any (λ d. d.«package» ≡ name) deps
  pub unsound : is_sound (index_for files source name) ≡ false
  pub before : All (λ d. slice_cmp nat_cmp d.«package» name ≡ Less → IsSound files source d.«package») deps

-- why the document of a package is refused: it has more than 67,108,864 bytes, a line outside the
-- grammar, or more than 50,000 releases
abbrev pub IsIndexRefusal : SourceKind → List ℕ → Index → RunError → Type 0
IsIndexRefusal source name absent error = ⊥
IsIndexRefusal source name (listed releases) error = ⊥
IsIndexRefusal source name too_long error = error ≡ Limit (codes "document") document_bytes
IsIndexRefusal source name (bad line) error = error ≡ IndexRefused (path_by source name) line
IsIndexRefusal source name too_many error = error ≡ Limit (codes "releases") most_releases

-- the first document of a source, by its package's name, that is refused, and why
pub record HasUnsoundOf (files : List NamedFile) (source : SourceKind) (deps : List Dep) (error : RunError) : Type 0 where
  pub name : List ℕ
  pub first : IsFirstUnsound files source deps name
  pub cause : IsIndexRefusal source name (index_for files source name) error

-- the first document that is refused, by its source and then by its package's name, and why
pub record HasUnsound (files : List NamedFile) (deps : List Dep) (error : RunError) : Type 0 where
  pub source : SourceKind
  pub before : All (λ d. place d.source < place source → IsSound files d.source d.«package») deps
  pub here : HasUnsoundOf files source (from source deps) error

-- the causes in their order, each where none before it holds
pub data IsRefusal (files : List NamedFile) (base : List MarkedFile) (error : RunError) : Type 0 where
  many_dependencies : HaveMany base → error ≡ Limit (codes "dependencies") most_dependencies → IsRefusal files base error
  configured : (taken : List TakenFile) → AreFew base taken → is_configured base ≡ true → error ≡ NotBuilt (codes "renovate.json") → IsRefusal files base error
  refused_document : (taken : List TakenFile) → AreBuilt base taken → HasUnsound files (readable_in taken) error → IsRefusal files base error
