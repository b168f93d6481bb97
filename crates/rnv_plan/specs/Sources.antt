-- The dependencies of each source, and the order of the sources.
use Rattle.std.specs.Prelude.{ℕ, List, Bool, ◌==◌, ◌&&◌, filter}
use Rattle.rnv_base.specs.declared.kinds.SourceKind.{SourceKind}
use Rattle.rnv_base.specs.declared.kinds.SourceKind.TheVariants.{Crates, Npm, Docker}
use Rattle.rnv_pick.specs.declared.dep.Dep.{Dep}
use Rattle.rnv_plan.specs.Taken.{is_readable}

-- their documents are read in this order
abbrev pub place : SourceKind → ℕ
place Crates = 0
place Npm = 1
place Docker = 2

abbrev pub is_from : SourceKind → Dep → Bool
is_from source d = place d.source == place source

-- and its value is a range
abbrev pub is_wanted : SourceKind → Dep → Bool
is_wanted source d = is_from source d && is_readable d

abbrev pub from : SourceKind → List Dep → List Dep
from source deps = filter (is_from source) deps
