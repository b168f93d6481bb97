-- What is picked for a dependency, by where its releases are listed.
use Rattle.std.specs.Prelude.{◌≡◌, ℕ, List, Bool, Option, is_some}
use Rattle.rnv_base.specs.declared.kinds.SourceKind.{SourceKind}
use Rattle.rnv_base.specs.declared.kinds.SourceKind.TheVariants as source
use Rattle.rnv_release.specs.declared.release.Release.{Release}
use Rattle.rnv_version.specs.Versionings.{cargo, docker}
use Rattle.rnv_npm.specs.Numbering.{npm}
use Rattle.rnv_pick.specs.declared.dep.Dep.{Dep}
use Rattle.rnv_pick.specs.declared.update.Picked.{Picked}
use Rattle.rnv_pick.specs.Options.{Options}
use Rattle.rnv_pick.specs.Updates.{IsPicked}

-- the value is a range of the versioning of the source
abbrev pub is_range : SourceKind → List ℕ → Bool
is_range source.Crates value = is_some (cargo.range_of value)
is_range source.Npm value = is_some (npm.range_of value)
is_range source.Docker value = is_some (docker.range_of value)

-- by the versioning of the source
abbrev pub IsPickedFrom : SourceKind → Options → ℕ → Dep → Option (List Release) → Picked → Type 0
IsPickedFrom source.Crates o moment dep releases p = IsPicked cargo o moment dep releases p
IsPickedFrom source.Npm o moment dep releases p = IsPicked npm o moment dep releases p
IsPickedFrom source.Docker o moment dep releases p = IsPicked docker o moment dep releases p

-- a dependency has no second answer
abbrev pub HasOneAnswer : Options → ℕ → Dep → Option (List Release) → Type 0
HasOneAnswer o moment dep releases =
    (p q : Picked) → IsPickedFrom dep.source o moment dep releases p → IsPickedFrom dep.source o moment dep releases q → p ≡ q
