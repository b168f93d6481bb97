-- The listings of the documents that were read, and what is picked from them.
use Rattle.std.specs.Prelude.{◌≡◌, ℕ, List, Option}
use Rattle.std.specs.List.{AllZip}
use Rattle.std.specs.BTreeMap.{BTreeMap, get}
use Rattle.std.specs.Ordering.{nat_cmp}
use Rattle.std.specs.Cmp.Lexicographic.{slice_cmp}
use Rattle.rnv_base.specs.declared.kinds.SourceKind.{SourceKind}
use Rattle.rnv_base.specs.declared.kinds.SourceKind.TheVariants.{Crates, Npm, Docker}
use Rattle.rnv_release.specs.declared.release.Release.{Release}
use Rattle.rnv_pick.specs.declared.dep.Dep.{Dep}
use Rattle.rnv_pick.specs.declared.listing.Listing.{Listing}
use Rattle.rnv_pick.specs.BySource.{IsPickedFrom as IsPickedBy}
use Rattle.rnv_pick.specs.Ranking.{IsListing}
use Rattle.rnv_plan.specs.declared.indexes.Indexes.{Indexes}
use Rattle.rnv_plan.specs.declared.inputs.PickedDep.{PickedDep}
use Rattle.rnv_plan.specs.declared.inputs.PickedFile.{PickedFile}
use Rattle.rnv_plan.specs.declared.taken.TakenFile.{TakenFile}
use Rattle.rnv_plan.specs.Plain.{plain}

abbrev pub listings_of : Indexes → SourceKind → BTreeMap (List ℕ) Listing
listings_of indexes Crates = indexes.crates
listings_of indexes Npm = indexes.npm
listings_of indexes Docker = indexes.docker

abbrev pub listing_for : Indexes → SourceKind → List ℕ → Option Listing
listing_for indexes source name = get (slice_cmp nat_cmp) (listings_of indexes source) name

-- each is of some releases
abbrev pub AreOfSome : SourceKind → BTreeMap (List ℕ) Listing → Type 0
AreOfSome source listings = (name : List ℕ) → (releases : Option (List Release)) × IsListing source releases (get (slice_cmp nat_cmp) listings name)

abbrev pub AreRead : Indexes → Type 0
AreRead indexes = (source : SourceKind) → AreOfSome source (listings_of indexes source)

-- a dependency with what is picked for it at a moment, from the releases whose listing was read
pub record IsPickedHere (moment : ℕ) (indexes : Indexes) (d : Dep) (p : PickedDep) : Type 0 where
  pub dep : p.dep ≡ d
  pub picked : (releases : Option (List Release)) → IsListing d.source releases (listing_for indexes d.source d.«package») → IsPickedBy d.source plain moment d releases p.picked

-- a file with its dependencies in turn
pub record IsFileHere (moment : ℕ) (indexes : Indexes) (t : TakenFile) (p : PickedFile) : Type 0 where
  pub path : p.path ≡ t.path
  pub manager : p.manager ≡ t.manager
  pub deps : AllZip (IsPickedHere moment indexes) t.deps p.deps
