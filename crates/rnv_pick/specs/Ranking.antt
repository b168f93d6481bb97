-- The releases of a document, the greatest version first.
use Rattle.std.specs.Prelude.{◌≡◌, ⊤, List, Option, Some, None, IsPermutation, map, option_map}
use Rattle.std.specs.List.{All}
use Rattle.rnv_base.specs.declared.kinds.SourceKind.{SourceKind}
use Rattle.rnv_base.specs.declared.kinds.SourceKind.TheVariants as source
use Rattle.rnv_release.specs.declared.release.Release.{Release}
use Rattle.rnv_version.specs.Docker.{Tag}
use Rattle.rnv_version.specs.Numbering.{Numbering}
use Rattle.rnv_version.specs.SemVer.{Version}
use Rattle.rnv_version.specs.Versionings.{cargo, docker}
use Rattle.rnv_npm.specs.Numbering.{npm}
use Rattle.rnv_pick.specs.declared.listing.Listing.{Listing}
use Rattle.rnv_pick.specs.declared.listing.Ranked.{Ranked}
use Rattle.rnv_pick.specs.declared.listing.Ranked.TheVariants as ranked
use Rattle.rnv_pick.specs.Greatest.{IsFalling}
use Rattle.rnv_pick.specs.Listing.{IsNamed, Listed, listed_cmp, live_releases}
use Rattle.rnv_pick.specs.Seen.{seen}

-- each version is that of its release's text, and none stands before a greater one
pub record IsRanked {V R : Type 0} (n : Numbering V R) (found : List (Listed V)) : Type 0 where
  pub named : All (IsNamed n) found
  pub falling : IsFalling (listed_cmp n) found

-- these are the document's releases that are versions and were not drawn back
pub record IsRankingOf {V R : Type 0} (n : Numbering V R) (releases : List Release) (found : List (Listed V)) : Type 0 where
  pub ranked : IsRanked n found
  pub same : IsPermutation (live_releases n releases) found

-- there is no document, or it is ranked
abbrev pub AreRanked : {V R : Type 0} → Numbering V R → Option (List Release) → Option (List (Listed V)) → Type 0
AreRanked n None None = ⊤
AreRanked n None (Some found) = ⊥
AreRanked n (Some releases) None = ⊥
AreRanked n (Some releases) (Some found) = IsRankingOf n releases found

-- ---- by the versioning of a source

abbrev pub crates_of : Ranked → Option (List (Listed Version))
crates_of (ranked.Crates found) = Some (map seen found.items)
crates_of (ranked.Npm found) = None
crates_of (ranked.Docker found) = None

abbrev pub npm_of : Ranked → Option (List (Listed Version))
npm_of (ranked.Crates found) = None
npm_of (ranked.Npm found) = Some (map seen found.items)
npm_of (ranked.Docker found) = None

abbrev pub docker_of : Ranked → Option (List (Listed Tag))
docker_of (ranked.Crates found) = None
docker_of (ranked.Npm found) = None
docker_of (ranked.Docker found) = Some (map seen found.items)

-- what a listing has for one versioning, none where it is of another
abbrev pub within : {V : Type 0} → (Ranked → Option (List (Listed V))) → Option Listing → Option (List (Listed V))
within of None = None
within of (Some listing) = of listing.ranked

-- the listing of a source's document with these releases, or that there is none
abbrev pub IsListing : SourceKind → Option (List Release) → Option Listing → Type 0
IsListing source.Crates releases listing = AreRanked cargo releases (within crates_of listing)
IsListing source.Npm releases listing = AreRanked npm releases (within npm_of listing)
IsListing source.Docker releases listing = AreRanked docker releases (within docker_of listing)
