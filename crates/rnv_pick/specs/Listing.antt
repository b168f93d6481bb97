-- The releases of a package that are versions.
use Rattle.std.specs.Prelude.{◌≡◌, ℕ, Bool, List, Option, Some, None, option_map, if◌then◌else◌}
use Rattle.std.specs.Cmp.{IsTotalOrder, on_total, then_total}
use Rattle.std.specs.Cmp.Lexicographic.{slice_cmp, nat_list_cmp_total}
use Rattle.std.specs.List.{filter_map}
use Rattle.std.specs.Ordering.{nat_cmp, on, then_cmp}
use Rattle.std.specs.declared.cmp.Ordering.{Ordering}
use Rattle.rnv_release.specs.declared.release.Release.{Release}
use Rattle.rnv_version.specs.Numbering.{Numbering}
use Rattle.rnv_pick.specs.Greatest.{IsBest}

-- a release, and the version that its text is
pub record Listed (V : Type 0) : Type 0 where
  pub release : Release
  pub version : V

abbrev pub IsNamed : {V R : Type 0} → Numbering V R → Listed V → Type 0
IsNamed n c = n.version_of c.release.text ≡ Some c.version

-- the version of a release that was not drawn back, if it is one
abbrev pub live_version : {V R : Type 0} → Numbering V R → Release → Option V
live_version n release = if release.yanked then None else n.version_of release.text

abbrev pub listed_as : {V : Type 0} → Release → Option V → Option (Listed V)
listed_as release version = option_map (λ v. record { release = release; version = v }) version

abbrev pub listed_of : {V R : Type 0} → Numbering V R → Release → Option (Listed V)
listed_of n release = listed_as release (live_version n release)

-- the releases that were not drawn back and are versions, with these
abbrev pub live_releases : {V R : Type 0} → Numbering V R → List Release → List (Listed V)
live_releases n releases = filter_map (listed_of n) releases

-- by version, and equal versions by text
abbrev pub listed_cmp : {V R : Type 0} → Numbering V R → Listed V → Listed V → Ordering
listed_cmp {V} n = then_cmp (on (λ (c : Listed V). c.version) n.order) (on (λ (c : Listed V). c.release.text) (slice_cmp nat_cmp))

pub listed_total : {V R : Type 0} (n : Numbering V R) → IsTotalOrder n.order → IsTotalOrder (listed_cmp n)
listed_total {V} n total = then_total (on_total (λ (c : Listed V). c.version) total) (on_total (λ (c : Listed V). c.release.text) nat_list_cmp_total)

abbrev pub in_range : {V R : Type 0} → Numbering V R → R → Listed V → Bool
in_range n range c = n.is_satisfied range c.version

abbrev pub text_of : {V : Type 0} → Option (Listed V) → Option (List ℕ)
text_of None = None
text_of (Some c) = Some c.release.text

-- the text of the greatest release in the range, or none where no release is
pub record IsGreatestIn {V R : Type 0} (n : Numbering V R) (range : R) (found : List (Listed V)) (text : Option (List ℕ)) : Type 0 where
  pub best : Option (Listed V)
  pub is_best : IsBest (listed_cmp n) (in_range n range) found best
  pub text_is : text ≡ text_of best
