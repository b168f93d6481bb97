-- The releases of a package that may be chosen for a dependency.
use Rattle.std.specs.Prelude.{◌≡◌, ℕ, true, Bool, not, ◌&&◌, ◌||◌, List, Option, Some}
use Rattle.std.specs.List.{Contains}
use Rattle.std.specs.Ordering.{is_lt, on}
use Rattle.std.specs.declared.cmp.Ordering.{Ordering}
use Rattle.rnv_base.specs.declared.kinds.UpdateKind.{UpdateKind}
use Rattle.rnv_version.specs.Numbering.{Numbering}
use Rattle.rnv_pick.specs.declared.allowance.Allowance.{Allowance}
use Rattle.rnv_pick.specs.declared.dep.Dep.{Dep}
use Rattle.rnv_pick.specs.declared.options.DepOptions.{DepOptions}
use Rattle.rnv_pick.specs.Allowing.{admits, allowance_of}
use Rattle.rnv_pick.specs.Listing.{Listed, listed_cmp}

-- a dependency with its options, and the version that its candidates are above
pub record Aim (V : Type 0) : Type 0 where
  pub dep : Dep
  pub options : DepOptions
  pub start : V

-- comparable with the start and greater, and stable unless the start is not
abbrev pub is_above : {V R : Type 0} → Numbering V R → V → V → Bool
is_above n start v = n.are_comparable start v && is_lt (n.order start v) && (n.is_stable v || not (n.is_stable start))

abbrev pub is_wanted_by : {V R : Type 0} → Numbering V R → V → Allowance R → Listed V → Bool
is_wanted_by n start allowance c = is_above n start c.version && admits n allowance c.release.text c.version

-- above the start, and allowed
abbrev pub is_wanted : {V R : Type 0} → Numbering V R → Aim V → Listed V → Bool
is_wanted n aim c = is_wanted_by n aim.start (allowance_of n aim.options.allowed) c

-- a release and what is written for it
pub record Offer (V : Type 0) : Type 0 where
  pub listed : Listed V
  pub new_value : List ℕ

-- one of the releases that is wanted and has a new text
pub record IsCandidate {V R : Type 0} (n : Numbering V R) (aim : Aim V) (found : List (Listed V)) (o : Offer V) : Type 0 where
  pub among : Contains found o.listed
  pub wanted : is_wanted n aim o.listed ≡ true
  pub new_value : n.new_text aim.options.strategy aim.dep.value o.listed.release.text ≡ Some o.new_value

-- how far the update goes
abbrev pub kind_of : {V R : Type 0} → Numbering V R → Aim V → Listed V → UpdateKind
kind_of n aim c = n.kind_between aim.start c.version

abbrev pub offer_cmp : {V R : Type 0} → Numbering V R → Offer V → Offer V → Ordering
offer_cmp {V} n = on (λ (o : Offer V). o.listed) (listed_cmp n)
