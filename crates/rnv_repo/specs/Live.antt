-- The live requests of a repository by their branch.
use Rattle.std.specs.Prelude.{◌≡◌, ◌<◌, ℕ, true, if◌then◌else◌, List, length, slice_index_or, Option, None, Some, option_map}
use Rattle.std.specs.BTreeMap.{is_at}
use Rattle.std.specs.Cmp.Lexicographic.{slice_cmp}
use Rattle.std.specs.Map.{lookup}
use Rattle.std.specs.Ordering.{nat_cmp}
use Rattle.std.specs.Str.{bytes_eq}
use Rattle.rnv_repo.specs.declared.request.Request.{Request}
use Rattle.rnv_repo.specs.declared.write.Write.{Write}
use Rattle.rnv_repo.specs.declared.write.Write.TheVariants.{DropBranch, OpenRequest, Autoclose}
use Rattle.rnv_repo.specs.Requests.{is_live, is_live_number, live_on}

-- the number of the live request on a branch
abbrev pub number_on : List ℕ → List Request → Option ℕ
number_on branch rs = option_map (λ r. r.number) (live_on branch rs)

-- the entries of a map from branches to the numbers of their live requests
abbrev pub AreLiveOf : List Request → List (List ℕ × ℕ) → Type 0
AreLiveOf rs entries = (branch : List ℕ) → lookup (is_at (slice_cmp nat_cmp branch)) entries ≡ number_on branch rs

-- of the branch that a write drops or opens a request on: the number of the live request that is on it
abbrev pub IsLiveFor : Write → List Request → Option ℕ → Type 0
IsLiveFor (DropBranch repo name) rs live = live ≡ number_on name rs
IsLiveFor (OpenRequest repo number branch updates title body labels made_at) rs live = live ≡ number_on branch rs
IsLiveFor w rs live = Unit {0}

-- the live request of a number, and its place
pub record IsLiveAt (number : ℕ) (rs : List Request) (r : Request) (k : ℕ) : Type 0 where
  pub within : k < length rs
  pub there : slice_index_or rs k r ≡ r
  pub numbered : r.number ≡ number
  pub live : is_live r.state ≡ true

-- the branch of the live request of this number, if there is one
abbrev pub IsBranchOf : ℕ → List Request → Option (List ℕ) → Type 0
IsBranchOf number rs branch = is_live_number number rs ≡ true → (r : Request) × (k : ℕ) × IsLiveAt number rs r k × (branch ≡ Some r.branch)

-- the branch whose live request a write closes, where it is permitted
abbrev pub IsClosedBy : Write → List Request → Option (List ℕ) → Type 0
IsClosedBy (Autoclose repo number) rs branch = IsBranchOf number rs branch
IsClosedBy w rs branch = branch ≡ None

-- the number of the live request on a branch behind a write that opens one, from that before it
abbrev pub opened_after : Write → List ℕ → Option ℕ → Option ℕ
opened_after (OpenRequest repo number opened updates title body labels made_at) branch before =
    if bytes_eq opened branch then Some number else before
opened_after w branch before = before

-- the same behind a write that closes the one on a branch, where there is such a branch
abbrev pub live_after : Write → Option (List ℕ) → List ℕ → Option ℕ → Option ℕ
live_after w None branch before = opened_after w branch before
live_after w (Some closed) branch before = if bytes_eq closed branch then None else before
