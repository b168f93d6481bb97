-- The requests of a repository, by number.
use Rattle.std.specs.Prelude.{◌≡◌, ℕ, ◌+◌, ◌<◌, nat_eq, Bool, true, false, ◌&&◌, if◌then◌else◌, List, [], ◌∷◌, ◌++◌, map, Option, codes, is_some}
use Prim.Native.Nat.{max}
use Rattle.std.specs.List.{find, list_any, AllByRecursion}
use Rattle.std.specs.Str.{bytes_eq}
use Rattle.rnv_repo.specs.declared.branch.Branch.{Branch}
use Rattle.rnv_repo.specs.declared.branch.Key.{Key}
use Rattle.rnv_repo.specs.declared.request.Request.{Request}
use Rattle.rnv_repo.specs.declared.request.RequestState.{RequestState}
use Rattle.rnv_repo.specs.declared.request.RequestState.TheVariants.{Live, Closed, Autoclosed, Merged}
use Rattle.rnv_repo.specs.Named.{at}

abbrev pub is_live : RequestState → Bool
is_live Live = true
is_live Closed = false
is_live Autoclosed = false
is_live Merged = false

abbrev pub is_live_on : List ℕ → Request → Bool
is_live_on name r = is_live r.state && bytes_eq r.branch name

-- the live request on a branch
abbrev pub live_on : List ℕ → List Request → Option Request
live_on name rs = find (is_live_on name) rs

abbrev pub is_live_number : ℕ → List Request → Bool
is_live_number number rs = list_any (λ r. nat_eq r.number number && is_live r.state) rs

-- the greatest number, 0 where there is none, and the one after it
abbrev pub greatest : List Request → ℕ
greatest [] = 0
greatest (r ∷ rs) = max r.number (greatest rs)

abbrev pub next_number : List Request → ℕ
next_number rs = greatest rs + 1

-- the requests with another in place of that of a number
abbrev pub at_number : ℕ → (Request → Request) → List Request → List Request
at_number number f rs = map (λ r. if nat_eq r.number number then f r else r) rs

abbrev pub edited : List Key → List ℕ → List ℕ → List (List ℕ) → Request → Request
edited updates title body labels r = record {
  number = r.number;
  branch = r.branch;
  updates = updates;
  title = title;
  body = body;
  labels = labels;
  made_at = r.made_at;
  state = r.state;
}

unfoldable pub autoclosed_title : List ℕ → List ℕ
autoclosed_title title = title ++ codes " - autoclosed"

abbrev pub autoclosed : Request → Request
autoclosed r = record {
  number = r.number;
  branch = r.branch;
  updates = r.updates;
  title = autoclosed_title r.title;
  body = r.body;
  labels = r.labels;
  made_at = r.made_at;
  state = Autoclosed;
}

-- of two requests in their order: the number rises, and they are not live on one branch
pub record IsApart (r q : Request) : Type 0 where
  pub rises : r.number < q.number
  pub one_live : is_live r.state ≡ true → is_live_on r.branch q ≡ false

abbrev pub AreApart : List Request → Type 0
AreApart [] = Unit {0}
AreApart (r ∷ rs) = AllByRecursion (IsApart r) rs × AreApart rs

-- a live request has its branch
abbrev pub IsBased : List Branch → Request → Type 0
IsBased branches r = is_live r.state ≡ true → is_some (at (λ b. b.name) r.branch branches) ≡ true
