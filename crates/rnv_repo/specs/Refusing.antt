-- Why a repository refuses a write, the first cause.
use Rattle.std.specs.Prelude.{ℕ, Bool, not, is_some, if◌then◌else◌, List, Option, None, Some}
use Rattle.rnv_repo.specs.declared.branch.Branch.{Branch}
use Rattle.rnv_repo.specs.declared.refusal.Refusal.{Refusal}
use Rattle.rnv_repo.specs.declared.refusal.Refusal.TheVariants.{NoBranch, HasLiveRequest}
use Rattle.rnv_repo.specs.declared.repo.Repo.{Repo}
use Rattle.rnv_repo.specs.declared.request.Request.{Request}
use Rattle.rnv_repo.specs.Named.{at}
use Rattle.rnv_repo.specs.Requests.{live_on}

abbrev pub name_of : Branch → List ℕ
name_of b = b.name

-- the first cause that holds, of two
abbrev pub refused_if : Bool → Refusal → Option Refusal → Option Refusal
refused_if holds cause otherwise = if holds then Some cause else otherwise

abbrev pub refused_live : Option Request → Option Refusal → Option Refusal
refused_live None otherwise = otherwise
refused_live (Some r) otherwise = Some (HasLiveRequest r.number)

-- what a branch needs before it is dropped or has a request opened
abbrev pub refused_branch : List ℕ → Repo → Option Refusal → Option Refusal
refused_branch branch repo otherwise =
    refused_if (not (is_some (at name_of branch repo.branches))) NoBranch (refused_live (live_on branch repo.requests) otherwise)
