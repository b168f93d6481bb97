-- Repositories, what a write makes of them, and which writes are permitted.
use Rattle.std.specs.Prelude.{◌≡◌, ℕ, ◌≤◌, false, List, [], ◌∷◌, Option, None, Some}
use Rattle.std.specs.List.{AllByRecursion}
use Rattle.rnv_base.specs.Moment.{IsMoment}
use Rattle.rnv_base.specs.Names.{IsRepositoryName}
use Rattle.rnv_repo.specs.declared.refusal.Refusal.{Refusal}
use Rattle.rnv_repo.specs.declared.refusal.Refusal.TheVariants.{UnknownRepo, BaseFull}
use Rattle.rnv_repo.specs.declared.repo.Repo.{Repo}
use Rattle.rnv_repo.specs.declared.write.Write.{Write}
use Rattle.rnv_repo.specs.declared.write.Write.TheVariants.{SetBase}
use Rattle.rnv_repo.specs.Base.{changed, is_over}
use Rattle.rnv_repo.specs.Meaning.{meaning}
use Rattle.rnv_repo.specs.Named.{AreInOrder, IsRisingBy, at, put}
use Rattle.rnv_repo.specs.Requests.{AreApart, IsBased}
use Rattle.rnv_repo.specs.WellFormed.{repo_of}
pub use Rattle.rnv_repo.specs.Meaning.{with_base}
pub use Rattle.rnv_repo.specs.Refusing.{name_of, refused_branch, refused_if, refused_live}

-- what a write makes of its repository
abbrev pub applied_in : Write → Repo → Repo
applied_in w repo = (meaning w).makes repo

-- a repository that is new, before its first files
abbrev pub empty_repo : List ℕ → Repo
empty_repo name = record {
  name = name;
  revision = 0;
  files = [];
  branches = [];
  requests = [];
  page = None;
  due = false;
  deliveries = [];
}

-- a new repository begins with its base, at revision 1
abbrev pub begun : Write → Repo
begun (SetBase repo changes) = with_base 1 changes (empty_repo repo)
begun w = empty_repo (repo_of w)

abbrev pub applied_to : Write → Option Repo → Repo
applied_to w None = begun w
applied_to w (Some repo) = applied_in w repo

-- why a write is refused, the first cause
abbrev pub refusal_in : Write → Repo → Option Refusal
refusal_in w repo = (meaning w).refused repo

-- where no repository has the name, only a base begins one
abbrev pub refusal_unknown : Write → Option Refusal
refusal_unknown (SetBase repo changes) = refused_if (is_over (changed 1 changes [])) BaseFull None
refusal_unknown w = Some UnknownRepo

abbrev pub refusal_to : Write → Option Repo → Option Refusal
refusal_to w None = refusal_unknown w
refusal_to w (Some repo) = refusal_in w repo

-- the store, a list of repositories by name

abbrev pub known : List ℕ → List Repo → Option Repo
known name store = at (λ r. r.name) name store

abbrev pub refusal : Write → List Repo → Option Refusal
refusal w store = refusal_to w (known (repo_of w) store)

abbrev pub IsPermitted : Write → List Repo → Type 0
IsPermitted w store = refusal w store ≡ None

abbrev pub applied : Write → List Repo → List Repo
applied w store = put (λ r. r.name) (applied_to w (known (repo_of w) store)) store

abbrev pub after : List Write → List Repo → List Repo
after [] store = store
after (w ∷ ws) store = after ws (applied w store)

-- each is permitted in its turn
abbrev pub ArePermitted : List Write → List Repo → Type 0
ArePermitted [] store = Unit {0}
ArePermitted (w ∷ ws) store = IsPermitted w store × ArePermitted ws (applied w store)

-- Sound: files, branches, requests and deliveries are in their order, each once; paths are paths; no file is
-- marked above the revision; each request was made at a moment; a live request has its branch, and a branch at most one.
pub record IsSound (repo : Repo) : Type 0 where
  pub name : IsRepositoryName repo.name
  pub files : AreInOrder (λ f. f.path) repo.files
  pub marks : AllByRecursion (λ f. f.changed ≤ repo.revision) repo.files
  pub branches : IsRisingBy name_of repo.branches
  pub branch_files : AllByRecursion (λ b. AreInOrder (λ f. f.path) b.files) repo.branches
  pub requests : AreApart repo.requests
  pub moments : AllByRecursion (λ r. IsMoment r.made_at) repo.requests
  pub based : AllByRecursion (IsBased repo.branches) repo.requests
  pub deliveries : IsRisingBy (λ d. d.id) repo.deliveries

pub record IsSoundStore (store : List Repo) : Type 0 where
  pub repos : IsRisingBy (λ r. r.name) store
  pub each : AllByRecursion IsSound store
