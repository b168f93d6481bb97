-- What `show` prints of a repository.
use Rattle.std.specs.Prelude.{◌≡◌, ℕ, List, [], ◌∷◌, ◌++◌, length, ◌==◌, Bool, true, false, if◌then◌else◌, Option, None, Some, codes}
use Rattle.std.specs.List.{ends_with, flat_map}
use Rattle.rnv_repo.specs.declared.branch.Branch.{Branch}
use Rattle.rnv_repo.specs.declared.repo.Repo.{Repo}
use Rattle.rnv_repo.specs.declared.request.Request.{Request}
use Rattle.rnv_repo.specs.declared.request.RequestState.{RequestState}
use Rattle.rnv_repo.specs.declared.request.RequestState.TheVariants.{Live, Closed, Autoclosed, Merged}
use Rattle.rnv_repo.specs.Store.{known}
use Rattle.rnv_commands.specs.declared.error.CommandError.{CommandError}
use Rattle.rnv_commands.specs.declared.error.CommandError.TheVariants.{Memory, UnknownRepo, FolderFault, DiskFault, NotAJournal, Limit}
use Rattle.rnv_commands.specs.Printing.{line_end, with_number, with_text}

abbrev pub due_words : Bool → List ℕ
due_words true = codes " due yes" ++ line_end
due_words false = codes " due no" ++ line_end

-- `repo NAME revision R files N due yes`
unfoldable pub repo_line : Repo → List ℕ
repo_line repo =
    with_text (codes "repo ") repo.name
    ++ (with_number (codes " revision ") repo.revision ++ (with_number (codes " files ") (length repo.files) ++ due_words repo.due))

abbrev pub problem_text : List ℕ → List ℕ
problem_text [] = codes "none"
problem_text (b ∷ bs) = b ∷ bs

abbrev pub problem_part : List ℕ → List ℕ
problem_part problem = with_text (codes " problem ") (problem_text problem) ++ line_end

-- `branch NAME revision R updates N problem TEXT`
unfoldable pub branch_line : Branch → List ℕ
branch_line b =
    with_text (codes "branch ") b.name
    ++ (with_number (codes " revision ") b.revision ++ (with_number (codes " updates ") (length b.updates) ++ problem_part b.problem))

abbrev pub state_words : RequestState → List ℕ
state_words Live = codes " live "
state_words Closed = codes " closed "
state_words Autoclosed = codes " autoclosed "
state_words Merged = codes " merged "

abbrev pub title_part : List ℕ → List ℕ
title_part title = with_text (codes " ") title ++ line_end

-- `request #N STATE BRANCH TITLE`
unfoldable pub request_line : Request → List ℕ
request_line r =
    with_number (codes "request #") r.number ++ (with_text (state_words r.state) r.branch ++ title_part r.title)

-- a page as it is kept, with a line end behind it where it has none
abbrev pub ended : List ℕ → List ℕ
ended page = if ends_with ◌==◌ page line_end then page else (page ++ line_end)

-- `page none`, or `page N bytes` and the page
abbrev pub page_part : Option (List ℕ) → List ℕ
page_part None = codes "page none" ++ line_end
page_part (Some page) = with_number (codes "page ") (length page) ++ ((codes " bytes" ++ line_end) ++ ended page)

-- the repository, then its branches by name, its requests by number, and its page
abbrev pub show_text : Repo → List ℕ
show_text repo = repo_line repo ++ (flat_map branch_line repo.branches ++ (flat_map request_line repo.requests ++ page_part repo.page))

-- the store has the repository of a name, and this is its text
pub record Shows (store : List Repo) (name text : List ℕ) : Type 0 where
  pub repo : Repo
  pub known : known name store ≡ Some repo
  pub is : text ≡ show_text repo

-- the store has no repository of the name
abbrev pub IsShowRefusal : List Repo → List ℕ → CommandError → Type 0
IsShowRefusal store name Memory = Unit {0}
IsShowRefusal store name UnknownRepo = known name store ≡ None
IsShowRefusal store name FolderFault = ⊥
IsShowRefusal store name DiskFault = ⊥
IsShowRefusal store name (NotAJournal offset) = ⊥
IsShowRefusal store name (Limit which number) = ⊥
