-- What applying a write answers.
use Rattle.std.specs.Prelude.{◌≡◌, Option, None, Some, Result, Ok, Err}
use Rattle.rnv_repo.specs.declared.applying.ApplyError.{ApplyError}
use Rattle.rnv_repo.specs.declared.applying.ApplyError.TheVariants.{Memory, Refused}
use Rattle.rnv_repo.specs.declared.refusal.Refusal.{Refusal}
use Rattle.rnv_repo.specs.declared.repo.Repo.{Repo}

-- the repository that is wanted where nothing refuses the write, or the refusal, unless memory ran out
abbrev pub Applies : Result Repo ApplyError → Option Refusal → Repo → Type 0
Applies (Ok repo) refusal wanted = (refusal ≡ None) × (repo ≡ wanted)
Applies (Err Memory) refusal wanted = Unit {0}
Applies (Err (Refused cause)) refusal wanted = refusal ≡ Some cause
