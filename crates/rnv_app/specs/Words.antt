-- What the program's words ask for.
use Rattle.std.specs.Prelude.{◌≡◌, ◌⊎◌, ℕ, List, [], ◌∷◌, codes}
use Rattle.rnv_base.specs.Names.{IsRepositoryName}
use Rattle.rnv_base.specs.Moment.{IsMoment, IsMomentText}
use Rattle.rnv_app.specs.declared.words.Words.{Words}
use Rattle.rnv_app.specs.declared.words.Words.TheVariants.{Plan, Run, Import, Show}

-- three words are a repository name, `--now` and the text of a moment
pub record IsAsked (repo flag time : List ℕ) (now : ℕ) : Type 0 where
  pub name : IsRepositoryName repo
  pub option : flag ≡ codes "--now"
  pub moment : IsMoment now
  pub timed : IsMomentText time now

-- a command, a repository name, `--now` and a moment
pub record IsTimed (command : List ℕ) (words : List (List ℕ)) (repo : List ℕ) (now : ℕ) : Type 0 where
  pub flag : List ℕ
  pub time : List ℕ
  pub four : words ≡ command ∷ repo ∷ flag ∷ time ∷ []
  pub asked : IsAsked repo flag time now

-- `plan REPO --now T`
abbrev pub IsPlan : List (List ℕ) → List ℕ → ℕ → Type 0
IsPlan words repo now = IsTimed (codes "plan") words repo now

-- `run REPO --now T`
abbrev pub IsRun : List (List ℕ) → List ℕ → ℕ → Type 0
IsRun words repo now = IsTimed (codes "run") words repo now

-- a command and a repository name
pub record IsCommand (command : List ℕ) (words : List (List ℕ)) (repo : List ℕ) : Type 0 where
  pub two : words ≡ command ∷ repo ∷ []
  pub name : IsRepositoryName repo

-- `import REPO`
abbrev pub IsImport : List (List ℕ) → List ℕ → Type 0
IsImport words repo = IsCommand (codes "import") words repo

-- `show REPO`
abbrev pub IsShow : List (List ℕ) → List ℕ → Type 0
IsShow words repo = IsCommand (codes "show") words repo

-- a command over the store's repository of that name
abbrev pub IsOfStore : List (List ℕ) → List ℕ → Type 0
IsOfStore words repo = ((now : ℕ) × IsRun words repo now) ⊎ (IsImport words repo ⊎ IsShow words repo)

abbrev pub AreWords : List (List ℕ) → Words → Type 0
AreWords words (Plan repo now) = IsPlan words repo now
AreWords words (Run repo now) = IsRun words repo now
AreWords words (Import repo) = IsImport words repo
AreWords words (Show repo) = IsShow words repo

-- other words than these
pub record IsUsage (words : List (List ℕ)) : Type 0 where
  pub plan : (repo : List ℕ) (now : ℕ) → ¬ (IsPlan words repo now)
  pub run : (repo : List ℕ) (now : ℕ) → ¬ (IsRun words repo now)
  pub import : (repo : List ℕ) → ¬ (IsImport words repo)
  pub show : (repo : List ℕ) → ¬ (IsShow words repo)
