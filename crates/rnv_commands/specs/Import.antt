-- What an import makes of a store.
use Rattle.std.specs.Prelude.{◌≡◌, ◌≢◌, ◌⊎◌, ◌<◌, ℕ, ◌+◌, List, [], ◌∷◌, ◌++◌, length, Option, None, Some, codes}
use Rattle.rnv_base.specs.Files.{NamedFile}
use Rattle.rnv_checkout.specs.Base.{folder_of, IsBase, IsWithin}
use Rattle.rnv_checkout.specs.Refusal.{HasWrong}
use Rattle.rnv_checkout.specs.declared.error.BaseError.TheVariants.{Limit as base_limit}
use Rattle.rnv_repo.specs.Files.{MarkedFile, PathChange}
use Rattle.rnv_repo.specs.Store.{after, known}
use Rattle.rnv_repo.specs.WellFormed.{AreInOrder}
use Rattle.rnv_repo.specs.declared.repo.Repo.{Repo}
use Rattle.rnv_repo.specs.declared.write.Write.{Write}
use Rattle.rnv_repo.specs.declared.write.Write.TheVariants.{SetBase}
use Rattle.rnv_forge.specs.Writes.{length_of}
use Rattle.rnv_commands.specs.Difference.{IsDifference, plain}
use Rattle.rnv_commands.specs.Printing.{line_end, with_number}
use Rattle.rnv_commands.specs.declared.error.CommandError.{CommandError}
use Rattle.rnv_commands.specs.declared.error.CommandError.TheVariants.{Memory, UnknownRepo, FolderFault, DiskFault, NotAJournal, Limit}

-- the files and the revision of a repository, none and 0 where there is none

abbrev pub files_of : Option Repo → List MarkedFile
files_of None = []
files_of (Some repo) = repo.files

abbrev pub revision_of : Option Repo → ℕ
revision_of None = 0
revision_of (Some repo) = repo.revision

-- the repository of a name after these writes
abbrev pub repo_after : List ℕ → List Write → Option Repo
repo_after name ws = known name (after ws [])

-- the one write of an import: of the changes by which these files differ from the base, of which there are some
pub record IsOneWrite (name : List ℕ) (kept : List NamedFile) (old new : List Write) : Type 0 where
  pub changes : List PathChange
  pub difference : IsDifference (files_of (repo_after name old)) kept changes
  pub some : changes ≢ []
  pub is : new ≡ old ++ SetBase name changes ∷ []

-- An import makes the base of the repository of this name these files. There is one write more, or none where the base was these files
-- before, and no other repository changes.
pub record IsImported (name : List ℕ) (kept : List NamedFile) (old new : List Write) : Type 0 where
  pub base : plain (files_of (repo_after name new)) ≡ kept
  pub one : (new ≡ old) ⊎ IsOneWrite name kept old new
  pub none : plain (files_of (repo_after name old)) ≡ kept → new ≡ old
  pub others : (other : List ℕ) → other ≢ name → repo_after other new ≡ repo_after other old

-- These files are within the limits of a base, and where the folder tells its files they are the repository's, with so many passed over.
pub record IsFolderBase (tells : Type 0) (files : List NamedFile) (name : List ℕ) (kept : List NamedFile) (passed : ℕ) : Type 0 where
  pub within : IsWithin kept
  pub told : tells → IsBase files (folder_of name) kept passed

-- the import of a folder's files
pub record IsImport (tells : Type 0) (files : List NamedFile) (name : List ℕ) (old new : List Write) : Type 0 where
  pub kept : List NamedFile
  pub passed : ℕ
  pub base : IsFolderBase tells files name kept passed
  pub imported : IsImported name kept old new

-- `imported N files, revision R` and `passed over P`
unfoldable pub import_text : ℕ → ℕ → ℕ → List ℕ
import_text count revision passed =
    with_number (codes "imported ") count ++ (with_number (codes " files, revision ") revision ++ (with_number (codes "\npassed over ") passed ++ line_end))

-- the import, and what is printed of it
pub record PrintsImport (tells : Type 0) (files : List NamedFile) (name : List ℕ) (old new : List Write) (text : List ℕ) : Type 0 where
  pub import : IsImport tells files name old new
  pub is : text ≡ import_text (length import.kept) (revision_of (repo_after name new)) import.passed

-- what a stop of an import leaves: the writes from before, or those and the one next write
abbrev pub IsOldOrImport : Type 0 → List NamedFile → List ℕ → List Write → List Write → Type 0
IsOldOrImport tells files name old ws = (ws ≡ old) ⊎ IsImport tells files name old ws

-- the one write of the import would make the journal longer than its limit
pub record HasNoRoom (tells : Type 0) (files : List NamedFile) (name : List ℕ) (limit : ℕ) (old : List Write) (which : List ℕ) (number : ℕ) : Type 0 where
  pub kept : List NamedFile
  pub passed : ℕ
  pub base : IsFolderBase tells files name kept passed
  pub new : List Write
  pub one : IsOneWrite name kept old new
  pub above : limit < length_of new
  pub named : which ≡ codes "journal"
  pub number_is : number ≡ limit

-- no file of the folder is kept
pub record HasNoFile (files : List NamedFile) (name : List ℕ) : Type 0 where
  pub passed : ℕ
  pub base : IsBase files (folder_of name) [] passed

-- why an import is refused
abbrev pub IsImportRefusal : Type 0 → List NamedFile → List ℕ → ℕ → List Write → CommandError → Type 0
IsImportRefusal tells files name limit old Memory = Unit {0}
IsImportRefusal tells files name limit old UnknownRepo = tells → HasNoFile files name
IsImportRefusal tells files name limit old FolderFault = Unit {0}
IsImportRefusal tells files name limit old DiskFault = Unit {0}
IsImportRefusal tells files name limit old (NotAJournal offset) = ⊥
IsImportRefusal tells files name limit old (Limit which number) =
    (tells → HasWrong files (folder_of name) (base_limit which number)) ⊎ HasNoRoom tells files name limit old which number

-- the revision after these changes
abbrev pub revision_with : List PathChange → Option Repo → ℕ
revision_with [] repo = revision_of repo
revision_with (c ∷ cs) repo = revision_of repo + 1

-- what is found out before the write: the changes, and what is printed
pub record IsPrepared (kept : List NamedFile) (passed : ℕ) (repo : Option Repo) (changes : List PathChange) (text : List ℕ) : Type 0 where
  pub order : AreInOrder (λ c. c.path) changes
  pub difference : IsDifference (files_of repo) kept changes
  pub is : text ≡ import_text (length kept) (revision_with changes repo) passed

-- the same, of the folder's files and the writes that stand
pub record IsReady (tells : Type 0) (files : List NamedFile) (name : List ℕ) (old : List Write) (changes : List PathChange) (text : List ℕ) : Type 0 where
  pub kept : List NamedFile
  pub passed : ℕ
  pub base : IsFolderBase tells files name kept passed
  pub prepared : IsPrepared kept passed (repo_after name old) changes text

-- why the write of an import was not done
abbrev pub IsWriteRefusal : ℕ → List Write → CommandError → Type 0
IsWriteRefusal limit new Memory = Unit {0}
IsWriteRefusal limit new UnknownRepo = ⊥
IsWriteRefusal limit new FolderFault = ⊥
IsWriteRefusal limit new DiskFault = Unit {0}
IsWriteRefusal limit new (NotAJournal offset) = ⊥
IsWriteRefusal limit new (Limit which number) = (limit < length_of new) × (which ≡ codes "journal") × (number ≡ limit)

-- the refusal of a journal without room
abbrev pub IsNoRoom : ℕ → CommandError → Type 0
IsNoRoom limit Memory = Unit {0}
IsNoRoom limit UnknownRepo = ⊥
IsNoRoom limit FolderFault = ⊥
IsNoRoom limit DiskFault = ⊥
IsNoRoom limit (NotAJournal offset) = ⊥
IsNoRoom limit (Limit which number) = (which ≡ codes "journal") × (number ≡ limit)

-- why the files of a folder are no base
abbrev pub IsReadRefusal : Type 0 → List NamedFile → List ℕ → CommandError → Type 0
IsReadRefusal tells files name Memory = Unit {0}
IsReadRefusal tells files name UnknownRepo = tells → HasNoFile files name
IsReadRefusal tells files name FolderFault = Unit {0}
IsReadRefusal tells files name DiskFault = ⊥
IsReadRefusal tells files name (NotAJournal offset) = ⊥
IsReadRefusal tells files name (Limit which number) = tells → HasWrong files (folder_of name) (base_limit which number)
