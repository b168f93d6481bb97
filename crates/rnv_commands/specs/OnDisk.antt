-- What the commands make of the store on a disk.
use Rattle.std.specs.Prelude.{◌≡◌, ◌≤◌, ◌⊎◌, ℕ, List, [], map}
use Rattle.std.specs.List.{AllByRecursion}
use Rattle.rnv_base.specs.Files.{NamedFile}
use Rattle.rnv_disk.specs.Images.{Image}
use Rattle.rnv_disk.specs.Stops.{Past}
use Rattle.rnv_repo.specs.Store.{ArePermitted, after}
use Rattle.rnv_repo.specs.WellFormed.{IsWellFormed}
use Rattle.rnv_repo.specs.declared.write.Write.{Write}
use Rattle.rnv_journal.specs.Reading.{ReadsAs}
use Rattle.rnv_journal.specs.Readings.{IsAtRest, IsReadingNow}
use Rattle.rnv_journal.specs.declared.start.StartError.{StartError}
use Rattle.rnv_journal.specs.declared.start.StartError.TheVariants.{DiskFault as start_fault, NotAJournal as start_damaged, Memory as start_memory}
use Rattle.rnv_spelling.specs.Spelling.{spelling}
use Rattle.rnv_forge.specs.Start.{IsStoreRefusal, LeavesRefused}
use Rattle.rnv_forge.specs.Writes.{length_of}
use Rattle.rnv_commands.specs.Import.{IsImport, IsImportRefusal, PrintsImport}
use Rattle.rnv_commands.specs.Show.{IsShowRefusal, Shows}
use Rattle.rnv_commands.specs.declared.error.CommandError.{CommandError}
use Rattle.rnv_commands.specs.declared.error.CommandError.TheVariants.{Memory, UnknownRepo, FolderFault, DiskFault, NotAJournal, Limit}

-- the image reads as these writes, which are permitted in their turn
pub record IsStored (limit : ℕ) (image : Image) (ws : List Write) : Type 0 where
  pub read : ReadsAs limit image (map spelling ws)
  pub well_formed : AllByRecursion IsWellFormed ws
  pub permitted : ArePermitted ws []

-- the bytes go wrong at this offset: they are no journal there, or an entry is no permitted write
abbrev pub IsDamaged : ℕ → Image → ℕ → Type 0
IsDamaged limit image offset = IsStoreRefusal limit image (start_damaged offset)

-- what the refusal of a start is answered with
abbrev pub IsStartRefusal : StartError → CommandError → Type 0
IsStartRefusal start_fault error = error ≡ DiskFault
IsStartRefusal (start_damaged offset) error = error ≡ NotAJournal offset
IsStartRefusal start_memory error = error ≡ Memory

-- What a command leaves of a disk whose bytes are no store: bytes that are no journal are not written to, and a journal loses nothing.
abbrev pub LeavesNoStore : ℕ → Image → Image → Past → Past → CommandError → Type 0
LeavesNoStore limit old new before now Memory = Unit {0}
LeavesNoStore limit old new before now UnknownRepo = Unit {0}
LeavesNoStore limit old new before now FolderFault = Unit {0}
LeavesNoStore limit old new before now DiskFault = Unit {0}
LeavesNoStore limit old new before now (NotAJournal offset) = LeavesRefused limit old new before now (start_damaged offset)
LeavesNoStore limit old new before now (Limit which number) = Unit {0}

-- a reading that stood on entry, spelling old writes, and behind these the one write of an import
pub record IsReadingAndImport (tells : Type 0) (files : List NamedFile) (name : List ℕ) (limit : ℕ) (past : Past) (list : List (List ℕ)) : Type 0 where
  pub old : List Write
  pub new : List Write
  pub reading : IsReadingNow limit past (map spelling old)
  pub import : IsImport tells files name old new
  pub is : list ≡ map spelling new

-- what a stop of an import leaves: a reading that stood on entry, or such a reading and the one next write
abbrev pub IsReadingOrImport : Type 0 → List NamedFile → List ℕ → ℕ → Past → List (List ℕ) → Type 0
IsReadingOrImport tells files name limit past list = IsReadingNow limit past list ⊎ IsReadingAndImport tells files name limit past list

-- an import into the writes that stood, which leaves the disk at rest with the new writes, for which there is room, and what is printed of it
pub record LeavesImported (tells : Type 0) (files : List NamedFile) (name : List ℕ) (limit : ℕ) (old : List Write) (past : Past) (text : List ℕ) : Type 0 where
  pub new : List Write
  pub prints : PrintsImport tells files name old new text
  pub room : length_of new ≤ limit
  pub at_rest : IsAtRest limit past (map spelling new)

-- an import into the store of an image, which leaves the disk at rest with the new writes, and what is printed of it
pub record HasImported (tells : Type 0) (files : List NamedFile) (name : List ℕ) (limit : ℕ) (image : Image) (past : Past) (text : List ℕ) : Type 0 where
  pub old : List Write
  pub stored : IsStored limit image old
  pub imported : LeavesImported tells files name limit old past text

-- the import into the store of an image is refused
pub record IsRefusedIn (tells : Type 0) (files : List NamedFile) (name : List ℕ) (limit : ℕ) (image : Image) (error : CommandError) : Type 0 where
  pub old : List Write
  pub stored : IsStored limit image old
  pub refused : IsImportRefusal tells files name limit old error

-- why an image takes no import
abbrev pub IsNotImported : Type 0 → List NamedFile → List ℕ → ℕ → Image → CommandError → Type 0
IsNotImported tells files name limit image Memory = Unit {0}
IsNotImported tells files name limit image UnknownRepo = IsRefusedIn tells files name limit image UnknownRepo
IsNotImported tells files name limit image FolderFault = IsRefusedIn tells files name limit image FolderFault
IsNotImported tells files name limit image DiskFault = Unit {0}
IsNotImported tells files name limit image (NotAJournal offset) = IsDamaged limit image offset
IsNotImported tells files name limit image (Limit which number) = IsRefusedIn tells files name limit image (Limit which number)

-- the store of an image has the repository, and this is its text
pub record IsShownOf (name : List ℕ) (limit : ℕ) (image : Image) (text : List ℕ) : Type 0 where
  pub writes : List Write
  pub stored : IsStored limit image writes
  pub shows : Shows (after writes []) name text

-- the store of an image does not have it
pub record IsUnknownIn (name : List ℕ) (limit : ℕ) (image : Image) : Type 0 where
  pub writes : List Write
  pub stored : IsStored limit image writes
  pub unknown : IsShowRefusal (after writes []) name UnknownRepo

-- why nothing is shown of an image
abbrev pub IsNotShown : List ℕ → ℕ → Image → CommandError → Type 0
IsNotShown name limit image Memory = Unit {0}
IsNotShown name limit image UnknownRepo = IsUnknownIn name limit image
IsNotShown name limit image FolderFault = ⊥
IsNotShown name limit image DiskFault = Unit {0}
IsNotShown name limit image (NotAJournal offset) = IsDamaged limit image offset
IsNotShown name limit image (Limit which number) = ⊥
