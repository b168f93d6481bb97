-- The refusals of a command on a disk.
use Rattle.std.proofs.Common.{ℕ, List, [], Result, Ok, Err, IsErrOf, refl, sym, subst, arith}
use Rattle.std.specs.Prelude.{IfOk}
use Rattle.rnv_base.specs.Causes.{FaultsBy}
use Rattle.rnv_base.specs.Files.{NamedFile}
use Rattle.rnv_disk.specs.Images.{Image}
use Rattle.rnv_disk.specs.Stops.{Past}
use Rattle.rnv_repo.specs.Store.{after}
use Rattle.rnv_repo.specs.declared.write.Write.{Write}
use Rattle.rnv_journal.specs.declared.start.StartError.{StartError}
use Rattle.rnv_journal.specs.declared.start.StartError.TheVariants.{DiskFault as start_fault, NotAJournal as start_damaged, Memory as start_memory}
use Rattle.rnv_forge.specs.Start.{IsStoreRefusal, LeavesRefused, RefusedBy}
use Rattle.rnv_commands.specs.Import.{IsImportRefusal}
use Rattle.rnv_commands.specs.OnDisk.{IsNotImported, IsNotShown, IsStartRefusal, IsStored, LeavesNoStore}
use Rattle.rnv_commands.specs.Show.{IsShowRefusal}
use Rattle.rnv_commands.specs.declared.error.CommandError.{CommandError}
use Rattle.rnv_commands.specs.declared.error.CommandError.TheVariants.{Memory, UnknownRepo, FolderFault, DiskFault, NotAJournal, Limit}

abbrev Answer : Type 0
Answer = Result (List ℕ) CommandError

pub if_done : {T E : Type 0} (result : Result T E) (P Q : T → Type 0) → ((value : T) → P value → Q value) → IfOk result P → IfOk result Q
if_done (Ok value) P Q f h = f value h
if_done (Err error) P Q f h = tt

module _ (tells : Type 0) (files : List NamedFile) (name : List ℕ) (limit : ℕ) (image : Image) where
  pub not_imported : (old : List Write) → IsStored limit image old → (error : CommandError) → IsImportRefusal tells files name limit old error → IsNotImported tells files name limit image error
  not_imported old stored Memory r = tt
  not_imported old stored UnknownRepo r = record { old = old; stored = stored; refused = r }
  not_imported old stored FolderFault r = record { old = old; stored = stored; refused = r }
  not_imported old stored DiskFault r = tt
  not_imported old stored (NotAJournal offset) r = absurd r
  not_imported old stored (Limit which number) r = record { old = old; stored = stored; refused = r }

  pub not_shown : (writes : List Write) → IsStored limit image writes → (error : CommandError) → IsShowRefusal (after writes []) name error → IsNotShown name limit image error
  not_shown writes stored Memory r = tt
  not_shown writes stored UnknownRepo r = record { writes = writes; stored = stored; unknown = r }
  not_shown writes stored FolderFault r = absurd r
  not_shown writes stored DiskFault r = absurd r
  not_shown writes stored (NotAJournal offset) r = absurd r
  not_shown writes stored (Limit which number) r = absurd r

  pub start_not_imported : (error : StartError) (answer : CommandError) → IsStartRefusal error answer → IsStoreRefusal limit image error → IsNotImported tells files name limit image answer
  start_not_imported start_fault answer is r = subst (IsNotImported tells files name limit image) (sym is) tt
  start_not_imported (start_damaged offset) answer is r = subst (IsNotImported tells files name limit image) (sym is) r
  start_not_imported start_memory answer is r = subst (IsNotImported tells files name limit image) (sym is) tt

  pub start_not_shown : (error : StartError) (answer : CommandError) → IsStartRefusal error answer → IsStoreRefusal limit image error → IsNotShown name limit image answer
  start_not_shown start_fault answer is r = subst (IsNotShown name limit image) (sym is) tt
  start_not_shown (start_damaged offset) answer is r = subst (IsNotShown name limit image) (sym is) r
  start_not_shown start_memory answer is r = subst (IsNotShown name limit image) (sym is) tt

pub start_folder : (error : StartError) (answer : CommandError) → IsStartRefusal error answer → ¬ (IsErrOf {T = List ℕ} (Err answer) FolderFault)
start_folder start_fault answer is folder = absurd (cc (is, folder))
start_folder (start_damaged offset) answer is folder = absurd (cc (is, folder))
start_folder start_memory answer is folder = absurd (cc (is, folder))

pub start_cause : (before now : ℕ) (error : StartError) (answer : CommandError) → IsStartRefusal error answer → RefusedBy before now error → FaultsBy {T = List ℕ} before now (Err answer) DiskFault
start_cause before now start_fault answer is by = record { later = by.later; failed = λ fault. by.failed refl }
start_cause before now (start_damaged offset) answer is by = record { later = by.later; failed = λ fault. absurd (cc (is, fault)) }
start_cause before now start_memory answer is by = record { later = by.later; failed = λ fault. absurd (cc (is, fault)) }

pub folder_still : (count : ℕ) (answer : CommandError) → ¬ (IsErrOf {T = List ℕ} (Err answer) FolderFault) → FaultsBy {T = List ℕ} count count (Err answer) FolderFault
folder_still count answer never = record { later = omega arith; failed = λ folder. absurd (never folder) }

-- what is left where the bytes are no store
module _ (limit : ℕ) (old new : Image) (before now : Past) where
  pub start_left : (error : StartError) (answer : CommandError) → IsStartRefusal error answer → LeavesRefused limit old new before now error → LeavesNoStore limit old new before now answer
  start_left start_fault answer is left = subst (LeavesNoStore limit old new before now) (sym is) tt
  start_left (start_damaged offset) answer is left = subst (LeavesNoStore limit old new before now) (sym is) left
  start_left start_memory answer is left = subst (LeavesNoStore limit old new before now) (sym is) tt

  pub import_left : (tells : Type 0) (files : List NamedFile) (name : List ℕ) (most : ℕ) (ws : List Write) (error : CommandError) → IsImportRefusal tells files name most ws error → LeavesNoStore limit old new before now error
  import_left tells files name most ws Memory r = tt
  import_left tells files name most ws UnknownRepo r = tt
  import_left tells files name most ws FolderFault r = tt
  import_left tells files name most ws DiskFault r = tt
  import_left tells files name most ws (NotAJournal offset) r = absurd r
  import_left tells files name most ws (Limit which number) r = tt

  pub show_left : (image : Image) (writes : List Write) → IsStored limit image writes → (name : List ℕ) (error : CommandError) → IsShowRefusal (after writes []) name error → LeavesNoStore limit old new before now error
  show_left image writes stored name Memory r = tt
  show_left image writes stored name UnknownRepo r = tt
  show_left image writes stored name FolderFault r = tt
  show_left image writes stored name DiskFault r = tt
  show_left image writes stored name (NotAJournal offset) r = absurd r
  show_left image writes stored name (Limit which number) r = tt
