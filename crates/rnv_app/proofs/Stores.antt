-- What each status tells of a command over the store.
use Rattle.std.proofs.Common.{◌≡◌, ◌≢◌, ◌⊎◌, inl, inr, ℕ, List, [], None, Some, Result, Ok, Err, IfErr, sym, subst, ◌∙◌, ap, refl, arith}
use Rattle.rnv_base.specs.Causes.{Rose}
use Rattle.rnv_base.specs.Limits.{store_bytes}
use Rattle.rnv_commands.specs.OnDisk.{IsDamaged, IsShownOf, IsStored, IsUnknownIn, LeavesNoStore as CommandLeaves}
use Rattle.rnv_commands.specs.declared.error.CommandError.{CommandError}
use Rattle.rnv_commands.specs.declared.error.CommandError.TheVariants as command
use Rattle.rnv_disk.specs.Images.{Image}
use Rattle.rnv_disk.specs.Stops.{Past}
use Rattle.rnv_repo.specs.Store.{after, known}
use Rattle.rnv_repo.specs.declared.repo.Repo.{Repo}
use Rattle.rnv_repo.specs.declared.write.Write.{Write}
use Rattle.rnv_plan.specs.declared.error.RunError.{RunError}
use Rattle.rnv_plan.specs.declared.error.RunError.TheVariants as run
use Rattle.rnv_run.specs.declared.on_disk.RunRefusal.{RunRefusal}
use Rattle.rnv_run.specs.declared.on_disk.RunRefusal.TheVariants as of_run
use Rattle.rnv_run.specs.OnDisk.{HasRepo, LeavesNoStore as RunLeaves, Runs}
use Rattle.rnv_run.proofs.Exact.{one_stored, stored_whole}
use Rattle.rnv_app.specs.declared.refusal.Refusal.{Refusal}
use Rattle.rnv_app.specs.declared.refusal.Refusal.TheVariants.{Memory, Usage, UnknownRepo, FolderFault, DiskFault, NotAJournal, Limit, IndexRefused, NotBuilt}
use Rattle.rnv_app.specs.Refusals.{code_of, refusal_of, IsTold}
use Rattle.rnv_app.specs.Top.{refusing, running, HasNoImport, Imports, IsDamagedOr, IsFreeImport, IsFreeShow, IsImportCauseOr, IsImportEnd, IsLeftAlone, IsRunEnd, IsShowEnd, IsShowing, IsUnknownOr, LeavesNoStore, Sight}
use Rattle.rnv_app.proofs.Imported.{import_fine, import_one, no_import}

-- ---- one image

-- a store lacks a repository or has it
unknown_known : (repo : List ℕ) (limit : ℕ) (image : Image) (ws : List Write) (r : Repo) → IsStored limit image ws → known repo (after ws []) ≡ Some r → ¬ (IsUnknownIn repo limit image)
unknown_known repo limit image ws r stored there lacks =
    let same : lacks.writes ≡ ws = one_stored limit image lacks.writes ws lacks.stored stored in
    let none : known repo (after ws []) ≡ None = subst (λ (vs : List Write). known repo (after vs []) ≡ None) same lacks.unknown in
    let both : None ≡ Some r = sym none ∙ there in
    absurd (cc both)

module _ (s : Sight) (repo : List ℕ) (out_tells : Type 0) (before after : List ℕ) (faults now code : ℕ) where
  abbrev Told : Result (List ℕ) Refusal → Type 0
  Told answer = IsTold out_tells before after faults now answer code

  -- a store is no damaged one
  whole : (old : List Write) (offset : ℕ) → IsDamaged store_bytes s.seen offset → IsStored store_bytes s.seen old → IsDamagedOr code
  whole old offset damaged stored = absurd (stored_whole store_bytes s.seen old offset stored damaged)

  -- ---- import

  module _ (end : IsImportEnd s repo out_tells before after faults now code) (d : s.disk_tells) where
    pub import_complete : s.folder_tells → (Folds Disks : Type 0) → IsFreeImport s.files repo s.seen → (code ≡ 5 → Folds) → (code ≡ 7 → Disks) → ¬ Folds → ¬ Disks → ¬ (Rose faults now) → (code ≡ 0) ⊎ (code ≡ 1)
    import_complete t Folds Disks free five seven folder disk still = by end.answer end.told end.imports
      where
        by : (answer : Result (List ℕ) CommandError) → Told (refusing answer) → Imports s repo answer → (code ≡ 0) ⊎ (code ≡ 1)
        by (Ok text) (inl w) is = inl w.status
        by (Ok text) (inr p) is = absurd (still p.rose)
        by (Err command.Memory) r is = inr r.status
        by (Err command.UnknownRepo) r is = absurd (free.free command.UnknownRepo (no_import s.files repo s.folder_tells s.seen command.UnknownRepo t tt (is.refused d)))
        by (Err command.FolderFault) r is = absurd (folder (five r.status))
        by (Err command.DiskFault) r is = absurd (disk (seven r.status))
        by (Err (command.NotAJournal offset)) r is = absurd (free.whole offset (is.refused d))
        by (Err (command.Limit which number)) r is = absurd (free.free (command.Limit which number) (no_import s.files repo s.folder_tells s.seen (command.Limit which number) t tt (is.refused d)))

    pub import_exactly : s.folder_tells → (error : CommandError) → HasNoImport s.files repo s.seen error → IsImportCauseOr error code
    import_exactly t error cause = by end.answer end.told end.imports
      where
        one : (e : CommandError) → HasNoImport s.files repo s.seen e → code ≡ code_of (refusal_of e) → IsImportCauseOr error code
        one e refused is = inl (is ∙ import_one s.files repo s.seen e error refused cause)

        by : (answer : Result (List ℕ) CommandError) → Told (refusing answer) → Imports s repo answer → IsImportCauseOr error code
        by (Ok text) told is = absurd (import_fine s.files repo s.folder_tells s.seen s.exit text error t (is.imported d) cause)
        by (Err command.Memory) r is = inr (inl r.status)
        by (Err command.UnknownRepo) r is = one command.UnknownRepo (no_import s.files repo s.folder_tells s.seen command.UnknownRepo t tt (is.refused d)) r.status
        by (Err command.FolderFault) r is = inr (inr (inr r.status))
        by (Err command.DiskFault) r is = inr (inr (inl r.status))
        by (Err (command.NotAJournal offset)) r is = absurd (stored_whole store_bytes s.seen cause.refused.old offset cause.refused.stored (is.refused d))
        by (Err (command.Limit which number)) r is = one (command.Limit which number) (no_import s.files repo s.folder_tells s.seen (command.Limit which number) t tt (is.refused d)) r.status

    pub import_damaged : (offset : ℕ) → IsDamaged store_bytes s.seen offset → IsDamagedOr code
    import_damaged offset damaged = by end.answer end.told end.imports
      where
        by : (answer : Result (List ℕ) CommandError) → Told (refusing answer) → Imports s repo answer → IsDamagedOr code
        by (Ok text) told is = let has = is.imported d in whole has.old offset damaged has.stored
        by (Err command.Memory) r is = inr (inl r.status)
        by (Err command.UnknownRepo) r is = let c = is.refused d in whole c.old offset damaged c.stored
        by (Err command.FolderFault) r is = let c = is.refused d in whole c.old offset damaged c.stored
        by (Err command.DiskFault) r is = inr (inr r.status)
        by (Err (command.NotAJournal at)) r is = inl r.status
        by (Err (command.Limit which number)) r is = let c = is.refused d in whole c.old offset damaged c.stored

  -- ---- show

  module _ (end : IsShowEnd s repo out_tells before after faults now code) (d : s.disk_tells) where
    pub show_complete : (Disks : Type 0) → IsFreeShow repo s.seen → (code ≡ 7 → Disks) → ¬ Disks → ¬ (Rose faults now) → (code ≡ 0) ⊎ (code ≡ 1)
    show_complete Disks free seven disk still = by end.answer end.told end.showing
      where
        by : (answer : Result (List ℕ) CommandError) → Told (refusing answer) → IsShowing s repo answer → (code ≡ 0) ⊎ (code ≡ 1)
        by (Ok text) (inl w) is = inl w.status
        by (Ok text) (inr p) is = absurd (still p.rose)
        by (Err command.Memory) r is = inr r.status
        by (Err command.UnknownRepo) r is = absurd (free.known (is.refused d))
        by (Err command.FolderFault) r is = absurd (is.refused d)
        by (Err command.DiskFault) r is = absurd (disk (seven r.status))
        by (Err (command.NotAJournal offset)) r is = absurd (free.whole offset (is.refused d))
        by (Err (command.Limit which number)) r is = absurd (is.refused d)

    pub show_exactly : IsUnknownIn repo store_bytes s.seen → IsUnknownOr code
    show_exactly lacks = by end.answer end.told end.showing
      where
        shown : (text : List ℕ) → ¬ (IsShownOf repo store_bytes s.seen text)
        shown text has = unknown_known repo store_bytes s.seen has.writes has.shows.repo has.stored has.shows.known lacks

        by : (answer : Result (List ℕ) CommandError) → Told (refusing answer) → IsShowing s repo answer → IsUnknownOr code
        by (Ok text) told is = absurd (shown text (is.shown d))
        by (Err command.Memory) r is = inr (inl r.status)
        by (Err command.UnknownRepo) r is = inl r.status
        by (Err command.FolderFault) r is = absurd (is.refused d)
        by (Err command.DiskFault) r is = inr (inr r.status)
        by (Err (command.NotAJournal offset)) r is = absurd (stored_whole store_bytes s.seen lacks.writes offset lacks.stored (is.refused d))
        by (Err (command.Limit which number)) r is = absurd (is.refused d)

    pub show_damaged : (offset : ℕ) → IsDamaged store_bytes s.seen offset → IsDamagedOr code
    show_damaged offset damaged = by end.answer end.told end.showing
      where
        by : (answer : Result (List ℕ) CommandError) → Told (refusing answer) → IsShowing s repo answer → IsDamagedOr code
        by (Ok text) told is = let has = is.shown d in whole has.writes offset damaged has.stored
        by (Err command.Memory) r is = inr (inl r.status)
        by (Err command.UnknownRepo) r is = let c = is.refused d in whole c.writes offset damaged c.stored
        by (Err command.FolderFault) r is = absurd (is.refused d)
        by (Err command.DiskFault) r is = inr (inr r.status)
        by (Err (command.NotAJournal at)) r is = inl r.status
        by (Err (command.Limit which number)) r is = absurd (is.refused d)

  -- ---- run

  module _ (moment : ℕ) (end : IsRunEnd s repo moment out_tells before after faults now code) (d : s.disk_tells) where
    abbrev Ran : Result (List ℕ) RunRefusal → Type 0
    Ran answer = Runs s.folder_tells s.files s.disk_tells s.seen s.entry s.exit repo moment answer

    pub run_unknown : IsUnknownIn repo store_bytes s.seen → IsUnknownOr code
    run_unknown lacks = by end.answer end.told end.runs
      where
        there : HasRepo repo store_bytes s.seen → IsUnknownOr code
        there has = absurd (unknown_known repo store_bytes s.seen has.old has.repo has.stored has.there lacks)

        by : (answer : Result (List ℕ) RunRefusal) → Told (running answer) → Ran answer → IsUnknownOr code
        by (Ok text) told is =
            let has = is.done d in
            absurd (unknown_known repo store_bytes s.seen has.old has.leaves.done.run.repo has.stored has.leaves.done.run.there lacks)
        by (Err (of_run.NotAJournal offset)) r is = absurd (stored_whole store_bytes s.seen lacks.writes offset lacks.stored (is.image_told d))
        by (Err (of_run.Ended run.Memory)) r is = inr (inl r.status)
        by (Err (of_run.Ended run.FolderFault)) r is = there (is.image_told d)
        by (Err (of_run.Ended run.DiskFault)) r is = inr (inr r.status)
        by (Err (of_run.Ended run.UnknownRepo)) r is = inl r.status
        by (Err (of_run.Ended (run.NotBuilt path))) r is = there (is.image_told d)
        by (Err (of_run.Ended (run.Limit which number))) r is = there (is.image_told d)
        by (Err (of_run.Ended (run.IndexRefused path line))) r is = there (is.image_told d)

    pub run_damaged : (offset : ℕ) → IsDamaged store_bytes s.seen offset → IsDamagedOr code
    run_damaged offset damaged = by end.answer end.told end.runs
      where
        there : HasRepo repo store_bytes s.seen → IsDamagedOr code
        there has = whole has.old offset damaged has.stored

        by : (answer : Result (List ℕ) RunRefusal) → Told (running answer) → Ran answer → IsDamagedOr code
        by (Ok text) told is = let has = is.done d in whole has.old offset damaged has.stored
        by (Err (of_run.NotAJournal at)) r is = inl r.status
        by (Err (of_run.Ended run.Memory)) r is = inr (inl r.status)
        by (Err (of_run.Ended run.FolderFault)) r is = there (is.image_told d)
        by (Err (of_run.Ended run.DiskFault)) r is = inr (inr r.status)
        by (Err (of_run.Ended run.UnknownRepo)) r is = let c = is.image_told d in whole c.writes offset damaged c.stored
        by (Err (of_run.Ended (run.NotBuilt path))) r is = there (is.image_told d)
        by (Err (of_run.Ended (run.Limit which number))) r is = there (is.image_told d)
        by (Err (of_run.Ended (run.IndexRefused path line))) r is = there (is.image_told d)

-- ---- what is left of a disk whose bytes are no store

module _ (old new : Image) (before now : Past) where
  command_left : (answer : Result (List ℕ) CommandError) → IfErr answer (CommandLeaves store_bytes old new before now) → IfErr (refusing answer) (LeavesNoStore store_bytes old new before now)
  command_left (Ok text) left = tt
  command_left (Err command.Memory) left = tt
  command_left (Err command.UnknownRepo) left = tt
  command_left (Err command.FolderFault) left = tt
  command_left (Err command.DiskFault) left = tt
  command_left (Err (command.NotAJournal offset)) left = left
  command_left (Err (command.Limit which number)) left = tt

  pub refusing_left : (answer : Result (List ℕ) CommandError) (text : Result (List ℕ) Refusal) → text ≡ refusing answer → IfErr answer (CommandLeaves store_bytes old new before now) → IfErr text (LeavesNoStore store_bytes old new before now)
  refusing_left answer text is left = subst (λ (a : Result (List ℕ) Refusal). IfErr a (LeavesNoStore store_bytes old new before now)) (sym is) (command_left answer left)

  run_left : (answer : Result (List ℕ) RunRefusal) → IfErr answer (RunLeaves store_bytes old new before now) → IfErr (running answer) (LeavesNoStore store_bytes old new before now)
  run_left (Ok text) left = tt
  run_left (Err (of_run.NotAJournal offset)) left = left
  run_left (Err (of_run.Ended run.Memory)) left = tt
  run_left (Err (of_run.Ended run.FolderFault)) left = tt
  run_left (Err (of_run.Ended run.DiskFault)) left = tt
  run_left (Err (of_run.Ended run.UnknownRepo)) left = tt
  run_left (Err (of_run.Ended (run.NotBuilt path))) left = tt
  run_left (Err (of_run.Ended (run.Limit which number))) left = tt
  run_left (Err (of_run.Ended (run.IndexRefused path line))) left = tt

  pub running_left : (answer : Result (List ℕ) RunRefusal) (text : Result (List ℕ) Refusal) → text ≡ running answer → IfErr answer (RunLeaves store_bytes old new before now) → IfErr text (LeavesNoStore store_bytes old new before now)
  running_left answer text is left = subst (λ (a : Result (List ℕ) Refusal). IfErr a (LeavesNoStore store_bytes old new before now)) (sym is) (run_left answer left)

  -- at 8
  pub left_at : (answer : Result (List ℕ) Refusal) (offset : ℕ) → answer ≡ Err (NotAJournal offset) → IfErr answer (LeavesNoStore store_bytes old new before now) → IsLeftAlone store_bytes old new before now
  left_at answer offset is left = (offset, subst (λ (a : Result (List ℕ) Refusal). IfErr a (LeavesNoStore store_bytes old new before now)) is left)
