-- An import is done or refused, and refused by one cause.
use Rattle.std.proofs.Common.{◌≡◌, ◌≢◌, ◌≤◌, inl, inr, ◌⊎◌, ℕ, List, [], ◌∷◌, ◌++◌, length, refl, sym, ◌∙◌, ap, subst, arith}
use Rattle.rnv_base.specs.Files.{NamedFile}
use Rattle.rnv_base.specs.Limits.{store_bytes}
use Rattle.rnv_checkout.specs.Base.{folder_of, IsWithin}
use Rattle.rnv_checkout.specs.Refusal.{HasWrong}
use Rattle.rnv_checkout.specs.declared.error.BaseError.TheVariants.{Limit as base_limit}
use Rattle.rnv_commands.specs.Difference.{plain}
use Rattle.rnv_commands.specs.Import.{files_of, repo_after, HasNoFile, HasNoRoom, IsFolderBase, IsImport, IsImportRefusal, IsOneWrite}
use Rattle.rnv_commands.specs.OnDisk.{HasImported, IsRefusedIn}
use Rattle.rnv_commands.specs.declared.error.CommandError.{CommandError}
use Rattle.rnv_commands.specs.declared.error.CommandError.TheVariants as command
use Rattle.rnv_commands.proofs.Unique.{one_difference}
use Rattle.rnv_disk.specs.Images.{Image}
use Rattle.rnv_disk.specs.Stops.{Past}
use Rattle.rnv_repo.specs.Files.{PathChange}
use Rattle.rnv_repo.specs.declared.write.Write.{Write}
use Rattle.rnv_repo.specs.declared.write.Write.TheVariants.{SetBase}
use Rattle.rnv_plan.proofs.Bases.{kept-one, none-above, within-above}
use Rattle.rnv_run.proofs.Exact.{one_stored}
use Rattle.rnv_forge.specs.Writes.{length_of}
use Rattle.rnv_app.specs.Refusals.{code_of, refusal_of}
use Rattle.rnv_app.specs.Top.{HasNoImport, IsCaused}

module _ (files : List NamedFile) (name : List ℕ) where
  -- files that are within the limits of a base are some
  not_none : (kept : List NamedFile) → IsWithin kept → ¬ (kept ≡ [])
  not_none kept within none = absurd (omega (arith, within.some, ap length none))

  within_file : (tells : Type 0) (kept : List NamedFile) (passed : ℕ) → tells → IsFolderBase tells files name kept passed → ¬ (HasNoFile files name)
  within_file tells kept passed t base none = not_none kept base.within (kept-one files (folder_of name) kept [] passed none.passed (base.told t) none.base)

  within_wrong : (tells : Type 0) (kept : List NamedFile) (passed : ℕ) (which : List ℕ) (number : ℕ) → tells → IsFolderBase tells files name kept passed → ¬ (HasWrong files (folder_of name) (base_limit which number))
  within_wrong tells kept passed which number t base wrong =
      within-above wrong.kept which number (subst IsWithin (kept-one files (folder_of name) kept wrong.kept passed wrong.passed (base.told t) wrong.base) base.within) wrong.wrong

  -- no file, and a limit
  file_limit : (limit : ℕ) (old : List Write) (which : List ℕ) (number : ℕ) → HasNoFile files name → ¬ (HasWrong files (folder_of name) (base_limit which number) ⊎ HasNoRoom (Unit {0}) files name limit old which number)
  file_limit limit old which number none (inl wrong) =
      none-above wrong.kept which number (kept-one files (folder_of name) wrong.kept [] wrong.passed none.passed wrong.base none.base) wrong.wrong
  file_limit limit old which number none (inr room) = within_file (Unit {0}) room.kept room.passed tt room.base none

  module _ (old : List Write) where
    -- the one write of an import is one
    one_new : (kept : List NamedFile) (new also : List Write) → IsOneWrite name kept old new → IsOneWrite name kept old also → new ≡ also
    one_new kept new also a b =
        a.is ∙ (ap (λ (cs : List PathChange). old ++ SetBase name cs ∷ []) (one_difference (files_of (repo_after name old)) kept a.changes b.changes a.difference b.difference) ∙ sym b.is)

    -- an import that was done had room for it
    done_room : (tells : Type 0) (limit : ℕ) (new : List Write) (which : List ℕ) (number : ℕ) → tells → IsImport tells files name old new → length_of new ≤ limit → ¬ (HasNoRoom (Unit {0}) files name limit old which number)
    done_room tells limit new which number t import within room = by import.imported.one
      where
        same : import.kept ≡ room.kept
        same = kept-one files (folder_of name) import.kept room.kept import.passed room.passed (import.base.told t) (room.base.told tt)

        by : (new ≡ old) ⊎ IsOneWrite name import.kept old new → ⊥
        by (inl stays) =
            let base : plain (files_of (repo_after name old)) ≡ import.kept = subst (λ (ws : List Write). plain (files_of (repo_after name ws)) ≡ import.kept) stays import.imported.base in
            room.one.some (room.one.difference.none (base ∙ same))
        by (inr one) =
            let is : new ≡ room.new = one_new room.kept new room.new (subst (λ (kept : List NamedFile). IsOneWrite name kept old new) same one) room.one in
            let most : length_of room.new ≤ limit = subst (λ (ws : List Write). length_of ws ≤ limit) is within in
            absurd (omega (arith, most, room.above))

    -- so it had no cause of a refusal
    done_fine : (tells : Type 0) (limit : ℕ) (new : List Write) (error : CommandError) → tells → IsImport tells files name old new → length_of new ≤ limit → IsCaused error → ¬ (IsImportRefusal (Unit {0}) files name limit old error)
    done_fine tells limit new command.Memory t import within caused refused = caused
    done_fine tells limit new command.UnknownRepo t import within caused refused = within_file tells import.kept import.passed t import.base (refused tt)
    done_fine tells limit new command.FolderFault t import within caused refused = caused
    done_fine tells limit new command.DiskFault t import within caused refused = caused
    done_fine tells limit new (command.NotAJournal offset) t import within caused refused = caused
    done_fine tells limit new (command.Limit which number) t import within caused (inl wrong) = within_wrong tells import.kept import.passed which number t import.base (wrong tt)
    done_fine tells limit new (command.Limit which number) t import within caused (inr room) = done_room tells limit new which number t import within room

    -- two causes have one status
    limits : (limit : ℕ) (which : List ℕ) (number : ℕ) → IsImportRefusal (Unit {0}) files name limit old (command.Limit which number) → HasWrong files (folder_of name) (base_limit which number) ⊎ HasNoRoom (Unit {0}) files name limit old which number
    limits limit which number (inl wrong) = inl (wrong tt)
    limits limit which number (inr room) = inr room

    pub one_status : (limit : ℕ) (e f : CommandError) → IsCaused e → IsCaused f → IsImportRefusal (Unit {0}) files name limit old e → IsImportRefusal (Unit {0}) files name limit old f → code_of (refusal_of e) ≡ code_of (refusal_of f)
    one_status limit command.Memory f a b x y = absurd a
    one_status limit command.FolderFault f a b x y = absurd a
    one_status limit command.DiskFault f a b x y = absurd a
    one_status limit (command.NotAJournal offset) f a b x y = absurd a
    one_status limit command.UnknownRepo command.Memory a b x y = absurd b
    one_status limit command.UnknownRepo command.UnknownRepo a b x y = refl
    one_status limit command.UnknownRepo command.FolderFault a b x y = absurd b
    one_status limit command.UnknownRepo command.DiskFault a b x y = absurd b
    one_status limit command.UnknownRepo (command.NotAJournal offset) a b x y = absurd b
    one_status limit command.UnknownRepo (command.Limit which number) a b x y = absurd (file_limit limit old which number (x tt) (limits limit which number y))
    one_status limit (command.Limit which number) command.Memory a b x y = absurd b
    one_status limit (command.Limit which number) command.UnknownRepo a b x y = absurd (file_limit limit old which number (y tt) (limits limit which number x))
    one_status limit (command.Limit which number) command.FolderFault a b x y = absurd b
    one_status limit (command.Limit which number) command.DiskFault a b x y = absurd b
    one_status limit (command.Limit which number) (command.NotAJournal offset) a b x y = absurd b
    one_status limit (command.Limit which number) (command.Limit other count) a b x y = refl

  -- the same where the folder tells its files under another premise
  refusal_under : (tells : Type 0) (limit : ℕ) (old : List Write) (error : CommandError) → tells → IsCaused error → IsImportRefusal tells files name limit old error → IsImportRefusal (Unit {0}) files name limit old error
  refusal_under tells limit old command.Memory t caused refused = absurd caused
  refusal_under tells limit old command.UnknownRepo t caused refused = λ u. refused t
  refusal_under tells limit old command.FolderFault t caused refused = absurd caused
  refusal_under tells limit old command.DiskFault t caused refused = absurd caused
  refusal_under tells limit old (command.NotAJournal offset) t caused refused = absurd caused
  refusal_under tells limit old (command.Limit which number) t caused (inl wrong) = inl (λ u. wrong t)
  refusal_under tells limit old (command.Limit which number) t caused (inr room) = inr (record {
    kept = room.kept;
    passed = room.passed;
    base = record { within = room.base.within; told = λ u. room.base.told t };
    new = room.new;
    one = room.one;
    above = room.above;
    named = room.named;
    number_is = room.number_is;
  })

  pub no_import : (tells : Type 0) (image : Image) (error : CommandError) → tells → IsCaused error → IsRefusedIn tells files name store_bytes image error → HasNoImport files name image error
  no_import tells image error t caused refused =
      record { caused = caused; refused = record { old = refused.old; stored = refused.stored; refused = refusal_under tells store_bytes refused.old error t caused refused.refused } }

  -- an import that was done had no cause of a refusal in the image
  pub import_fine : (tells : Type 0) (image : Image) (past : Past) (text : List ℕ) (error : CommandError) → tells → HasImported tells files name store_bytes image past text → ¬ (HasNoImport files name image error)
  import_fine tells image past text error t has none =
      let same : none.refused.old ≡ has.old = one_stored store_bytes image none.refused.old has.old none.refused.stored has.stored in
      done_fine has.old tells store_bytes has.imported.new error t has.imported.prints.import has.imported.room none.caused
      (subst (λ (ws : List Write). IsImportRefusal (Unit {0}) files name store_bytes ws error) same none.refused.refused)

  -- two causes in one image have one status
  pub import_one : (image : Image) (e f : CommandError) → HasNoImport files name image e → HasNoImport files name image f → code_of (refusal_of e) ≡ code_of (refusal_of f)
  import_one image e f a b =
      let same : a.refused.old ≡ b.refused.old = one_stored store_bytes image a.refused.old b.refused.old a.refused.stored b.refused.stored in
      one_status b.refused.old store_bytes e f a.caused b.caused (subst (λ (ws : List Write). IsImportRefusal (Unit {0}) files name store_bytes ws e) same a.refused.refused) b.refused.refused
