-- What is said of stops, from the start of a forge to the end of a command.
use Rattle.std.proofs.Common.{◌≡◌, inl, inr, ⊎_elim, ℕ, List, [], ◌∷◌, ◌++◌, map, refl, sym, ap, subst, ◌∙◌}
use Rattle.std.specs.List.{AllByRecursion}
use Rattle.rnv_base.specs.Files.{NamedFile}
use Rattle.rnv_disk.specs.Images.{Image}
use Rattle.rnv_disk.specs.Stops.{Past}
use Rattle.rnv_repo.specs.Store.{ArePermitted}
use Rattle.rnv_repo.specs.WellFormed.{IsWellFormed}
use Rattle.rnv_repo.specs.declared.write.Write.{Write}
use Rattle.rnv_journal.specs.Reading.{EachReading, ReadsAs}
use Rattle.rnv_journal.specs.Readings.{HasReadingsNow, IsAtRest, IsReadingNow, KeepsOne, KeepsReadings, ReadsOnly}
use Rattle.rnv_journal.proofs.Uses.{each_weaker, reads_first, reads_then, reads_weaker}
use Rattle.rnv_spelling.specs.Spelling.{spelling}
use Rattle.rnv_forge.specs.Forge.{IsOldOrNext, LeavesWrites, SpellSome}
use Rattle.rnv_forge.proofs.Uses.{leaves_then, leaves_weaker, rest_leaves}
use Rattle.rnv_forge.proofs.Writes.{all_front, permitted_front}
use Rattle.rnv_commands.specs.Import.{IsOldOrImport}
use Rattle.rnv_commands.specs.OnDisk.{IsReadingOrImport, IsStored}

module _ (limit : ℕ) where
  -- what holds of the readings where images are told
  reads_told : (tells : Type 0) (old new : Past) (P Q : List (List ℕ) → Type 0) → ((t : ℕ) (c : Image) → new.left t c → tells) → (tells → (list : List (List ℕ)) → P list → Q list) → ReadsOnly limit old new P → ReadsOnly limit old new Q
  reads_told tells old new P Q told weaker run = record {
    later = run.later;
    each = λ c left. each_told (told old.moment c left) c (run.each c left);
    before = λ t c le left. ⊎_elim (λ was. inl was) (λ each. inr (each_told (told t c left) c each)) (run.before t c le left);
  }
    where
      each_told : tells → (c : Image) → EachReading limit P c → EachReading limit Q c
      each_told t c each = each_weaker limit P Q (weaker t) c each

  module _ (tells : Type 0) (entry mid new : Past) (old : List Write) (keeps : KeepsReadings limit entry mid) (reading : tells → IsReadingNow limit entry (map spelling old))
      (told : (t : ℕ) (c : Image) → new.left t c → tells) where
    -- nothing was written
    pub keeps_still : LeavesWrites limit mid new (λ ws. ws ≡ old) → KeepsReadings limit entry new
    keeps_still run has = reads_then limit entry mid new (IsReadingNow limit entry) (keeps has)
        (reads_told tells mid new (SpellSome (λ ws. ws ≡ old)) (IsReadingNow limit entry) told
        (λ t list some. subst (IsReadingNow limit entry) (ap (map spelling) (sym some.each) ∙ sym some.spelled.spells) (reading t)) run)

    -- an import
    module _ (now : Type 0) (files : List NamedFile) (name : List ℕ) where
      abbrev Q : List (List ℕ) → Type 0
      Q = IsReadingOrImport now files name limit entry

      as_reading : tells → (list : List (List ℕ)) → SpellSome (IsOldOrImport now files name old) list → Q list
      as_reading t list some = ⊎_elim
          (λ same. inl (subst (IsReadingNow limit entry) (ap (map spelling) (sym same) ∙ sym some.spelled.spells) (reading t)))
          (λ import. inr (record { old = old; new = some.writes; reading = reading t; import = import; is = some.spelled.spells }))
          some.each

      pub reads_or_import : LeavesWrites limit mid new (IsOldOrImport now files name old) → HasReadingsNow limit entry → ReadsOnly limit entry new (IsReadingOrImport now files name limit entry)
      reads_or_import run has = reads_then limit entry mid new Q (reads_weaker limit entry mid (IsReadingNow limit entry) Q (λ list is. inl is) (keeps has))
          (reads_told tells mid new (SpellSome (IsOldOrImport now files name old)) Q told as_reading run)

-- a disk that is left alone keeps its readings
pub keeps_same : (limit : ℕ) (past : Past) → KeepsReadings limit past past
keeps_same limit past has = reads_first limit past (IsReadingNow limit past) (λ c left. record { some = has c left; each = λ list reading. record { image = c; left = left; reading = reading } })

-- what keeps the readings is an import without a write
pub or_import : (limit : ℕ) (entry new : Past) (now : Type 0) (files : List NamedFile) (name : List ℕ) → KeepsReadings limit entry new → HasReadingsNow limit entry → ReadsOnly limit entry new (IsReadingOrImport now files name limit entry)
or_import limit entry new now files name keeps has = reads_weaker limit entry new (IsReadingNow limit entry) (IsReadingOrImport now files name limit entry) (λ list is. inl is) (keeps has)

-- before the first write
pub still : (limit : ℕ) (past : Past) (ws prepared : List Write) → AllByRecursion IsWellFormed (ws ++ prepared) → IsAtRest limit past (map spelling ws) → LeavesWrites limit past past (λ vs. vs ≡ ws)
still limit past ws prepared fits rest = rest_leaves limit past ws (λ vs. vs ≡ ws) (all_front IsWellFormed ws prepared fits) rest refl

pub still_import : (limit : ℕ) (past : Past) (ws prepared : List Write) (tells : Type 0) (files : List NamedFile) (name : List ℕ) → AllByRecursion IsWellFormed (ws ++ prepared) → IsAtRest limit past (map spelling ws)
    → LeavesWrites limit past past (IsOldOrImport tells files name ws)
still_import limit past ws prepared tells files name fits rest = rest_leaves limit past ws (IsOldOrImport tells files name ws) (all_front IsWellFormed ws prepared fits) rest (inl refl)

-- the same of the disk that is handed back, within the limit of a journal
pub leaves_at : {D : Type 0} (past : D → Past) (n limit : ℕ) (old : Past) (P : List Write → Type 0) (back disk : D) → n ≡ limit → back ≡ disk → LeavesWrites n old (past disk) P → LeavesWrites limit old (past back) P
leaves_at past n limit old P back disk same is run = subst (λ d. LeavesWrites limit old (past d) P) (sym is) (subst (λ (m : ℕ). LeavesWrites m old (past disk) P) same run)

pub rest_at : {D : Type 0} (past : D → Past) (n limit : ℕ) (list : List (List ℕ)) (back disk : D) → n ≡ limit → back ≡ disk → IsAtRest n (past disk) list → IsAtRest limit (past back) list
rest_at past n limit list back disk same is rest = subst (λ d. IsAtRest limit (past d) list) (sym is) (subst (λ (m : ℕ). IsAtRest m (past disk) list) same rest)

pub keeps_at : {D : Type 0} (past : D → Past) (limit : ℕ) (old : Past) (back disk : D) → back ≡ disk → KeepsReadings limit old (past disk) → KeepsReadings limit old (past back)
keeps_at past limit old back disk is keeps = subst (λ d. KeepsReadings limit old (past d)) (sym is) keeps

pub one_at : {D : Type 0} (past : D → Past) (old : Past) (back disk : D) → back ≡ disk → KeepsOne old (past disk) → KeepsOne old (past back)
one_at past old back disk is keeps = subst (λ d. KeepsOne old (past d)) (sym is) keeps

-- what an image is read as
pub stored_of : (limit : ℕ) (image : Image) (ws prepared : List Write) → ReadsAs limit image (map spelling ws) → AllByRecursion IsWellFormed (ws ++ prepared) → ArePermitted (ws ++ prepared) [] → IsStored limit image ws
stored_of limit image ws prepared read fits permitted = record { read = read; well_formed = all_front IsWellFormed ws prepared fits; permitted = permitted_front ws prepared [] permitted }

-- a write behind its preparing
pub write_leaves : (limit limit' : ℕ) (old mid new : Past) (ws ws' prepared : List Write) (w : Write) → limit' ≡ limit → ws' ≡ ws → prepared ≡ w ∷ [] → LeavesWrites limit old mid (λ vs. vs ≡ ws)
    → LeavesWrites limit' mid new (IsOldOrNext ws' prepared) → LeavesWrites limit old new (IsOldOrNext ws (w ∷ []))
write_leaves limit limit' old mid new ws ws' prepared w same-limit same next one two =
    let here : LeavesWrites limit mid new (IsOldOrNext ws' prepared) = subst (λ (n : ℕ). LeavesWrites n mid new (IsOldOrNext ws' prepared)) same-limit two in
    let named : LeavesWrites limit mid new (IsOldOrNext ws prepared) = subst (λ (l : List Write). LeavesWrites limit mid new (IsOldOrNext l prepared)) same here in
    leaves_then limit old mid new (IsOldOrNext ws (w ∷ [])) (old_leaves limit old mid ws (w ∷ []) one) (subst (λ (l : List Write). LeavesWrites limit mid new (IsOldOrNext ws l)) next named)
  where
    old_leaves : (limit : ℕ) (old mid : Past) (ws vs : List Write) → LeavesWrites limit old mid (λ us. us ≡ ws) → LeavesWrites limit old mid (IsOldOrNext ws vs)
    old_leaves limit old mid ws vs run = leaves_weaker limit old mid (λ us. us ≡ ws) (IsOldOrNext ws vs) (λ us is. inl is) run
