-- What one write of a base makes of a store.
use Rattle.std.proofs.Common.{◌≡◌, ◌≢◌, ◌≤◌, ◌<◌, ◌+◌, inl, inr, ℕ, suc, true, false, not, ◌||◌, List, [], ◌∷◌, ◌++◌, length, Option, Some, None, refl, sym, ap, subst, ◌∙◌, arith}
use Rattle.std.specs.Prelude.{IfSome, nat_lt, sum_by}
use Rattle.std.specs.List.{AllByRecursion}
use Rattle.std.specs.Str.{bytes_eq}
use Rattle.std.specs.List.Sorted.{IsStrictlySortedBy}
use Rattle.std.proofs.lemmas.Bool.{le-ltb}
use Rattle.std.proofs.lemmas.List.Sums.{sum_by-cons}
use Rattle.std.proofs.lemmas.List.Elements.{All-nil, All-from_recursion, recursion_from_All}
use Rattle.rnv_base.specs.Files.{NamedFile}
use Rattle.rnv_base.specs.Limits.{base_bytes, base_files}
use Rattle.rnv_base.specs.Names.{IsPath}
use Rattle.rnv_checkout.specs.Base.{IsWithin, size_of}
use Rattle.rnv_repo.specs.Base.{changed, is_changing, is_over, path_of}
use Rattle.rnv_repo.specs.Files.{MarkedFile, PathChange}
use Rattle.rnv_repo.specs.Bounded.{IsBounded}
use Rattle.rnv_repo.specs.Store.{IsPermitted, IsSound, IsSoundStore, after, applied, applied_to, known, refusal, refusal_to, refused_if}
use Rattle.rnv_repo.specs.WellFormed.{AreInOrder}
use Rattle.rnv_repo.specs.declared.refusal.Refusal.{Refusal}
use Rattle.rnv_repo.specs.declared.refusal.Refusal.TheVariants.{BaseFull, NoChange}
use Rattle.rnv_repo.specs.declared.repo.Repo.{Repo}
use Rattle.rnv_repo.specs.declared.write.Write.{Write}
use Rattle.rnv_repo.specs.declared.write.Write.TheVariants.{SetBase}
use Rattle.rnv_repo.proofs.Texts.{bytes_true}
use Rattle.rnv_forge.specs.Forge.{IsOldOrNext}
use Rattle.rnv_forge.specs.Refused.{IsFirstRefused}
use Rattle.rnv_forge.specs.Writes.{length_of}
use Rattle.rnv_forge.proofs.ByName.{applied_name, known_all}
use Rattle.rnv_forge.proofs.Writes.{after_both}
use Rattle.rnv_commands.specs.Difference.{IsDifference, named_path, plain}
use Rattle.rnv_commands.specs.Import.{files_of, import_text, repo_after, revision_of, revision_with, IsImport, IsImported, IsImportRefusal, IsOldOrImport, IsOneWrite, IsPrepared, IsReadRefusal, IsReady, IsWriteRefusal, PrintsImport}
use Rattle.rnv_commands.specs.declared.error.CommandError.{CommandError}
use Rattle.rnv_commands.specs.declared.error.CommandError.TheVariants.{Memory, UnknownRepo, FolderFault, DiskFault, NotAJournal, Limit}
use Rattle.rnv_commands.proofs.Puts.{at_put, at_other}

abbrev name_of : Repo → List ℕ
name_of r = r.name

-- the repository that a base makes

module _ (name : List ℕ) (changes : List PathChange) (old : List Write) where
  abbrev write : Write
  write = SetBase name changes

  abbrev pub with_write : List Write
  with_write = old ++ SetBase name changes ∷ []

  abbrev made : Repo
  made = applied_to write (repo_after name old)

  made_at : repo_after name with_write ≡ Some made
  made_at =
      let named : made.name ≡ name = applied_name write (after old []) in
      let there : known made.name (applied write (after old [])) ≡ Some made = at_put name_of made (after old []) in
      ap (known name) (after_both old (write ∷ []) []) ∙ subst (λ (n : List ℕ). known n (applied write (after old [])) ≡ Some made) named there

  made_files : (o : Option Repo) → files_of (Some (applied_to write o)) ≡ changed (revision_of o + 1) changes (files_of o)
  made_files None = refl
  made_files (Some repo) = refl

  made_revision : (o : Option Repo) → revision_of (Some (applied_to write o)) ≡ revision_of o + 1
  made_revision None = refl
  made_revision (Some repo) = refl

  pub revision_made : revision_of (repo_after name with_write) ≡ revision_of (repo_after name old) + 1
  revision_made = ap revision_of made_at ∙ made_revision (repo_after name old)

  files_made : files_of (repo_after name with_write) ≡ changed (revision_of (repo_after name old) + 1) changes (files_of (repo_after name old))
  files_made = ap files_of made_at ∙ made_files (repo_after name old)

  other_name : (other : List ℕ) → other ≢ name → bytes_eq made.name other ≡ false
  other_name other ne =
      elim (bytes_eq made.name other) as (λ t. bytes_eq made.name other ≡ t → t ≡ false) [
        | true ↦ λ is. absurd (ne (sym (bytes_true made.name other is) ∙ applied_name write (after old [])))
        | false ↦ λ is. refl
      ] refl

  others_stay : (other : List ℕ) → other ≢ name → repo_after other with_write ≡ repo_after other old
  others_stay other ne = ap (known other) (after_both old (write ∷ []) []) ∙ at_other name_of made other (after old []) (other_name other ne)

  pub one_write : (kept : List NamedFile) → IsDifference (files_of (repo_after name old)) kept changes → changes ≢ [] → IsOneWrite name kept old with_write
  one_write kept d ne = record { changes = changes; difference = d; some = ne; is = refl }

  pub imported : (kept : List NamedFile) → IsDifference (files_of (repo_after name old)) kept changes → changes ≢ [] → IsImported name kept old with_write
  imported kept d ne = record {
    base = ap plain files_made ∙ d.makes (revision_of (repo_after name old) + 1);
    one = inr (one_write kept d ne);
    none = λ same. absurd (ne (d.none same));
    others = others_stay;
  }

pub unchanged : (name : List ℕ) (kept : List NamedFile) (changes : List PathChange) (old : List Write) → IsDifference (files_of (repo_after name old)) kept changes → changes ≡ [] → IsImported name kept old old
unchanged name kept changes old d none = record {
  base =
      let made : plain (changed 0 [] (files_of (repo_after name old))) ≡ kept = subst (λ (cs : List PathChange). plain (changed 0 cs (files_of (repo_after name old))) ≡ kept) none (d.makes 0) in
      made;
  one = inl refl;
  none = λ same. refl;
  others = λ other ne. refl;
}

-- the write is permitted

plain_length : (files : List MarkedFile) → length (plain files) ≡ length files
plain_length [] = refl
plain_length (f ∷ fs) = ap suc (plain_length fs)

plain_size : (files : List MarkedFile) → size_of (plain files) ≡ sum_by (λ f. length f.bytes) files
plain_size [] = refl
plain_size (f ∷ fs) =
    sum_by-cons (λ (g : NamedFile). length g.bytes) (record { path = f.path; bytes = f.bytes }) (plain fs) ∙ ap (λ n. length f.bytes + n) (plain_size fs)
    ∙ sym (sum_by-cons (λ (g : MarkedFile). length g.bytes) f fs)

or_false : (a b : ℕ) (c d : ℕ) → b ≤ a → d ≤ c → (nat_lt a b || nat_lt c d) ≡ false
or_false a b c d ab cd = ap (λ t. t || nat_lt c d) (le-ltb a b ab) ∙ le-ltb c d cd

not_over : (files : List MarkedFile) (kept : List NamedFile) → plain files ≡ kept → IsWithin kept → is_over files ≡ false
not_over files kept same within =
    let few : length files ≤ base_files = omega (arith, within.few, ap length same, plain_length files) in
    let small : sum_by (λ f. length f.bytes) files ≤ base_bytes = omega (arith, within.small, ap size_of same, plain_size files) in
    or_false base_files (length files) base_bytes (sum_by (λ (f : MarkedFile). length f.bytes) files) few small

pub permitted_to : (name : List ℕ) (changes : List PathChange) (o : Option Repo) (kept : List NamedFile) → IsDifference (files_of o) kept changes → changes ≢ [] → IsWithin kept → refusal_to (SetBase name changes) o ≡ None
permitted_to name changes None kept d ne within = ap (λ t. refused_if t BaseFull None) (not_over (changed 1 changes []) kept (d.makes 1) within)
permitted_to name changes (Some repo) kept d ne within =
    ap (λ t. refused_if t BaseFull (refused_if (not (is_changing changes repo.files)) NoChange None)) (not_over (changed (repo.revision + 1) changes repo.files) kept (d.makes (repo.revision + 1)) within)
    ∙ ap (λ t. refused_if (not t) NoChange None) (d.changing ne)

-- so it is not refused as the first of one

some_none : {X : Type 0} (x : X) → ¬ (None ≡ Some x)
some_none x e = absurd cc

pub not_refused : (w : Write) (store : List Repo) (index : ℕ) (cause : Refusal) → IsPermitted w store → ¬ (IsFirstRefused (w ∷ []) store index cause)
not_refused w store index cause permitted r = refused_at r.front r.write r.rest r.is r.refused
  where
    refused_at : (front : List Write) (v : Write) (rest : List Write) → w ∷ [] ≡ front ++ v ∷ rest → ¬ (refusal v (after front store) ≡ Some cause)
    refused_at [] v rest is e =
        let same : w ≡ v = cc in
        some_none cause (sym (subst (λ (u : Write). refusal u store ≡ None) same permitted) ∙ e)
    refused_at (u ∷ []) v rest is e = absurd cc
    refused_at (u ∷ x ∷ us) v rest is e = absurd cc

-- the journal is no shorter with more writes
pub front_length : (ws more : List Write) → length_of ws ≤ length_of (ws ++ more)
front_length [] [] = omega arith
front_length [] (m ∷ more) = omega (arith, front_length [] more)
front_length (w ∷ ws) more = omega (arith, front_length ws more)

-- the revision is below its bound

bounded_of : (o : Option Repo) → IfSome o IsBounded → revision_of o < 4294967295
bounded_of None h = omega arith
bounded_of (Some repo) h = h.revision

pub revision_small : (name : List ℕ) (ws : List Write) → AllByRecursion IsBounded (after ws []) → revision_of (repo_after name ws) < 4294967295
revision_small name ws bounded = bounded_of (repo_after name ws) (known_all IsBounded name (after ws []) bounded)

-- the files of a repository are in their order

order_of : (o : Option Repo) → IfSome o IsSound → AreInOrder path_of (files_of o)
unfolding IsStrictlySortedBy
order_of None s = record { each = All-nil (λ (f : MarkedFile). IsPath f.path); rising = tt }
order_of (Some repo) s = s.files

pub files_in_order : (name : List ℕ) (ws : List Write) → IsSoundStore (after ws []) → AreInOrder path_of (files_of (repo_after name ws))
files_in_order name ws sound = order_of (repo_after name ws) (known_all IsSound name (after ws []) sound.each)

-- whether there are changes

pub none_of : {X : Type 0} (xs : List X) → length xs ≡ 0 → xs ≡ []
none_of [] is = refl
none_of (x ∷ xs) is = absurd cc

pub some_of : {X : Type 0} (xs : List X) → ¬ (length xs ≡ 0) → xs ≢ []
some_of xs ne is = ne (ap length is)

-- what is found out before the write

pub prepared_of : (repo : Option Repo) (kept : List NamedFile) (passed : ℕ) (changes : List PathChange) (text : List ℕ) (revision : ℕ) → AreInOrder path_of (files_of repo) → AreInOrder named_path kept
    → IsDifference (files_of repo) kept changes → (changes ≡ [] → revision ≡ revision_of repo) → (changes ≢ [] → revision ≡ revision_of repo + 1) → text ≡ import_text (length kept) revision passed
    → IsPrepared kept passed repo changes text
prepared_of repo kept passed changes text revision old new d none some is = record {
  order = record {
    each = All-from_recursion (λ (c : PathChange). IsPath c.path) changes
        (d.paths (recursion_from_All (λ (f : MarkedFile). IsPath f.path) (files_of repo) old.each) (recursion_from_All (λ (f : NamedFile). IsPath f.path) kept new.each));
    rising = d.rising;
  };
  difference = d;
  is = is ∙ ap (λ r. import_text (length kept) r passed) (revision_is changes none some);
}
  where
    revision_is : (cs : List PathChange) → (cs ≡ [] → revision ≡ revision_of repo) → (cs ≢ [] → revision ≡ revision_of repo + 1) → revision ≡ revision_with cs repo
    revision_is [] none some = none refl
    revision_is (c ∷ cs) none some = some (λ e. absurd cc)

no_changes : (cs : List PathChange) (o : Option Repo) → cs ≡ [] → revision_with cs o ≡ revision_of o
no_changes [] o none = refl
no_changes (c ∷ cs) o none = absurd cc

some_changes : (cs : List PathChange) (o : Option Repo) → cs ≢ [] → revision_with cs o ≡ revision_of o + 1
some_changes [] o ne = absurd (ne refl)
some_changes (c ∷ cs) o ne = refl

module _ (tells : Type 0) (files : List NamedFile) (name : List ℕ) (old : List Write) (changes : List PathChange) (text : List ℕ) (ready : IsReady tells files name old changes text) where
  pub ready_permitted : changes ≢ [] → IsPermitted (SetBase name changes) (after old [])
  ready_permitted ne = permitted_to name changes (repo_after name old) ready.kept ready.prepared.difference ne ready.base.within

  pub prints_same : changes ≡ [] → PrintsImport tells files name old old text
  prints_same none = record {
    import = record { kept = ready.kept; passed = ready.passed; base = ready.base; imported = unchanged name ready.kept changes old ready.prepared.difference none };
    is = ready.prepared.is ∙ ap (λ r. import_text (length ready.kept) r ready.passed) (no_changes changes (repo_after name old) none);
  }

  pub import_made : changes ≢ [] → IsImport tells files name old (with_write name changes old)
  import_made ne = record { kept = ready.kept; passed = ready.passed; base = ready.base; imported = imported name changes old ready.kept ready.prepared.difference ne }

  pub prints_new : (new : List Write) → new ≡ with_write name changes old → changes ≢ [] → PrintsImport tells files name old new text
  unfolding import_made
  prints_new new is ne = subst (λ (ws : List Write). PrintsImport tells files name old ws text) (sym is) (record {
    import = import_made ne;
    is = ready.prepared.is ∙ ap (λ r. import_text (length ready.kept) r ready.passed) (some_changes changes (repo_after name old) ne ∙ sym (revision_made name changes old));
  })

  pub old_or_import : changes ≢ [] → (ws : List Write) → IsOldOrNext old (SetBase name changes ∷ []) ws → IsOldOrImport tells files name old ws
  old_or_import ne ws (inl same) = inl same
  old_or_import ne ws (inr is) = inr (subst (IsImport tells files name old) (sym is) (import_made ne))

  pub write_refused : (limit : ℕ) (error : CommandError) → changes ≢ [] → IsWriteRefusal limit (with_write name changes old) error → IsImportRefusal tells files name limit old error
  write_refused limit Memory ne r = tt
  write_refused limit UnknownRepo ne r = absurd r
  write_refused limit FolderFault ne r = absurd r
  write_refused limit DiskFault ne r = tt
  write_refused limit (NotAJournal offset) ne r = absurd r
  write_refused limit (Limit which number) ne r = inr (record {
    kept = ready.kept;
    passed = ready.passed;
    base = ready.base;
    new = with_write name changes old;
    one = one_write name changes old ready.kept ready.prepared.difference ne;
    above = r.0;
    named = r.1;
    number_is = r.2;
  })

pub read_refused : (tells : Type 0) (files : List NamedFile) (name : List ℕ) (limit : ℕ) (old : List Write) (error : CommandError) → IsReadRefusal tells files name error → IsImportRefusal tells files name limit old error
read_refused tells files name limit old Memory r = tt
read_refused tells files name limit old UnknownRepo r = r
read_refused tells files name limit old FolderFault r = tt
read_refused tells files name limit old DiskFault r = absurd r
read_refused tells files name limit old (NotAJournal offset) r = absurd r
read_refused tells files name limit old (Limit which number) r = inl r
