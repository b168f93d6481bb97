-- The diffs make of each file of the base what the branch has at its path.
use Rattle.std.proofs.Common.{◌≡◌, ◌∙◌, ℕ, Bool, true, false, cond, List, [], ◌∷◌, ◌++◌, Option, Some, MatchBool, inl, inr, refl, sym, ap, subst}
use Rattle.std.specs.List.{AllByRecursion}
use Rattle.std.specs.List.Sorted.{IsStrictlySortedBy}
use Rattle.std.specs.Str.{bytes_eq}
use Rattle.std.specs.declared.cmp.Ordering.TheVariants.{Less}
use Rattle.std.proofs.lemmas.Bool.{cases_Bool}
use Rattle.std.proofs.lemmas.Slice.Eq.{bytes_eq-Decides}
use Rattle.rnv_base.specs.Files.{NamedFile}
use Rattle.rnv_repo.specs.Files.{MarkedFile}
use Rattle.rnv_repo.specs.Named.{IsRisingBy}
use Rattle.rnv_repo.proofs.Texts.{cmp, greater_other, less_back}
use Rattle.rnv_patch.specs.File.{FileDiff, IsPart}
use Rattle.rnv_patch.specs.Patch.{AreDiffs, DiffTakes, DiffsTake, IsPatch, TakesToBranch, branch_path, branch_text, text_at}

-- none of the files has this path
abbrev AreElsewhere : List ℕ → List NamedFile → Type 0
AreElsewhere path files = AllByRecursion (λ f. bytes_eq f.path path ≡ false) files

-- a diff for another path changes nothing here
other-diff : (d : FileDiff) (diffs : List FileDiff) (path : List ℕ) (old new : Option (List ℕ)) → bytes_eq d.path path ≡ false → DiffsTake diffs path old new → DiffsTake (d ∷ diffs) path old new
other-diff d diffs path old new other take = subst (λ (b : Bool). MatchBool b (DiffTakes d old new) (DiffsTake diffs path old new)) (sym other) take

this-diff : (d : FileDiff) (diffs : List FileDiff) (path : List ℕ) (old new : Option (List ℕ)) → bytes_eq d.path path ≡ true → DiffTakes d old new → DiffsTake (d ∷ diffs) path old new
this-diff d diffs path old new same take = subst (λ (b : Bool). MatchBool b (DiffTakes d old new) (DiffsTake diffs path old new)) (sym same) take

other-part : (f : NamedFile) (part rest : List FileDiff) (path : List ℕ) (base old new : Option (List ℕ)) → bytes_eq f.path path ≡ false → IsPart f.path base f.bytes part
    → DiffsTake rest path old new → DiffsTake (part ++ rest) path old new
other-part f [] rest path base old new other is take = take
other-part f (d ∷ []) rest path base old new other is take = other-diff d rest path old new (ap (λ p. bytes_eq p path) is.1.path_is ∙ other) take
other-part f (d ∷ e ∷ part) rest path base old new other is take = absurd is

-- where no file has the path, it stays
untouched : (base : List MarkedFile) (files : List NamedFile) (diffs : List FileDiff) (path : List ℕ) (old new : Option (List ℕ)) → AreDiffs base files diffs → AreElsewhere path files
    → new ≡ old → DiffsTake diffs path old new
untouched base [] diffs path old new are other same = subst (λ (ds : List FileDiff). DiffsTake ds path old new) (sym are) same
untouched base (f ∷ files) diffs path old new are other same =
    subst (λ (ds : List FileDiff). DiffsTake ds path old new) (sym are.diffs_are)
    (other-part f are.part are.rest path (text_at f.path base) old new other.0 are.is_part (untouched base files are.rest path old new are.rest_is other.1 same))

-- the part of the file that has the path
this-part : (f : NamedFile) (part rest : List FileDiff) (path : List ℕ) (old : Option (List ℕ)) → bytes_eq f.path path ≡ true → IsPart f.path old f.bytes part
    → ((same : Some f.bytes ≡ old) → DiffsTake rest path old (Some f.bytes)) → DiffsTake (part ++ rest) path old (Some f.bytes)
this-part f [] rest path old here is take = take (sym is)
this-part f (d ∷ []) rest path old here is take =
    this-diff d rest path old (Some f.bytes) (ap (λ p. bytes_eq p path) is.1.path_is ∙ here)
    (record { text = f.bytes; new_is = refl; is_new = is.1.is_new; take = is.1.hunks.take })
this-part f (d ∷ e ∷ part) rest path old here is take = absurd is

same-path : (p q : List ℕ) → bytes_eq p q ≡ true → p ≡ q
same-path p q e = (bytes_eq-Decides p q).0 e

above : (f : NamedFile) (path : List ℕ) (files : List NamedFile) → f.path ≡ path → AllByRecursion (λ g. cmp f.path g.path ≡ Less) files → AreElsewhere path files
above f path [] same all = tt
above f path (g ∷ files) same all =
    (ap (λ p. bytes_eq g.path p) (sym same) ∙ greater_other g.path f.path (less_back f.path g.path all.0), above f path files same all.1)

pub applied : (base : List MarkedFile) (files : List NamedFile) (diffs : List FileDiff) → AreDiffs base files diffs → IsRisingBy branch_path files
    → (path : List ℕ) → DiffsTake diffs path (text_at path base) (branch_text path base files)
unfolding IsStrictlySortedBy
applied base [] diffs are rising path = subst (λ (ds : List FileDiff). DiffsTake ds path (text_at path base) (text_at path base)) (sym are) refl
applied base (f ∷ files) diffs are rising path =
    let old = text_at path base in
    let more = branch_text path base files in
    subst (λ (ds : List FileDiff). DiffsTake ds path old (branch_text path base (f ∷ files))) (sym are.diffs_are)
    (elim (cases_Bool (bytes_eq f.path path)) [
      | inl here ↦
          let same = same-path f.path path here in
          let new : branch_text path base (f ∷ files) ≡ Some f.bytes = ap (λ b. cond b (Some f.bytes) more) here in
          subst (λ (t : Option (List ℕ)). DiffsTake (are.part ++ are.rest) path old t) (sym new)
          (this-part f are.part are.rest path old here (subst (λ (p : List ℕ). IsPart f.path (text_at p base) f.bytes are.part) same are.is_part)
          (λ e. untouched base files are.rest path old (Some f.bytes) are.rest_is (above f path files same rising.0) e))
      | inr other ↦
          let new : branch_text path base (f ∷ files) ≡ more = ap (λ b. cond b (Some f.bytes) more) other in
          subst (λ (t : Option (List ℕ)). DiffsTake (are.part ++ are.rest) path old t) (sym new)
          (other-part f are.part are.rest path (text_at f.path base) old more other are.is_part (applied base files are.rest are.rest_is rising.1 path))
    ])

pub taken : (base seen : List MarkedFile) (files listed : List NamedFile) (bytes held : List ℕ) → seen ≡ base → listed ≡ files → bytes ≡ held
    → IsRisingBy branch_path files → IsPatch seen listed held → TakesToBranch base files bytes
taken base seen files listed bytes held same_base same_files same_bytes rising patch =
    let are = subst (λ (b : List MarkedFile). AreDiffs b files patch.diffs) same_base (subst (λ (fs : List NamedFile). AreDiffs seen fs patch.diffs) same_files patch.are) in
    record { diffs = patch.diffs; text = same_bytes ∙ patch.text; take = applied base files patch.diffs are rising }
