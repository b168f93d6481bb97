-- The diffs of files, one after the other.
use Rattle.std.proofs.Common.{◌≡◌, ◌≢◌, ◌∙◌, ℕ, ◌+◌, ◌<◌, length, take, get_or, subst, List, [], ◌∷◌, ◌++◌, Option, Some, refl, sym, ap, append_assoc}
use Rattle.std.proofs.lemmas.List.{append-nil, take_more}
use Rattle.rnv_base.specs.Files.{NamedFile}
use Rattle.rnv_repo.specs.Files.{MarkedFile}
use Rattle.rnv_patch.specs.File.{AddDiff, AddPart, FileDiff, IsPart, diff_text, diffs_text}
use Rattle.rnv_patch.specs.Patch.{AreDiffs, IsPatch, text_at}

pub no_part : (path : List ℕ) (old : Option (List ℕ)) (new out : List ℕ) → old ≡ Some new → AddPart path old new out out
no_part path old new out same = record { part = []; is = same; text = sym (append-nil out) }

pub one_part : (path : List ℕ) (old : Option (List ℕ)) (new out later : List ℕ) → old ≢ Some new → AddDiff path old new out later → AddPart path old new out later
one_part path old new out later differ add = record {
  part = add.diff ∷ [];
  is = (differ, add.is);
  text = add.text ∙ ap (λ t. out ++ t) (sym (append-nil (diff_text add.diff)));
}

diffs-append : (xs ys : List FileDiff) → diffs_text (xs ++ ys) ≡ diffs_text xs ++ diffs_text ys
diffs-append [] ys = refl
diffs-append (x ∷ xs) ys = ap (λ t. diff_text x ++ t) (diffs-append xs ys) ∙ sym (append_assoc (diff_text x) (diffs_text xs) (diffs_text ys))

more-diffs : (base : List MarkedFile) (files : List NamedFile) (f : NamedFile) (diffs part : List FileDiff) → AreDiffs base files diffs
    → IsPart f.path (text_at f.path base) f.bytes part → AreDiffs base (files ++ f ∷ []) (diffs ++ part)
more-diffs base [] f diffs part are is = record {
  part = part;
  rest = [];
  diffs_are = ap (λ t. t ++ part) are ∙ sym (append-nil part);
  is_part = is;
  rest_is = refl;
}
more-diffs base (g ∷ files) f diffs part are is = record {
  part = are.part;
  rest = are.rest ++ part;
  diffs_are = ap (λ t. t ++ part) are.diffs_are ∙ append_assoc are.part are.rest part;
  is_part = are.is_part;
  rest_is = more-diffs base files f are.rest part are.rest_is is;
}

pub one_more : (base : List MarkedFile) (files : List NamedFile) (f : NamedFile) (out later : List ℕ) → IsPatch base files out
    → AddPart f.path (text_at f.path base) f.bytes out later → IsPatch base (files ++ f ∷ []) later
one_more base files f out later so_far add = record {
  diffs = so_far.diffs ++ add.part;
  are = more-diffs base files f so_far.diffs add.part so_far.are add.is;
  text = add.text ∙ ap (λ t. t ++ diffs_text add.part) so_far.text ∙ sym (diffs-append so_far.diffs add.part);
}

-- one turn over the files
pub next_file : (base : List MarkedFile) (files : List NamedFile) (i : ℕ) (f : NamedFile) (out later : List ℕ) → i < length files → f ≡ get_or files i f
    → IsPatch base (take i files) out → AddPart f.path (text_at f.path base) f.bytes out later → IsPatch base (take (i + 1) files) later
next_file base files i f out later within is so_far add =
    subst (λ (fs : List NamedFile). IsPatch base fs later) (ap (λ (g : NamedFile). take i files ++ g ∷ []) is ∙ sym (take_more files i f within))
    (one_more base (take i files) f out later so_far add)
