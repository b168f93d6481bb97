-- The edit law, by the finds that are read back.
use Rattle.std.proofs.Common.{◌≡◌, ℕ, suc, ◌+◌, ◌≤◌, List, [], ◌∷◌, length, Result, Ok, Err, IfErr, refl, sym, ap, subst, ◌∙◌, inl, inr, arith}
use Rattle.std.specs.Prelude.{slice_get}
use Rattle.std.proofs.lemmas.List.{length-map}
use Rattle.rnv_manager.specs.declared.edits.Edit.{Edit}
use Rattle.rnv_manager.specs.declared.edits.EditError.{EditError}
use Rattle.rnv_manager.specs.declared.edits.EditError.TheVariants.{NotReadBack, Memory}
use Rattle.rnv_manager.specs.declared.found.Found.{Found}
use Rattle.rnv_manager.specs.Finds.{Find, view, views}
use Rattle.rnv_manager.specs.Marks as m
use Rattle.rnv_manager.specs.Marks.{Mark}
use Rattle.rnv_manager.specs.Edits.{value_after, edited, skeleton, edited_file, expected_finds, IsReadBack, AreActual, IsFirstDifference, HasDifference, IsNotReadBack, IfNotReadBack}
use Rattle.rnv_manager.specs.Splice.{spliced}
use Rattle.rnv_manager.specs.Steps.{spans_of, values_of}
use Rattle.rnv_manager.proofs.Edited.{no-finds}
use Rattle.rnv_manager.proofs.Replacing.{spliced-is}
use Rattle.rnv_manager.proofs.Unique.{one-reading}

pub skeleton-edited : (es : List Edit) (k : ℕ) (ms : List Mark) → skeleton (edited es k ms) ≡ skeleton ms
skeleton-edited es k [] = refl
skeleton-edited es k (m.byte x ∷ ms) = ap (λ (r : List Mark). m.byte x ∷ r) (skeleton-edited es k ms)
skeleton-edited es k (m.find slot s ∷ ms) = ap (λ (r : List Mark). m.find slot [] ∷ r) (skeleton-edited es (suc k) ms)

pub same_number : (es : List Edit) (k at to : ℕ) (ms : List Mark) → length (m.finds_from to (edited es k ms)) ≡ length (m.finds_from at ms)
same_number es k at to [] = refl
same_number es k at to (m.byte x ∷ ms) = same_number es k (suc at) (suc to) ms
same_number es k at to (m.find slot s ∷ ms) = ap (λ (n : ℕ). suc n) (same_number es (suc k) (at + length s) (to + length (value_after es k s)) ms)

-- what is put together is the edited file
pub edited-bytes-are : (file : List ℕ) (fs expected : List Find) (es : List Edit) (ms : List Mark) → file ≡ m.text_of ms → fs ≡ m.finds_from 0 ms → expected ≡ expected_finds es ms → spliced file 0 (spans_of fs) (values_of expected) ≡ edited_file es ms
edited-bytes-are file fs expected es ms text found wanted =
    ap (λ (l : List Find). spliced file 0 (spans_of l) (values_of expected)) found
    ∙ (ap (λ (l : List Find). spliced file 0 (spans_of (m.finds_from 0 ms)) (values_of l)) wanted ∙ spliced-is file 0 0 0 [] es 0 ms refl text)

-- read with the expected finds, the edited file has the pieces with the new values
pub is-read-back : (Reads : List ℕ → List Mark → Type 0) (es : List Edit) (ms ns : List Mark) (text : List ℕ) → text ≡ edited_file es ms → text ≡ m.text_of ns → Reads text ns → expected_finds es ms ≡ m.finds_from 0 ns → IsReadBack Reads es ms
is-read-back Reads es ms ns text is whole read finds =
    let same : edited es 0 ms ≡ ns = one-reading 0 (edited es 0 ms) ns (sym is ∙ whole) finds in
    record {
      pieces = ns;
      read = subst (λ (t : List ℕ). Reads t ns) is read;
      same_skeleton = ap skeleton (sym same) ∙ skeleton-edited es 0 ms;
      expected = sym finds;
    }

-- no reading has the expected finds, so the law fails
pub is-not-read-back : (Reads : List ℕ → List Mark → Type 0) (es : List Edit) (ms : List Mark) (text : List ℕ) (expected : List Find) (start : ℕ) (wanted found : List ℕ) → text ≡ edited_file es ms → expected ≡ expected_finds es ms
    → HasDifference (Reads text) expected (length text) start wanted found → ((ns : List Mark) → Reads text ns → ¬ (expected ≡ m.finds_from 0 ns)) → IsNotReadBack Reads es ms start wanted found
is-not-read-back Reads es ms text expected start wanted found is are difference none = record {
  fails = λ law. none law.pieces (subst (λ (t : List ℕ). Reads t law.pieces) (sym is) law.read) (are ∙ sym law.expected);
  difference =
      subst (λ (t : List ℕ). HasDifference (Reads t) (expected_finds es ms) (length t) start wanted found) is
      (subst (λ (fs : List Find). HasDifference (Reads text) fs (length text) start wanted found) are difference);
}

-- where the two lists differ they are not one
pub not_same : (expected actual : List Find) (index : ℕ) → IsFirstDifference expected actual index → expected ≡ actual → ⊥
not_same expected actual index d e = d.differs (ap (λ (l : List Find). slice_get l index) e)

-- there is a reading where there are no finds, or the finds are those of one
pub reading-of : (Reads : List Mark → Type 0) (expected actual : List Find) → (expected ≡ [] → (ms : List Mark) × Reads ms) → ((ms : List Mark) → Reads ms → actual ≡ m.finds_from 0 ms) → AreActual Reads actual → expected ≡ actual → (ms : List Mark) × Reads ms × (expected ≡ m.finds_from 0 ms)
reading-of Reads expected actual some only (inl h) e = (h.0, h.1, e ∙ h.2)
reading-of Reads expected actual some only (inr h) e =
    let r = some (e ∙ h.1) in
    (r.0, r.1, e ∙ only r.0 r.1)

-- ---- the same, by what the calls of `edit` gave

-- what was computed with equal edits, as an equal list
pub wanted-are : (es es2 : List Edit) (ms : List Mark) (expected expected2 : List Find) (len : ℕ) → es2 ≡ es → expected2 ≡ expected → (expected ≡ expected_finds es2 ms) × (len ≡ length (edited_file es2 ms)) → (expected2 ≡ expected_finds es ms) × (len ≡ length (edited_file es ms))
wanted-are es es2 ms expected expected2 len same are h = (are ∙ (h.0 ∙ ap (λ (d : List Edit). expected_finds d ms) same), h.1 ∙ ap (λ (d : List Edit). length (edited_file d ms)) same)

pub as-many : (found wanted : List Found) (es : List Edit) (ms : List Mark) → views wanted ≡ expected_finds es ms → views found ≡ m.finds_from 0 ms → length wanted ≡ length found
as-many found wanted es ms w f = sym (length-map wanted view) ∙ (ap length w ∙ (same_number es 0 0 0 ms ∙ (ap length (sym f) ∙ length-map found view)))

pub has-room : (bytes : List ℕ) (es : List Edit) (ms : List Mark) (len : ℕ) → bytes ≡ edited_file es ms → len ≡ length (edited_file es ms) → length bytes ≤ len
has-room bytes es ms len e n = let long = ap length e in omega arith

-- without finds the edited file is the file
pub still-read : (Reads : List ℕ → List Mark → Type 0) (file text : List ℕ) (es : List Edit) (ms : List Mark) (expected : List Find) → file ≡ m.text_of ms → Reads file ms → text ≡ edited_file es ms → expected ≡ expected_finds es ms → expected ≡ [] → Reads text ms
still-read Reads file text es ms expected whole read is are none =
    let stays = no-finds es ms (sym are ∙ none) in
    subst (λ (t : List ℕ). Reads t ms) (whole ∙ (ap m.text_of (sym stays) ∙ sym is)) read

pub refused-so : (P Q : ℕ → List ℕ → List ℕ → Type 0) (e : EditError) → ((start : ℕ) (wanted found : List ℕ) → P start wanted found → Q start wanted found) → IfNotReadBack P e → IfNotReadBack Q e
refused-so P Q (NotReadBack start wanted found) so h = so start wanted found h
refused-so P Q Memory so h = tt

-- where the law holds, only memory is left to fail
pub memory_alone : {X : Type 0} (r : Result X EditError) (P : ℕ → List ℕ → List ℕ → Type 0) → ((start : ℕ) (wanted found : List ℕ) → ¬ P start wanted found) → IfErr r (IfNotReadBack P) → IfErr r (λ e. e ≡ Memory)
memory_alone (Ok x) P never h = tt
memory_alone (Err (NotReadBack start wanted found)) P never h = absurd (never start wanted found h)
memory_alone (Err Memory) P never h = refl
