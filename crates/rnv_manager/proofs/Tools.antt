-- The finds of the tests' manager.
use Rattle.std.proofs.Common.{◌≡◌, ℕ, ◌+◌, ◌<◌, List, [], ◌∷◌, ◌++◌, length, take, drop, get_or, true, false, Some, Result, Ok, Err, IfOk, IfErr, IsUtf8, IsCharBoundary, refl, sym, ap, subst, ◌∙◌, arith, inl, inr, length-take, length-drop}
use Rattle.std.proofs.lemmas.Bool.{cases_Bool}
use Rattle.std.proofs.lemmas.Bool.Decides.{nat_tests}
use Rattle.std.proofs.lemmas.List.{append-nil, take-append-drop}
use Rattle.std.proofs.lemmas.Str.{IsCharBoundary-after_ascii, IsCharBoundary-end}
use Rattle.rnv_manager.specs.declared.found.ExtractError.{ExtractError}
use Rattle.rnv_manager.specs.declared.found.ExtractError.TheVariants.{Memory}
use Rattle.rnv_manager.specs.declared.found.Found.{Found}
use Rattle.rnv_manager.specs.Finds.{Find, view, views, GivesFinds}
use Rattle.rnv_manager.specs.Marks as m
use Rattle.rnv_manager.specs.Marks.{Mark}
use Rattle.rnv_manager.specs.Tool.{is_line, fmt, pieces, IsTool}
use Rattle.rnv_manager.proofs.Marks.{text_of-bytes, AreFinds}
use Rattle.rnv_manager.proofs.Edited.{from-bytes}

long : (file : List ℕ) → is_line file ≡ true → length file ≡ 15
long file e = grind (arith, nat_tests)

ascii : (file : List ℕ) → is_line file ≡ true → get_or file 9 0 < 128
ascii file e = grind (arith, nat_tests)

in-line : (file : List ℕ) → is_line file ≡ true → pieces file ≡ m.bytes (take 10 file) (m.find fmt (drop 10 file) ∷ [])
in-line file e = rw e refl

elsewhere : (file : List ℕ) → is_line file ≡ false → pieces file ≡ m.bytes file []
elsewhere file e = rw e refl

tool-whole : (file : List ℕ) → file ≡ m.text_of (pieces file)
tool-whole file =
    elim (cases_Bool (is_line file)) [
      | inl h ↦ sym (ap m.text_of (in-line file h) ∙ (text_of-bytes (take 10 file) (m.find fmt (drop 10 file) ∷ []) ∙ (ap (λ (l : List ℕ). take 10 file ++ l) (append-nil (drop 10 file)) ∙ take-append-drop 10 file)))
      | inr h ↦ sym (ap m.text_of (elsewhere file h) ∙ (text_of-bytes file [] ∙ append-nil file))
    ]

pub one-find : (file : List ℕ) → is_line file ≡ true → m.find_at fmt (drop 10 file) 10 ∷ [] ≡ m.finds_from 0 (pieces file)
one-find file e =
    let n = long file e in
    let front : 0 + length (take 10 file) ≡ 10 = omega (arith, length-take 10 file) in
    sym (ap (m.finds_from 0) (in-line file e) ∙ (from-bytes 0 (take 10 file) (m.find fmt (drop 10 file) ∷ []) ∙ ap (λ (k : ℕ). m.finds_from k (m.find fmt (drop 10 file) ∷ [])) front))

pub no-find : (file : List ℕ) → is_line file ≡ false → [] ≡ m.finds_from 0 (pieces file)
no-find file e = sym (ap (m.finds_from 0) (elsewhere file e) ∙ from-bytes 0 file [])

pub cut-before : (file : List ℕ) → is_line file ≡ true → IsUtf8 file → IsCharBoundary file 10
cut-before file e utf8 = let n = long file e in IsCharBoundary-after_ascii file 9 utf8 (omega arith) (ascii file e)

pub cut-behind : (file : List ℕ) → is_line file ≡ true → IsCharBoundary file (10 + length (drop 10 file))
cut-behind file e =
    let n = long file e in
    let end : length file ≡ 10 + length (drop 10 file) = omega (arith, length-drop 10 file) in
    subst (λ (k : ℕ). IsCharBoundary file k) end (IsCharBoundary-end file)

pub tool-found : {X : Type 0} (view : X → List Find) (file : List ℕ) (r : Result X ExtractError) → IfOk r (λ x. view x ≡ m.finds_from 0 (pieces file)) → AreFinds view (IsTool file) r
tool-found view file (Ok x) h = (pieces file, record { are = refl; whole = tool-whole file }, h)
tool-found view file (Err e) h = tt

pub tool-only : {X : Type 0} (view : X → List Find) (file : List ℕ) (r : Result X ExtractError) → IfOk r (λ x. view x ≡ m.finds_from 0 (pieces file)) → IfErr r (λ e. e ≡ Memory) → (ms : List Mark) → IsTool file ms → GivesFinds view r (Some (m.finds_from 0 ms))
tool-only view file (Ok x) h k ms read = ap (λ (fs : List Find). Some fs) (ap (m.finds_from 0) read.are ∙ sym h)
tool-only view file (Err e) h k ms read = subst (λ (d : ExtractError). GivesFinds view (Err d) (Some (m.finds_from 0 ms))) (sym k) tt

pub views-one : (old new : List Found) (f : Found) → new ≡ old ++ f ∷ [] → old ≡ [] → views new ≡ view f ∷ []
views-one old new f is none = ap views (is ∙ ap (λ (l : List Found). l ++ f ∷ []) none)
