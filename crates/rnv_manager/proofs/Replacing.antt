-- A file with the values of its finds replaced.
use Rattle.std.proofs.Common.{◌≡◌, ℕ, zero, suc, ◌+◌, ◌-◌, ◌<◌, List, [], ◌∷◌, ◌++◌, length, take, drop, get_or, All, IsUtf8, IsCharBoundary, refl, sym, ap, ◌∙◌, arith, length-append, append_assoc}
use Rattle.std.specs.Prelude.{map}
use Rattle.std.proofs.lemmas.List.{drop_at, take_at, drop-drop}
use Rattle.std.proofs.lemmas.Str.{IsUtf8-append, IsUtf8-drop, IsUtf8-between}
use Rattle.rnv_manager.specs.declared.edits.Edit.{Edit}
use Rattle.rnv_manager.specs.declared.found.Found.{Found}
use Rattle.rnv_manager.specs.Finds.{Find, view, views, AreApart, AreCut}
use Rattle.rnv_manager.specs.Marks as m
use Rattle.rnv_manager.specs.Marks.{Mark}
use Rattle.rnv_manager.specs.Edits.{value_after, edited}
use Rattle.rnv_manager.specs.Splice.{AreSpans, spliced}
use Rattle.rnv_manager.specs.Steps.{spans_of, values_of}
use Rattle.rnv_manager.proofs.Edited.{drop-views, room}

pub spans-apart : (from : ℕ) (fs : List Find) (end : ℕ) → AreApart from fs end → AreSpans from (spans_of fs) end
spans-apart from [] end h = h
spans-apart from (f ∷ fs) end h = (h.0, omega arith, spans-apart (f.start + length f.value) fs end h.1)

-- The marks begin at the place p, behind a gap that begins at at.
pub spliced-is : (file : List ℕ) (at p to : ℕ) (gap : List ℕ) (es : List Edit) (k : ℕ) (ms : List Mark) → p ≡ at + length gap → drop at file ≡ gap ++ m.text_of ms
    → spliced file at (spans_of (m.finds_from p ms)) (values_of (m.finds_from to (edited es k ms))) ≡ gap ++ m.text_of (edited es k ms)
spliced-is file at p to gap es k [] place text = text
spliced-is file at p to gap es k (m.byte x ∷ ms) place text =
    spliced-is file at (suc p) (suc to) (gap ++ x ∷ []) es k ms (omega (arith, length-append gap (x ∷ []))) (text ∙ sym (append_assoc gap (x ∷ []) (m.text_of ms)))
    ∙ append_assoc gap (x ∷ []) (m.text_of (edited es k ms))
spliced-is file at p to gap es k (m.find slot s ∷ ms) place text =
    let v = value_after es k s in
    let others = spliced file (p + length s) (spans_of (m.finds_from (p + length s) ms)) (values_of (m.finds_from (to + length v) (edited es (suc k) ms))) in
    let size : p - at ≡ length gap = omega arith in
    let front : take (p - at) (drop at file) ≡ gap = ap (λ (n : ℕ). take n (drop at file)) size ∙ (ap (λ (l : List ℕ). take (length gap) l) text ∙ take_at gap (s ++ m.text_of ms) (length gap) refl) in
    let end : p + length s ≡ at + (length gap + length s) = omega arith in
    let both : length (gap ++ s) ≡ length gap + length s = length-append gap s in
    let behind : drop (p + length s) file ≡ m.text_of ms =
    ap (λ (n : ℕ). drop n file) end
    ∙ (sym (drop-drop (length gap + length s) at file) ∙ (ap (λ (l : List ℕ). drop (length gap + length s) l) (text ∙ sym (append_assoc gap s (m.text_of ms))) ∙ drop_at (gap ++ s) (m.text_of ms) (length gap + length s) both)) in
    let more : others ≡ m.text_of (edited es (suc k) ms) = spliced-is file (p + length s) (p + length s) (to + length v) [] es (suc k) ms (omega arith) behind in
    ap (λ (l : List ℕ). l ++ (v ++ others)) front ∙ ap (λ (l : List ℕ). gap ++ (v ++ l)) more

head-all : (x : List ℕ) (xs : List (List ℕ)) → All IsUtf8 (x ∷ xs) → IsUtf8 x
head-all x xs h = h 0 [] (omega arith)

tail-all : (x : List ℕ) (xs : List (List ℕ)) → All IsUtf8 (x ∷ xs) → All IsUtf8 xs
tail-all x xs h = λ k d lt. h (suc k) d (omega arith)

pub spliced-utf8 : (file : List ℕ) (at end : ℕ) (fs : List Find) (values : List (List ℕ)) → IsUtf8 file → IsCharBoundary file at → AreApart at fs end → AreCut file fs → All IsUtf8 values → IsUtf8 (spliced file at (spans_of fs) values)
spliced-utf8 file at end [] values utf8 here apart cuts all = IsUtf8-drop file at utf8 here
spliced-utf8 file at end (f ∷ fs) [] utf8 here apart cuts all = IsUtf8-drop file at utf8 here
spliced-utf8 file at end (f ∷ fs) (v ∷ vs) utf8 here apart cuts all =
    let rest = spliced file (f.start + length f.value) (spans_of fs) vs in
    let more : IsUtf8 rest = spliced-utf8 file (f.start + length f.value) end fs vs utf8 cuts.1 apart.1 cuts.2 (tail-all v vs all) in
    IsUtf8-append (take (f.start - at) (drop at file)) (v ++ rest) (IsUtf8-between file at f.start utf8 apart.0 here cuts.0) (IsUtf8-append v rest (head-all v vs all) more)

all-cons : (x : List ℕ) (xs : List (List ℕ)) → IsUtf8 x → All IsUtf8 xs → All IsUtf8 (x ∷ xs)
all-cons x xs first others = all where
  all : All IsUtf8 (x ∷ xs)
  all zero d lt = first
  all (suc k) d lt = others k d (omega arith)

pub all-more : (xs : List (List ℕ)) (x : List ℕ) → All IsUtf8 xs → IsUtf8 x → All IsUtf8 (xs ++ x ∷ [])
all-more [] x all here = all-cons x [] here all
all-more (y ∷ ys) x all here = all-cons y (ys ++ x ∷ []) (head-all y ys all) (all-more ys x (tail-all y ys all) here)

-- ---- one more of what is taken of each find

more-of : {Y : Type 0} (g : Find → Y) (found : List Found) (i : ℕ) (d : Found) → i < length found → map g (views (take (i + 1) found)) ≡ map g (views (take i found)) ++ g (view (get_or found i d)) ∷ []
more-of g [] i d lt = absurd (omega arith)
more-of g (x ∷ xs) zero d lt = refl
more-of {Y} g (x ∷ xs) (suc i) d lt =
    let one : suc i + 1 ≡ suc (i + 1) = omega arith in
    ap (λ (n : ℕ). map g (views (take n (x ∷ xs)))) one ∙ ap (λ (l : List Y). g (view x) ∷ l) (more-of g xs i d (omega arith))

pub pushed : {Y : Type 0} (g : Find → Y) (found : List Found) (i : ℕ) (d : Found) → i < length found → (old new : List Y) → new ≡ old ++ g (view (get_or found i d)) ∷ [] → old ≡ map g (views (take i found)) → new ≡ map g (views (take (i + 1) found))
pushed {Y} g found i d lt old new is-new is-old = is-new ∙ (ap (λ (l : List Y). l ++ g (view (get_or found i d)) ∷ []) is-old ∙ sym (more-of g found i d lt))

pub apart-on : (found : List Found) (i at end : ℕ) → i < length found → AreApart at (drop i (views found)) end → (to : ℕ) × AreApart to (drop (i + 1) (views found)) end
apart-on [] i at end lt h = absurd (omega arith)
apart-on (x ∷ xs) i at end lt h =
    let f = view (get_or (x ∷ xs) i x) in
    (f.start + length f.value, (room at f (drop i (views (x ∷ xs))) (drop (i + 1) (views (x ∷ xs))) end (drop-views (x ∷ xs) i x lt) h).apart)
