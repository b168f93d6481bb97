-- Reading a whole file.
use Rattle.std.proofs.Common.{◌≡◌, ℕ, true, List, [], ◌∷◌, ◌++◌, length, get_or, Option, Some, refl, sym, ap, subst, ◌∙◌, arith}
use Rattle.std.specs.Prelude.{Result, Ok, Err}
use Rattle.std.proofs.lemmas.List.{append-nil}
use Rattle.std.proofs.lemmas.Option.{same_Some}
use Rattle.rnv_package_json.specs.declared.value.Kind.TheVariants.{Array, Object}
use Rattle.rnv_manager.specs.declared.found.ExtractError.{ExtractError}
use Rattle.rnv_package_json.specs.Text.{skip, is_space}
use Rattle.rnv_manager.specs.Finds.{Find, GivesFinds}
use Rattle.rnv_package_json.specs.Roles.{top}
use Rattle.rnv_package_json.specs.Word.{is_word_byte}
use Rattle.rnv_package_json.specs.Read.{◌>>=◌, expect, group, value, at_end, file}
use Rattle.rnv_package_json.specs.Grammar as g
use Rattle.rnv_manager.specs.Marks as m
use Rattle.rnv_manager.specs.Marks.{Mark}
use Rattle.rnv_package_json.proofs.Strings.{expect-takes}
use Rattle.rnv_package_json.proofs.Words.{skip-splits, bind_some, word_runs}
use Rattle.rnv_package_json.proofs.Spelled.{spelled, spelled_parts, finds_of, gap-over, Ends-gap, Begins-value, starts-here, first_in_word}
use Rattle.rnv_package_json.proofs.Again.{value-again, value-group}
use Rattle.rnv_package_json.proofs.Takes.{group-takes, value-takes}
use Rattle.rnv_manager.proofs.Marks.{AreFinds, text_of-bytes, finds_left, finds_from-left, left-bytes}
use Rattle.rnv_package_json.proofs.Marks.{text_of-marks, left-marks}

whole-text : (before after : List ℕ) (v : g.Value) → m.text_of (m.bytes before (g.marks top v (m.bytes after []))) ≡ before ++ spelled v (after ++ [])
whole-text before after v =
    text_of-bytes before (g.marks top v (m.bytes after []))
    ∙ ap (λ (x : List ℕ). before ++ x) (text_of-marks top v (m.bytes after []) ∙ ap (λ (x : List ℕ). spelled v x) (text_of-bytes after []))

whole-left : (len : ℕ) (before after : List ℕ) (v : g.Value) → finds_left len (m.bytes before (g.marks top v (m.bytes after []))) ≡ finds_of len top v (after ++ [])
whole-left len before after v =
    left-bytes len before (g.marks top v (m.bytes after []))
    ∙ (left-marks len top v (m.bytes after [])
    ∙ (ap (λ (x : List ℕ). finds_of len top v x ++ finds_left len (m.bytes after [])) (text_of-bytes after [])
    ∙ (ap (λ (fs : List Find). finds_of len top v (after ++ []) ++ fs) (left-bytes len after []) ∙ append-nil (finds_of len top v (after ++ [])))))

whole-finds : (bytes : List ℕ) (ms : List Mark) (before after : List ℕ) (v : g.Value) → ms ≡ m.bytes before (g.marks top v (m.bytes after [])) → bytes ≡ m.text_of ms → m.finds_from 0 ms ≡ finds_of (length bytes) top v (after ++ [])
whole-finds bytes ms before after v marked whole =
    let long = ap length whole in
    finds_from-left (length bytes) 0 ms (omega arith) ∙ (ap (finds_left (length bytes)) marked ∙ whole-left (length bytes) before after v)

-- an object begins with its bracket
opened : (n : ℕ) (v : g.Value) (rest : List ℕ) → g.IsObject v → (inner : List ℕ) × (spelled v rest ≡ 123 ∷ inner)
opened n (g.word w) rest h = absurd h
opened n (g.text s) rest h = absurd h
opened n (g.empty Array a) rest h = absurd cc
opened n (g.empty Object a) rest h = (a ++ 125 ∷ rest, refl)
opened n (g.group Array ps) rest h = absurd cc
opened n (g.group Object ps) rest h = (spelled_parts ps (125 ∷ rest), refl)

-- cc would peel the numerals apart, one successor at a time
heads : {x y : ℕ} {xs ys : List ℕ} → x ∷ xs ≡ y ∷ ys → x ≡ y
heads e = ap (λ (l : List ℕ). get_or l 0 0) e

is_object : (n : ℕ) (v : g.Value) (rest inner : List ℕ) → g.IsValue n v → 123 ∷ inner ≡ spelled v rest → g.IsObject v
is_object n (g.word w) rest inner h e = absurd (no_word w h e) where
  no_word : (w : List ℕ) → g.IsValue n (g.word w) → 123 ∷ inner ≡ w ++ rest → ⊥
  no_word [] q d = let b = Begins-value n (g.word []) [] q in let wrong = b.is in cc
  no_word (x ∷ xs) q d =
      let in_word = first_in_word x xs (word_runs (x ∷ xs) q) in
      let same : x ≡ 123 = sym (heads d) in
      let wrong : is_word_byte 123 ≡ true = subst (λ (c : ℕ). is_word_byte c ≡ true) same in_word in
      cc
is_object n (g.text s) rest inner h e = let first = heads e in absurd (omega arith)
is_object n (g.empty Array a) rest inner h e = let first = heads e in absurd (omega arith)
is_object n (g.empty Object a) rest inner h e = refl
is_object n (g.group Array ps) rest inner h e = let first = heads e in absurd (omega arith)
is_object n (g.group Object ps) rest inner h e = refl

pub file-again : (bytes : List ℕ) (ms : List Mark) → g.IsRead bytes ms → file bytes ≡ Some (m.finds_from 0 ms)
unfolding file
file-again bytes ms r =
    let rest = r.after ++ [] in
    let len = length bytes in
    let text : bytes ≡ r.before ++ spelled r.value (r.after ++ []) = r.whole ∙ (ap m.text_of r.marked ∙ whole-text r.before r.after r.value) in
    let o = opened 127 r.value (r.after ++ []) r.is_object in
    let front : skip is_space bytes ≡ 123 ∷ o.0 =
    ap (λ (x : List ℕ). skip is_space x) text ∙ (gap-over r.before (spelled r.value (r.after ++ [])) r.is_gap ∙ (starts-here (spelled r.value (r.after ++ [])) (Begins-value 127 r.value (r.after ++ []) r.is_value) ∙ o.1)) in
    let read : value (length bytes) 127 top [] (123 ∷ o.0) ≡ Some (finds_of (length bytes) top r.value (r.after ++ []), r.after ++ []) =
    ap (λ (x : List ℕ). value (length bytes) 127 top [] x) (sym o.1) ∙ value-again (length bytes) 127 r.value top [] (r.after ++ []) r.is_value (Ends-gap r.after [] r.is_gap_after refl) in
    let inside : group (value (length bytes) 126) top Object [] o.0 ≡ Some (finds_of (length bytes) top r.value (r.after ++ []), r.after ++ []) = sym (value-group (length bytes) 126 Object top [] o.0) ∙ read in
    let back : skip is_space (r.after ++ []) ≡ [] = gap-over r.after [] r.is_gap_after in
    rw (front, inside, back) (ap (λ (fs : List Find). Some fs) (sym (whole-finds bytes ms r.before r.after r.value r.marked r.whole)))

ended : (finds : List Find) (xs : List ℕ) (fs : List Find) → at_end finds xs ≡ Some fs → (xs ≡ []) × (finds ≡ fs)
ended finds [] fs e = (refl, same_Some finds fs e)
ended finds (x ∷ xs) fs e = absurd cc

pub file-takes : (bytes : List ℕ) (fs : List Find) → file bytes ≡ Some fs → (ms : List Mark) × g.IsRead bytes ms × (fs ≡ m.finds_from 0 ms)
unfolding file
file-takes bytes fs e =
    let a = bind_some (expect 123 (skip is_space bytes)) (λ inside. group (value (length bytes) 126) top Object [] inside >>= λ s. at_end s.0 (skip is_space s.1)) fs e in
    let b = bind_some (group (value (length bytes) 126) top Object [] a.0) (λ s. at_end s.0 (skip is_space s.1)) fs a.2 in
    let end = ended b.0.0 (skip is_space b.0.1) fs b.2 in
    let front = skip-splits is_space bytes in
    let back = skip-splits is_space b.0.1 in
    let v = group-takes (length bytes) 126 (value (length bytes) 126) (value-takes (length bytes) 126) top Object [] a.0 b.0.0 b.0.1 b.1 in
    let rest : b.0.1 ≡ back.0 ++ [] = back.1 ∙ ap (λ (x : List ℕ). back.0 ++ x) end.0 in
    let begin : skip is_space bytes ≡ spelled v.v (back.0 ++ []) = expect-takes 123 (skip is_space bytes) a.0 a.1 ∙ (v.bytes ∙ ap (λ (x : List ℕ). spelled v.v x) rest) in
    let whole : bytes ≡ m.text_of (m.bytes front.0 (g.marks top v.v (m.bytes back.0 []))) = front.1 ∙ (ap (λ (x : List ℕ). front.0 ++ x) begin ∙ sym (whole-text front.0 back.0 v.v)) in
    let found : fs ≡ finds_of (length bytes) top v.v (back.0 ++ []) = sym end.1 ∙ (v.finds ∙ ap (λ (x : List ℕ). finds_of (length bytes) top v.v x) rest) in (
      m.bytes front.0 (g.marks top v.v (m.bytes back.0 [])),
      record {
        before = front.0;
        value = v.v;
        after = back.0;
        is_gap = front.2;
        is_value = v.is_value;
        is_object = is_object 127 v.v b.0.1 a.0 v.is_value v.bytes;
        is_gap_after = back.2;
        marked = refl;
        whole = whole;
      },
      found ∙ sym (whole-finds bytes (m.bytes front.0 (g.marks top v.v (m.bytes back.0 []))) front.0 back.0 v.v refl whole),
    )

-- ---- what a function that reads a file promises

pub found-clause : {X : Type 0} (view : X → List Find) (bytes : List ℕ) (r : Result X ExtractError) → GivesFinds view r (file bytes) → AreFinds view (λ ms. g.IsRead bytes ms) r
found-clause view bytes (Ok x) h = file-takes bytes (view x) h
found-clause view bytes (Err e) h = tt

pub only-clause : {X : Type 0} (view : X → List Find) (bytes : List ℕ) (r : Result X ExtractError) (ms : List Mark) → GivesFinds view r (file bytes) → g.IsRead bytes ms → GivesFinds view r (Some (m.finds_from 0 ms))
only-clause view bytes r ms h read = subst (λ (o : Option (List Find)). GivesFinds view r o) (file-again bytes ms read) h
