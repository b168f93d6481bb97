-- One turn over the finds of a file that is edited.
use Rattle.std.proofs.Common.{◌≡◌, ℕ, zero, suc, ◌+◌, ◌-◌, ◌≤◌, ◌<◌, true, false, List, [], ◌∷◌, ◌++◌, length, take, drop, get_or, refl, sym, ap, subst, ◌∙◌, arith, length-append, append_assoc, add-one, Fits, w64}
use Rattle.std.specs.Prelude.{◌≢◌, nat_eq}
use Rattle.std.proofs.lemmas.Bool.Decides.{nat_tests}
use Rattle.std.proofs.lemmas.List.{append-nil, take_all}
use Rattle.rnv_manager.specs.declared.edits.Edit.{Edit}
use Rattle.rnv_manager.specs.declared.found.Found.{Found}
use Rattle.rnv_manager.specs.Finds.{Find, view, views, AreApart}
use Rattle.rnv_manager.specs.Marks as m
use Rattle.rnv_manager.specs.Marks.{Mark}
use Rattle.rnv_manager.specs.Edits.{AreIndexes, value_after, edited, edited_file, expected_finds}
use Rattle.rnv_manager.specs.Steps.{IsNewValue}
use Rattle.rnv_manager.proofs.Marks.{text_of-bytes}
use Rattle.rnv_manager.proofs.Unique.{slot_of, first_or, rest_of}

-- ---- the value of one find

pub other : (e : Edit) (es : List Edit) (k : ℕ) (s : List ℕ) → nat_eq e.index k ≡ false → value_after (e ∷ es) k s ≡ value_after es k s
other e es k s n = rw n refl

pub chosen : (e : Edit) (es : List Edit) (k : ℕ) (s : List ℕ) → nat_eq e.index k ≡ true → value_after (e ∷ es) k s ≡ e.new_value
chosen e es k s n = rw n refl

-- an edit of an earlier find says nothing of those behind it
passed : (e : Edit) (es : List Edit) (k : ℕ) (ms : List Mark) → e.index < k → edited (e ∷ es) k ms ≡ edited es k ms
passed e es k [] lt = refl
passed e es k (m.byte x ∷ ms) lt = ap (λ (r : List Mark). m.byte x ∷ r) (passed e es k ms lt)
passed e es k (m.find slot s ∷ ms) lt =
    let no : nat_eq e.index k ≡ false = grind (arith, nat_tests) in
    ap (λ (v : List ℕ). m.find slot v ∷ edited (e ∷ es) (suc k) ms) (other e es k s no) ∙ ap (λ (r : List Mark). m.find slot (value_after es k s) ∷ r) (passed e es (suc k) ms (omega arith))

kept : (es : List Edit) (k n : ℕ) (s : List ℕ) → AreIndexes (suc k) es n → value_after es k s ≡ s
kept [] k n s h = refl
kept (e ∷ es) k n s h =
    let later = h.0 in
    let no : nat_eq e.index k ≡ false = grind (arith, nat_tests) in
    other e es k s no ∙ kept es k n s (sooner es (suc k) (suc e.index) n (omega arith) h.2) where
      sooner : (rest : List Edit) (from to end : ℕ) → from ≤ to → AreIndexes to rest end → AreIndexes from rest end
      sooner [] from to end le q = tt
      sooner (d ∷ rest) from to end le q = (omega (arith, q.0), q.1, q.2)

pub with-new : (e : Edit) (es : List Edit) (k n : ℕ) (s : List ℕ) → e.index ≡ k → AreIndexes k (e ∷ es) n → IsNewValue (e ∷ es) k s n e.new_value es
with-new e es k n s same h =
    let yes : nat_eq e.index k ≡ true = grind (arith, nat_tests) in
    record {
      is = sym (chosen e es k s yes);
      same = λ ms. passed e es (suc k) ms (omega arith);
      rising = subst (λ (i : ℕ). AreIndexes (suc i) es n) same h.2;
    }

-- the first of the edits is that find's
pub with-first : (es : List Edit) (k n : ℕ) (s : List ℕ) (e : Edit) → 1 ≤ length es → e ≡ get_or es 0 e → e.index ≡ k → AreIndexes k es n → IsNewValue es k s n e.new_value (take (length es - 1) (drop 1 es))
with-first [] k n s e long is same h = absurd (omega arith)
with-first (d ∷ ds) k n s e long is same h =
    let others : take (length (d ∷ ds) - 1) ds ≡ ds = take_all (length (d ∷ ds) - 1) ds (omega arith) in
    let index : d.index ≡ k = sym (ap (λ (x : Edit). x.index) is) ∙ same in
    subst (λ (r : List Edit). IsNewValue (d ∷ ds) k s n e.new_value r) (sym others) (subst (λ (v : List ℕ). IsNewValue (d ∷ ds) k s n v ds) (sym (ap (λ (x : Edit). x.new_value) is)) (with-new d ds k n s index h))

-- no edit is that find's
pub with-none : (es : List Edit) (k n : ℕ) (s : List ℕ) → length es < 1 → IsNewValue es k s n s es
with-none [] k n s lt = record { is = refl; same = λ ms. refl; rising = tt }
with-none (e ∷ es) k n s lt = absurd (omega arith)

pub with-later : (es : List Edit) (k n : ℕ) (s : List ℕ) (e : Edit) → 1 ≤ length es → e ≡ get_or es 0 e → e.index ≢ k → AreIndexes k es n → IsNewValue es k s n s es
with-later [] k n s e long is not h = absurd (omega arith)
with-later (d ∷ ds) k n s e long is not h =
    let index = ap (λ (x : Edit). x.index) is in
    let from = h.0 in
    let above : suc k ≤ d.index = omega arith in
    let later : AreIndexes (suc k) (d ∷ ds) n = (above, h.1, h.2) in
    record { is = sym (kept (d ∷ ds) k n s later); same = λ ms. refl; rising = later }

-- ---- the next find

record Next (f : Find) (fs : List Find) (at : ℕ) (ns : List Mark) : Type 0 where
  gap : List ℕ
  rest : List Mark
  split : ns ≡ m.bytes gap (m.find (slot_of f) f.value ∷ rest)
  start : f.start ≡ at + length gap
  others : fs ≡ m.finds_from (f.start + length f.value) rest

next-find : (at : ℕ) (ns : List Mark) (f : Find) (fs : List Find) → f ∷ fs ≡ m.finds_from at ns → Next f fs at ns
next-find at [] f fs e = absurd cc
next-find at (m.byte x ∷ ns) f fs e =
    let more = next-find (suc at) ns f fs e in
    record { gap = x ∷ more.gap; rest = more.rest; split = ap (λ (r : List Mark). m.byte x ∷ r) more.split; start = omega (arith, more.start); others = more.others }
next-find at (m.find slot s ∷ ns) f fs e =
    let head : f ≡ m.find_at slot s at = ap (first_or f) e in
    let same : slot_of f ≡ slot = ap slot_of head in
    let value : f.value ≡ s = ap (λ (r : Find). r.value) head in
    let start : f.start ≡ at = ap (λ (r : Find). r.start) head in
    record {
      gap = [];
      rest = ns;
      split = ap (λ (v : m.Slot). m.find v s ∷ ns) (sym same) ∙ ap (λ (v : List ℕ). m.find (slot_of f) v ∷ ns) (sym value);
      start = omega arith;
      others = ap rest_of e ∙ (ap (λ (k : ℕ). m.finds_from (k + length s) ns) (sym start) ∙ ap (λ (v : List ℕ). m.finds_from (f.start + length v) ns) (sym value));
    }

edited-bytes : (es : List Edit) (k : ℕ) (xs : List ℕ) (ms : List Mark) → edited es k (m.bytes xs ms) ≡ m.bytes xs (edited es k ms)
edited-bytes es k [] ms = refl
edited-bytes es k (x ∷ xs) ms = ap (λ (r : List Mark). m.byte x ∷ r) (edited-bytes es k xs ms)

pub from-bytes : (at : ℕ) (xs : List ℕ) (ms : List Mark) → m.finds_from at (m.bytes xs ms) ≡ m.finds_from (at + length xs) ms
from-bytes at [] ms = ap (λ (k : ℕ). m.finds_from k ms) (omega arith)
from-bytes at (x ∷ xs) ms = from-bytes (suc at) xs ms ∙ ap (λ (k : ℕ). m.finds_from k ms) (omega arith)

-- ---- what is left of the file

-- The pieces ns from the place at on, and what comes of them with the edits that are left.
pub record Left (len_of_file : ℕ) (fs : List Find) (es : List Edit) (ms : List Mark) (rest : List Edit) (i at len : ℕ) (new : List Find) : Type 0 where
  pub ns : List Mark
  pub finds : drop i fs ≡ m.finds_from at ns
  pub size : at + length (m.text_of ns) ≡ len_of_file
  pub sizes : len + length (m.text_of (edited rest i ns)) ≡ length (edited_file es ms)
  pub found : new ++ m.finds_from len (edited rest i ns) ≡ expected_finds es ms

pub left-start : (len_of_file : ℕ) (fs : List Find) (es : List Edit) (ms : List Mark) → len_of_file ≡ length (m.text_of ms) → fs ≡ m.finds_from 0 ms → Left len_of_file fs es ms es 0 0 0 []
left-start len_of_file fs es ms long finds = record { ns = ms; finds = finds; size = omega arith; sizes = omega arith; found = refl }

pub left-turn : (len_of_file : ℕ) (fs : List Find) (es : List Edit) (ms : List Mark) (rest : List Edit) (i at len : ℕ) (new : List Find) (f : Find) → Left len_of_file fs es ms rest i at len new → drop i fs ≡ f ∷ drop (i + 1) fs
    → (n : ℕ) (v : List ℕ) (rest2 : List Edit) (start len2 : ℕ) → IsNewValue rest i f.value n v rest2 → start ≡ len + (f.start - at) → len2 ≡ start + length v
    → (new2 : List Find) → new2 ≡ new ++ m.find_at (slot_of f) v start ∷ [] → Left len_of_file fs es ms rest2 (i + 1) (f.start + length f.value) len2 new2
left-turn len_of_file fs es ms rest i at len new f l here n v rest2 start len2 step is-start is-len new2 is-new =
    let x = next-find at l.ns f (drop (i + 1) fs) (sym here ∙ l.finds) in
    let begin = x.start in
    let one : suc i ≡ i + 1 = sym (add-one i) in
    let behind = edited rest2 (i + 1) x.rest in
    let ed : edited rest i l.ns ≡ m.bytes x.gap (m.find (slot_of f) v ∷ behind) =
    ap (edited rest i) x.split
    ∙ (edited-bytes rest i x.gap (m.find (slot_of f) f.value ∷ x.rest)
    ∙ (ap (λ (w : List ℕ). m.bytes x.gap (m.find (slot_of f) w ∷ edited rest (suc i) x.rest)) (sym step.is)
    ∙ (ap (λ (r : List Mark). m.bytes x.gap (m.find (slot_of f) v ∷ r)) (step.same x.rest) ∙ ap (λ (k : ℕ). m.bytes x.gap (m.find (slot_of f) v ∷ edited rest2 k x.rest)) one))) in
    let old-text : length (m.text_of l.ns) ≡ length x.gap + (length f.value + length (m.text_of x.rest)) =
    ap length (ap m.text_of x.split ∙ text_of-bytes x.gap (m.find (slot_of f) f.value ∷ x.rest)) ∙ omega (arith, length-append x.gap (f.value ++ m.text_of x.rest), length-append f.value (m.text_of x.rest)) in
    let new-text : length (m.text_of (edited rest i l.ns)) ≡ length x.gap + (length v + length (m.text_of behind)) =
    ap length (ap m.text_of ed ∙ text_of-bytes x.gap (m.find (slot_of f) v ∷ behind)) ∙ omega (arith, length-append x.gap (v ++ m.text_of behind), length-append v (m.text_of behind)) in
    let at-start : len + length x.gap ≡ start = omega arith in
    let founds : m.finds_from len (edited rest i l.ns) ≡ m.find_at (slot_of f) v start ∷ m.finds_from len2 behind =
    ap (m.finds_from len) ed
    ∙ (from-bytes len x.gap (m.find (slot_of f) v ∷ behind) ∙ (ap (λ (k : ℕ). m.finds_from k (m.find (slot_of f) v ∷ behind)) at-start ∙ ap (λ (k : ℕ). m.find_at (slot_of f) v start ∷ m.finds_from k behind) (sym is-len))) in
    let size = l.size in
    let sizes = l.sizes in
    record {
      ns = x.rest;
      finds = x.others;
      size = omega arith;
      sizes = omega arith;
      found = ap (λ (r : List Find). r ++ m.finds_from len2 behind) is-new ∙ (append_assoc new (m.find_at (slot_of f) v start ∷ []) (m.finds_from len2 behind) ∙ (ap (λ (r : List Find). new ++ r) (sym founds) ∙ l.found));
    }

no-more : (es : List Edit) (k at : ℕ) (ns : List Mark) → [] ≡ m.finds_from at ns → edited es k ns ≡ ns
no-more es k at [] e = refl
no-more es k at (m.byte x ∷ ns) e = ap (λ (r : List Mark). m.byte x ∷ r) (no-more es k (suc at) ns e)
no-more es k at (m.find slot s ∷ ns) e = absurd cc

none-from : (at to : ℕ) (ns : List Mark) → [] ≡ m.finds_from at ns → m.finds_from to ns ≡ []
none-from at to [] e = refl
none-from at to (m.byte x ∷ ns) e = none-from (suc at) (suc to) ns e
none-from at to (m.find slot s ∷ ns) e = absurd cc

pub left-done : (len_of_file : ℕ) (fs : List Find) (es : List Edit) (ms : List Mark) (rest : List Edit) (i at len : ℕ) (new : List Find) → Left len_of_file fs es ms rest i at len new → drop i fs ≡ []
    → (total : ℕ) → total ≡ len + (len_of_file - at) → (new ≡ expected_finds es ms) × (total ≡ length (edited_file es ms))
left-done len_of_file fs es ms rest i at len new l none total is =
    let e = sym none ∙ l.finds in
    let same = no-more rest i at l.ns e in
    let long : length (m.text_of (edited rest i l.ns)) ≡ length (m.text_of l.ns) = ap (λ (r : List Mark). length (m.text_of r)) same in
    let size = l.size in
    let sizes = l.sizes in (
      sym (append-nil new) ∙ (ap (λ (r : List Find). new ++ r) (sym (ap (m.finds_from len) same ∙ none-from at len l.ns e)) ∙ l.found),
      omega arith,
    )

-- a file without finds stays as it is
pub no-finds : (es : List Edit) (ms : List Mark) → expected_finds es ms ≡ [] → edited es 0 ms ≡ ms
no-finds es ms e = stays es 0 0 ms (sym e) where
  stays : (ds : List Edit) (k at : ℕ) (ns : List Mark) → [] ≡ m.finds_from at (edited ds k ns) → edited ds k ns ≡ ns
  stays ds k at [] q = refl
  stays ds k at (m.byte x ∷ ns) q = ap (λ (r : List Mark). m.byte x ∷ r) (stays ds k (suc at) ns q)
  stays ds k at (m.find slot s ∷ ns) q = absurd cc

-- ---- the finds that are left

pub drop-views : (found : List Found) (i : ℕ) (d : Found) → i < length found → drop i (views found) ≡ view (get_or found i d) ∷ drop (i + 1) (views found)
drop-views [] i d lt = absurd (omega arith)
drop-views (x ∷ xs) zero d lt = refl
drop-views (x ∷ xs) (suc i) d lt =
    let more = drop-views xs i d (omega arith) in
    let k : suc (i + 1) ≡ suc i + 1 = omega arith in
    more ∙ ap (λ (n : ℕ). view (get_or xs i d) ∷ drop n (view x ∷ views xs)) k

pub drop-all-views : (found : List Found) (i : ℕ) → length found ≤ i → drop i (views found) ≡ []
drop-all-views [] zero le = refl
drop-all-views [] (suc i) le = refl
drop-all-views (x ∷ xs) zero le = absurd (omega arith)
drop-all-views (x ∷ xs) (suc i) le = drop-all-views xs i (omega arith)

pub apart-ends : (from : ℕ) (fs : List Find) (end : ℕ) → AreApart from fs end → from ≤ end
apart-ends from [] end h = h
apart-ends from (f ∷ fs) end h = let a = h.0 in let b = apart-ends (f.start + length f.value) fs end h.1 in omega arith

-- where the next find lies
pub record Room (at : ℕ) (f : Find) (fs : List Find) (end : ℕ) : Type 0 where
  pub order : at ≤ f.start
  pub within : f.start + length f.value ≤ end
  pub apart : AreApart (f.start + length f.value) fs end

pub room : (at : ℕ) (f : Find) (fs more : List Find) (end : ℕ) → fs ≡ f ∷ more → AreApart at fs end → Room at f more end
room at f fs more end e apart =
    let a = subst (λ (x : List Find). AreApart at x end) e apart in
    record { order = a.0; within = apart-ends (f.start + length f.value) more end a.1; apart = a.1 }

-- the end of a find is a place in the file
pub end_fits : (found : List Found) (i at end : ℕ) (d : Found) → i < length found → AreApart at (drop i (views found)) end → Fits w64 end → Fits w64 ((get_or found i d).start + length (get_or found i d).value.now)
end_fits found i at end d lt apart fits =
    let r = room at (view (get_or found i d)) (drop i (views found)) (drop (i + 1) (views found)) end (drop-views found i d lt) apart in
    let within = r.within in
    omega arith
