-- Free texts in place of values leave a tree a tree, so the edit law holds.
use Rattle.std.proofs.Common.{◌≡◌, ℕ, zero, suc, true, false, List, [], ◌∷◌, refl, sym, ap, subst, ◌∙◌, arith, inl, inr}
use Rattle.std.specs.Prelude.{nat_le, nat_eq, ◌&&◌}
use Rattle.std.proofs.lemmas.Bool.{cases_Bool}
use Rattle.std.proofs.lemmas.Bool.Decides.{nat_tests}
use Rattle.rnv_manager.specs.declared.edits.Edit.{Edit}
use Rattle.rnv_manager.specs.Marks as m
use Rattle.rnv_manager.specs.Marks.{Mark}
use Rattle.rnv_manager.specs.Edits.{AllFit, edited, IsReadBack}
use Rattle.rnv_manager.proofs.Kept.{IsNew, AreEdited, Splits, splits-byte, splits-bytes, nothing_more, are-edited, law-holds}
use Rattle.rnv_package_json.specs.declared.value.Kind.{Kind}
use Rattle.rnv_base.specs.Values.{is_quotable_byte, is_quotable}
use Rattle.rnv_package_json.specs.Roles.{Standing, top, among, entry, other, is_clean, slot}
use Rattle.rnv_package_json.specs.Grammar as g
use Rattle.rnv_package_json.specs.Grammar.{close, IsRead}
use Rattle.rnv_package_json.proofs.Strings.{and_true}
use Rattle.rnv_package_json.proofs.Words.{if-true, if-false}

-- a text that may stand between the quotes of a find
record IsFree (s : List ℕ) : Type 0 where
  clean : is_clean s ≡ true
  inside : g.IsInside s

splits-label : (l : g.Label) (ms ns : List Mark) → AreEdited IsFree (g.label_marks l ms) ns → Splits IsFree (g.label_marks l) ms ns
splits-label g.unnamed ms ns h = record { rest = ns; is = refl; edited = h }
splits-label (g.name a s b) ms ns h =
    let one = splits-bytes IsFree a (m.byte 34 ∷ m.bytes s (m.byte 34 ∷ m.bytes b (m.byte 58 ∷ ms))) ns h in
    let two = splits-bytes IsFree (34 ∷ s) (m.byte 34 ∷ m.bytes b (m.byte 58 ∷ ms)) one.rest one.edited in
    let three = splits-bytes IsFree (34 ∷ b) (m.byte 58 ∷ ms) two.rest two.edited in
    let four = splits-byte IsFree 58 ms three.rest three.edited in
    record {
      rest = four.rest;
      is = one.is ∙ ap (λ (r : List Mark). m.bytes a r) (two.is ∙ ap (λ (r : List Mark). m.byte 34 ∷ m.bytes s r) (three.is ∙ ap (λ (r : List Mark). m.byte 34 ∷ m.bytes b r) four.is));
      edited = four.edited;
    }

record SplitsText (st : Standing) (ms ns : List Mark) : Type 0 where
  s : List ℕ
  inside : g.IsInside s
  rest : List Mark
  is : ns ≡ g.text_marks st s rest
  edited : AreEdited IsFree ms rest

kept : (st : Standing) (s : List ℕ) (ms ns : List Mark) → g.IsInside s → ((r : List Mark) → g.text_marks st s r ≡ m.bytes s r) → AreEdited IsFree (m.bytes s ms) ns → SplitsText st ms ns
kept st s ms ns inside same h =
    let one = splits-bytes IsFree s ms ns h in
    record { s = s; inside = inside; rest = one.rest; is = one.is ∙ sym (same one.rest); edited = one.edited }

is_new : (s t : List ℕ) → is_clean s ≡ true → g.IsInside s → IsNew IsFree s t → IsFree t
is_new s t clean inside (inl e) = subst IsFree e (record { clean = clean; inside = inside })
is_new s t clean inside (inr h) = h

changed : (p n s : List ℕ) (ms ns : List Mark) → is_clean n ≡ true → is_clean s ≡ true → g.IsInside s → AreEdited IsFree (m.find (slot p n) s ∷ ms) ns → SplitsText (entry p n) ms ns
changed p n s ms [] clean clean-s inside h = absurd h
changed p n s ms (m.byte y ∷ ns) clean clean-s inside h = absurd h
changed p n s ms (m.find q t ∷ ns) clean clean-s inside h =
    let free = is_new s t clean-s inside h.1 in
    let both : (is_clean n && is_clean t) ≡ true = rw (clean, free.clean) refl in
    record {
      s = t;
      inside = free.inside;
      rest = ns;
      is = ap (λ (x : m.Slot). m.find x t ∷ ns) (sym h.0) ∙ sym (if-true (is_clean n && is_clean t) (m.find (slot p n) t ∷ ns) (m.bytes t ns) both);
      edited = h.2;
    }

splits-text : (st : Standing) (s : List ℕ) (ms ns : List Mark) → g.IsInside s → AreEdited IsFree (g.text_marks st s ms) ns → SplitsText st ms ns
splits-text top s ms ns inside h = kept top s ms ns inside (λ r. refl) h
splits-text (among p) s ms ns inside h = kept (among p) s ms ns inside (λ r. refl) h
splits-text (entry p n) s ms ns inside h =
    elim (cases_Bool (is_clean n && is_clean s)) [
      | inl c ↦ changed p n s ms ns (and_true (is_clean n) (is_clean s) c).0 (and_true (is_clean n) (is_clean s) c).1 inside (subst (λ (r : List Mark). AreEdited IsFree r ns) (if-true (is_clean n && is_clean s) (m.find (slot p n) s ∷ ms) (m.bytes s ms) c) h)
      | inr c ↦ kept (entry p n) s ms ns inside (λ r. if-false (is_clean n && is_clean s) (m.find (slot p n) s ∷ r) (m.bytes s r) c) (subst (λ (r : List Mark). AreEdited IsFree r ns) (if-false (is_clean n && is_clean s) (m.find (slot p n) s ∷ ms) (m.bytes s ms) c) h)
    ]
splits-text other s ms ns inside h = kept other s ms ns inside (λ r. refl) h

record SplitsValue (n : ℕ) (st : Standing) (old : g.Value) (ms ns : List Mark) : Type 0 where
  v : g.Value
  is_value : g.IsValue n v
  same_kind : g.IsObject old → g.IsObject v
  rest : List Mark
  is : ns ≡ g.marks st v rest
  edited : AreEdited IsFree ms rest

record SplitsParts (n : ℕ) (k : Kind) (st : Standing) (ms ns : List Mark) : Type 0 where
  ps : g.Parts
  are_parts : g.AreParts n k ps
  rest : List Mark
  is : ns ≡ g.parts_marks st ps rest
  edited : AreEdited IsFree ms rest

mutual
  splits-value : (n : ℕ) (v : g.Value) (st : Standing) (ms ns : List Mark) → g.IsValue n v → AreEdited IsFree (g.marks st v ms) ns → SplitsValue n st v ms ns
  splits-value n (g.word w) st ms ns h e =
      let one = splits-bytes IsFree w ms ns e in
      record { v = g.word w; is_value = h; same_kind = λ x. x; rest = one.rest; is = one.is; edited = one.edited }
  splits-value n (g.text s) st ms ns h e =
      let one = splits-byte IsFree 34 (g.text_marks st s (m.byte 34 ∷ ms)) ns e in
      let two = splits-text st s (m.byte 34 ∷ ms) one.rest h one.edited in
      let three = splits-byte IsFree 34 ms two.rest two.edited in
      record {
        v = g.text two.s;
        is_value = two.inside;
        same_kind = λ x. x;
        rest = three.rest;
        is = one.is ∙ ap (λ (r : List Mark). m.byte 34 ∷ r) (two.is ∙ ap (λ (r : List Mark). g.text_marks st two.s r) three.is);
        edited = three.edited;
      }
  splits-value zero (g.empty k a) st ms ns h e = absurd h
  splits-value (suc n) (g.empty k a) st ms ns h e =
      let one = splits-bytes IsFree (g.opening k ∷ a) (m.byte (close k) ∷ ms) ns e in
      let two = splits-byte IsFree (close k) ms one.rest one.edited in
      record { v = g.empty k a; is_value = h; same_kind = λ x. x; rest = two.rest; is = one.is ∙ ap (λ (r : List Mark). m.byte (g.opening k) ∷ m.bytes a r) two.is; edited = two.edited }
  splits-value zero (g.group k ps) st ms ns h e = absurd h
  splits-value (suc n) (g.group k ps) st ms ns h e =
      let one = splits-byte IsFree (g.opening k) (g.parts_marks st ps (m.byte (close k) ∷ ms)) ns e in
      let two = splits-parts n k ps st (m.byte (close k) ∷ ms) one.rest h one.edited in
      let three = splits-byte IsFree (close k) ms two.rest two.edited in
      record {
        v = g.group k two.ps;
        is_value = two.are_parts;
        same_kind = λ x. x;
        rest = three.rest;
        is = one.is ∙ ap (λ (r : List Mark). m.byte (g.opening k) ∷ r) (two.is ∙ ap (λ (r : List Mark). g.parts_marks st two.ps r) three.is);
        edited = three.edited;
      }

  splits-parts : (n : ℕ) (k : Kind) (ps : g.Parts) (st : Standing) (ms ns : List Mark) → g.AreParts n k ps → AreEdited IsFree (g.parts_marks st ps ms) ns → SplitsParts n k st ms ns
  splits-parts n k (g.last l a v b) st ms ns h e =
      let one = splits-label l (m.bytes a (g.marks (g.labelled st l) v (m.bytes b ms))) ns e in
      let two = splits-bytes IsFree a (g.marks (g.labelled st l) v (m.bytes b ms)) one.rest one.edited in
      let three = splits-value n v (g.labelled st l) (m.bytes b ms) two.rest h.2 two.edited in
      let four = splits-bytes IsFree b ms three.rest three.edited in
      record {
        ps = g.last l a three.v b;
        are_parts = (h.0, h.1, three.is_value, h.3);
        rest = four.rest;
        is = one.is ∙ ap (λ (r : List Mark). g.label_marks l r) (two.is ∙ ap (λ (r : List Mark). m.bytes a r) (three.is ∙ ap (λ (r : List Mark). g.marks (g.labelled st l) three.v r) four.is));
        edited = four.edited;
      }
  splits-parts n k (g.more l a v b ps) st ms ns h e =
      let one = splits-label l (m.bytes a (g.marks (g.labelled st l) v (m.bytes b (m.byte 44 ∷ g.parts_marks st ps ms)))) ns e in
      let two = splits-bytes IsFree a (g.marks (g.labelled st l) v (m.bytes b (m.byte 44 ∷ g.parts_marks st ps ms))) one.rest one.edited in
      let three = splits-value n v (g.labelled st l) (m.bytes b (m.byte 44 ∷ g.parts_marks st ps ms)) two.rest h.2 two.edited in
      let four = splits-bytes IsFree b (m.byte 44 ∷ g.parts_marks st ps ms) three.rest three.edited in
      let five = splits-byte IsFree 44 (g.parts_marks st ps ms) four.rest four.edited in
      let six = splits-parts n k ps st ms five.rest h.4 five.edited in
      record {
        ps = g.more l a three.v b six.ps;
        are_parts = (h.0, h.1, three.is_value, h.3, six.are_parts);
        rest = six.rest;
        is = one.is ∙ ap (λ (r : List Mark). g.label_marks l r) (two.is ∙ ap (λ (r : List Mark). m.bytes a r) (three.is ∙ ap (λ (r : List Mark). g.marks (g.labelled st l) three.v r) (four.is ∙ ap (λ (r : List Mark). m.bytes b r) (five.is ∙ ap (λ (r : List Mark). m.byte 44 ∷ r) six.is))));
        edited = six.edited;
      }

quotable_byte : (x : ℕ) → is_quotable_byte x ≡ true → (nat_le 32 x ≡ true) × (nat_eq x 34 ≡ false) × (nat_eq x 92 ≡ false) × (nat_eq x 127 ≡ false)
quotable_byte x e = (grind (arith, nat_tests), grind (arith, nat_tests), grind (arith, nat_tests), grind (arith, nat_tests))

quotable-free : (s : List ℕ) → is_quotable s ≡ true → IsFree s
quotable-free [] e = record { clean = refl; inside = refl }
quotable-free (x ∷ xs) e =
    let both = and_true (is_quotable_byte x) (is_quotable xs) e in
    let b = quotable_byte x both.0 in
    let more = quotable-free xs both.1 in
    record { clean = rw (b.0, b.2, b.3) more.clean; inside = rw (b.1, b.2, b.0) more.inside }

edits-read : (file : List ℕ) (ms ns : List Mark) → IsRead file ms → AreEdited IsFree ms ns → IsRead (m.text_of ns) ns
edits-read file ms ns r e =
    let start : AreEdited IsFree (m.bytes r.before (g.marks top r.value (m.bytes r.after []))) ns = subst (λ (x : List Mark). AreEdited IsFree x ns) r.marked e in
    let one = splits-bytes IsFree r.before (g.marks top r.value (m.bytes r.after [])) ns start in
    let two = splits-value 127 r.value top (m.bytes r.after []) one.rest r.is_value one.edited in
    let three = splits-bytes IsFree r.after [] two.rest two.edited in
    let done = nothing_more IsFree three.rest three.edited in
    record {
      before = r.before;
      value = two.v;
      after = r.after;
      is_gap = r.is_gap;
      is_value = two.is_value;
      is_object = two.same_kind r.is_object;
      is_gap_after = r.is_gap_after;
      marked = one.is ∙ ap (λ (x : List Mark). m.bytes r.before x) (two.is ∙ ap (λ (x : List Mark). g.marks top two.v x) (three.is ∙ ap (λ (x : List Mark). m.bytes r.after x) done));
      whole = refl;
    }

-- the edit law, for every list of edits that fit
pub edits-kept : (file : List ℕ) (ms : List Mark) (edits : List Edit) → IsRead file ms → AllFit is_quotable edits → IsReadBack IsRead edits ms
edits-kept file ms edits r h = law-holds IsRead edits ms (edits-read file ms (edited edits 0 ms) r (are-edited is_quotable IsFree quotable-free edits 0 ms h))
