-- The bytes and the finds of marks.
use Rattle.std.proofs.Common.{◌≡◌, ℕ, suc, ◌-◌, List, [], ◌∷◌, ◌++◌, length, refl, sym, ap, ◌∙◌, arith, inl, inr, append_assoc}
use Rattle.std.specs.Prelude.{◌&&◌}
use Rattle.std.proofs.lemmas.Bool.{cases_Bool}
use Rattle.rnv_manager.specs.Finds.{Find}
use Rattle.rnv_package_json.specs.Roles.{Standing, top, among, entry, other, is_clean, slot}
use Rattle.rnv_package_json.specs.Read.{found_at}
use Rattle.rnv_package_json.specs.Grammar.{close}
use Rattle.rnv_package_json.specs.Grammar as g
use Rattle.rnv_manager.specs.Marks as m
use Rattle.rnv_manager.specs.Marks.{Mark}
use Rattle.rnv_manager.proofs.Marks.{text_of-bytes, finds_left, left-bytes}
use Rattle.rnv_package_json.proofs.Words.{if-true, if-false}
use Rattle.rnv_package_json.proofs.Spelled.{spelled_label, spelled, spelled_parts, finds_of, finds_of_parts}

text_of-label : (l : g.Label) (ms : List Mark) → m.text_of (g.label_marks l ms) ≡ spelled_label l (m.text_of ms)
text_of-label g.unnamed ms = refl
text_of-label (g.name a s b) ms =
    rw (text_of-bytes a (m.byte 34 ∷ m.bytes s (m.byte 34 ∷ m.bytes b (m.byte 58 ∷ ms))), text_of-bytes s (m.byte 34 ∷ m.bytes b (m.byte 58 ∷ ms)), text_of-bytes b (m.byte 58 ∷ ms)) refl

text_of-text : (st : Standing) (s : List ℕ) (ms : List Mark) → m.text_of (g.text_marks st s ms) ≡ s ++ m.text_of ms
text_of-text top s ms = text_of-bytes s ms
text_of-text (among p) s ms = text_of-bytes s ms
text_of-text (entry p n) s ms =
    elim (cases_Bool (is_clean n && is_clean s)) [
      | inl h ↦ ap m.text_of (if-true (is_clean n && is_clean s) (m.find (slot p n) s ∷ ms) (m.bytes s ms) h)
      | inr h ↦ ap m.text_of (if-false (is_clean n && is_clean s) (m.find (slot p n) s ∷ ms) (m.bytes s ms) h) ∙ text_of-bytes s ms
    ]
text_of-text other s ms = text_of-bytes s ms

mutual
  pub text_of-marks : (st : Standing) (v : g.Value) (ms : List Mark) → m.text_of (g.marks st v ms) ≡ spelled v (m.text_of ms)
  text_of-marks st (g.word w) ms = text_of-bytes w ms
  text_of-marks st (g.text s) ms = ap (λ (l : List ℕ). 34 ∷ l) (text_of-text st s (m.byte 34 ∷ ms))
  text_of-marks st (g.empty k a) ms = ap (λ (l : List ℕ). g.opening k ∷ l) (text_of-bytes a (m.byte (close k) ∷ ms))
  text_of-marks st (g.group k ps) ms = ap (λ (l : List ℕ). g.opening k ∷ l) (text_of-parts st ps (m.byte (close k) ∷ ms))

  text_of-parts : (st : Standing) (ps : g.Parts) (ms : List Mark) → m.text_of (g.parts_marks st ps ms) ≡ spelled_parts ps (m.text_of ms)
  text_of-parts st (g.last l a v b) ms =
      let behind = m.bytes b ms in
      text_of-label l (m.bytes a (g.marks (g.labelled st l) v behind))
      ∙ ap (spelled_label l) (text_of-bytes a (g.marks (g.labelled st l) v behind) ∙ ap (λ (x : List ℕ). a ++ x) (text_of-marks (g.labelled st l) v behind ∙ ap (λ (x : List ℕ). spelled v x) (text_of-bytes b ms)))
  text_of-parts st (g.more l a v b ps) ms =
      let behind = m.bytes b (m.byte 44 ∷ g.parts_marks st ps ms) in
      text_of-label l (m.bytes a (g.marks (g.labelled st l) v behind))
      ∙ ap (spelled_label l) (text_of-bytes a (g.marks (g.labelled st l) v behind)
      ∙ ap (λ (x : List ℕ). a ++ x) (text_of-marks (g.labelled st l) v behind
      ∙ ap (λ (x : List ℕ). spelled v x) (text_of-bytes b (m.byte 44 ∷ g.parts_marks st ps ms) ∙ ap (λ (x : List ℕ). b ++ 44 ∷ x) (text_of-parts st ps ms))))

left-label : (len : ℕ) (l : g.Label) (ms : List Mark) → finds_left len (g.label_marks l ms) ≡ finds_left len ms
left-label len g.unnamed ms = refl
left-label len (g.name a s b) ms = left-bytes len a (m.byte 34 ∷ m.bytes s (m.byte 34 ∷ m.bytes b (m.byte 58 ∷ ms))) ∙ (left-bytes len s (m.byte 34 ∷ m.bytes b (m.byte 58 ∷ ms)) ∙ left-bytes len b (m.byte 58 ∷ ms))

left-text : (len : ℕ) (st : Standing) (s : List ℕ) (ms : List Mark) → finds_left len (g.text_marks st s (m.byte 34 ∷ ms)) ≡ found_at st s (len - length (m.text_of ms) - 1 - length s) ++ finds_left len ms
left-text len top s ms = left-bytes len s (m.byte 34 ∷ ms)
left-text len (among p) s ms = left-bytes len s (m.byte 34 ∷ ms)
left-text len (entry p n) s ms =
    let at : len - suc (length (m.text_of ms)) - length s ≡ len - length (m.text_of ms) - 1 - length s = omega arith in
    elim (cases_Bool (is_clean n && is_clean s)) [
      | inl h ↦
          ap (finds_left len) (if-true (is_clean n && is_clean s) (m.find (slot p n) s ∷ m.byte 34 ∷ ms) (m.bytes s (m.byte 34 ∷ ms)) h)
          ∙ (ap (λ (k : ℕ). m.find_at (slot p n) s k ∷ finds_left len ms) at
          ∙ ap (λ (fs : List Find). fs ++ finds_left len ms) (sym (if-true (is_clean n && is_clean s) (m.find_at (slot p n) s (len - length (m.text_of ms) - 1 - length s) ∷ []) [] h)))
      | inr h ↦
          ap (finds_left len) (if-false (is_clean n && is_clean s) (m.find (slot p n) s ∷ m.byte 34 ∷ ms) (m.bytes s (m.byte 34 ∷ ms)) h)
          ∙ (left-bytes len s (m.byte 34 ∷ ms) ∙ ap (λ (fs : List Find). fs ++ finds_left len ms) (sym (if-false (is_clean n && is_clean s) (m.find_at (slot p n) s (len - length (m.text_of ms) - 1 - length s) ∷ []) [] h)))
    ]
left-text len other s ms = left-bytes len s (m.byte 34 ∷ ms)

mutual
  pub left-marks : (len : ℕ) (st : Standing) (v : g.Value) (ms : List Mark) → finds_left len (g.marks st v ms) ≡ finds_of len st v (m.text_of ms) ++ finds_left len ms
  left-marks len st (g.word w) ms = left-bytes len w ms
  left-marks len st (g.text s) ms = left-text len st s ms
  left-marks len st (g.empty k a) ms = left-bytes len a (m.byte (close k) ∷ ms)
  left-marks len st (g.group k ps) ms = left-parts len st ps (m.byte (close k) ∷ ms)

  left-parts : (len : ℕ) (st : Standing) (ps : g.Parts) (ms : List Mark) → finds_left len (g.parts_marks st ps ms) ≡ finds_of_parts len st ps (m.text_of ms) ++ finds_left len ms
  left-parts len st (g.last l a v b) ms =
      left-label len l (m.bytes a (g.marks (g.labelled st l) v (m.bytes b ms)))
      ∙ (left-bytes len a (g.marks (g.labelled st l) v (m.bytes b ms))
      ∙ (left-marks len (g.labelled st l) v (m.bytes b ms)
      ∙ (ap (λ (x : List ℕ). finds_of len (g.labelled st l) v x ++ finds_left len (m.bytes b ms)) (text_of-bytes b ms) ∙ ap (λ (fs : List Find). finds_of len (g.labelled st l) v (b ++ m.text_of ms) ++ fs) (left-bytes len b ms))))
  left-parts len st (g.more l a v b ps) ms =
      let after = g.parts_marks st ps ms in
      let behind = m.bytes b (m.byte 44 ∷ after) in
      let text : m.text_of behind ≡ b ++ 44 ∷ spelled_parts ps (m.text_of ms) = text_of-bytes b (m.byte 44 ∷ after) ∙ ap (λ (x : List ℕ). b ++ 44 ∷ x) (text_of-parts st ps ms) in
      let others : finds_left len behind ≡ finds_of_parts len st ps (m.text_of ms) ++ finds_left len ms = left-bytes len b (m.byte 44 ∷ after) ∙ left-parts len st ps ms in
      left-label len l (m.bytes a (g.marks (g.labelled st l) v behind))
      ∙ (left-bytes len a (g.marks (g.labelled st l) v behind)
      ∙ (left-marks len (g.labelled st l) v behind
      ∙ (ap (λ (x : List ℕ). finds_of len (g.labelled st l) v x ++ finds_left len behind) text
      ∙ (ap (λ (fs : List Find). finds_of len (g.labelled st l) v (b ++ 44 ∷ spelled_parts ps (m.text_of ms)) ++ fs) others
      ∙ sym (append_assoc (finds_of len (g.labelled st l) v (b ++ 44 ∷ spelled_parts ps (m.text_of ms))) (finds_of_parts len st ps (m.text_of ms)) (finds_left len ms))))))
