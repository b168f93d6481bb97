-- A quote stands on both sides of each find.
use Rattle.std.proofs.Common.{ℕ, List, [], ◌∷◌, sym, subst, lit<, inl, inr}
use Rattle.std.specs.Prelude.{◌&&◌}
use Rattle.std.proofs.lemmas.Bool.{cases_Bool}
use Rattle.rnv_manager.specs.Marks as m
use Rattle.rnv_manager.specs.Marks.{Mark}
use Rattle.rnv_manager.proofs.Cuts.{AreFenced, AlwaysFenced, fenced-bytes}
use Rattle.rnv_package_json.specs.Roles.{Standing, top, among, entry, other, is_clean, slot}
use Rattle.rnv_package_json.specs.Grammar as g
use Rattle.rnv_package_json.proofs.Words.{if-true, if-false}

fenced-label : (l : g.Label) (ms : List Mark) → AlwaysFenced ms → AlwaysFenced (g.label_marks l ms)
fenced-label g.unnamed ms h = h
fenced-label (g.name a s b) ms h = fenced-bytes a (m.byte 34 ∷ m.bytes s (m.byte 34 ∷ m.bytes b (m.byte 58 ∷ ms))) (λ _. fenced-bytes s (m.byte 34 ∷ m.bytes b (m.byte 58 ∷ ms)) (λ _. fenced-bytes b (m.byte 58 ∷ ms) (λ _. h 58) 34) 34)

fenced-text : (st : Standing) (s : List ℕ) (ms : List Mark) → AlwaysFenced ms → AreFenced 34 (g.text_marks st s (m.byte 34 ∷ ms))
fenced-text top s ms h = fenced-bytes s (m.byte 34 ∷ ms) (λ _. h 34) 34
fenced-text (among p) s ms h = fenced-bytes s (m.byte 34 ∷ ms) (λ _. h 34) 34
fenced-text (entry p n) s ms h =
    elim (cases_Bool (is_clean n && is_clean s)) [
      | inl c ↦ subst (AreFenced 34) (sym (if-true (is_clean n && is_clean s) (m.find (slot p n) s ∷ m.byte 34 ∷ ms) (m.bytes s (m.byte 34 ∷ ms)) c)) (lit< tt, lit< tt, h 34)
      | inr c ↦ subst (AreFenced 34) (sym (if-false (is_clean n && is_clean s) (m.find (slot p n) s ∷ m.byte 34 ∷ ms) (m.bytes s (m.byte 34 ∷ ms)) c)) (fenced-bytes s (m.byte 34 ∷ ms) (λ _. h 34) 34)
    ]
fenced-text other s ms h = fenced-bytes s (m.byte 34 ∷ ms) (λ _. h 34) 34

mutual
  fenced-marks : (st : Standing) (v : g.Value) (ms : List Mark) → AlwaysFenced ms → AlwaysFenced (g.marks st v ms)
  fenced-marks st (g.word w) ms h = fenced-bytes w ms h
  fenced-marks st (g.text s) ms h = λ _. fenced-text st s ms h
  fenced-marks st (g.empty k a) ms h = λ _. fenced-bytes a (m.byte (g.close k) ∷ ms) (λ _. h (g.close k)) (g.opening k)
  fenced-marks st (g.group k ps) ms h = λ _. fenced-parts st ps (m.byte (g.close k) ∷ ms) (λ _. h (g.close k)) (g.opening k)

  fenced-parts : (st : Standing) (ps : g.Parts) (ms : List Mark) → AlwaysFenced ms → AlwaysFenced (g.parts_marks st ps ms)
  fenced-parts st (g.last l a v b) ms h =
      fenced-label l (m.bytes a (g.marks (g.labelled st l) v (m.bytes b ms))) (fenced-bytes a (g.marks (g.labelled st l) v (m.bytes b ms)) (fenced-marks (g.labelled st l) v (m.bytes b ms) (fenced-bytes b ms h)))
  fenced-parts st (g.more l a v b ps) ms h =
      fenced-label l (m.bytes a (g.marks (g.labelled st l) v (m.bytes b (m.byte 44 ∷ g.parts_marks st ps ms))))
      (fenced-bytes a (g.marks (g.labelled st l) v (m.bytes b (m.byte 44 ∷ g.parts_marks st ps ms)))
      (fenced-marks (g.labelled st l) v (m.bytes b (m.byte 44 ∷ g.parts_marks st ps ms)) (fenced-bytes b (m.byte 44 ∷ g.parts_marks st ps ms) (λ _. fenced-parts st ps ms h 44))))

pub fenced-read : (file : List ℕ) (ms : List Mark) → g.IsRead file ms → AreFenced 0 ms
fenced-read file ms r =
    let always : AlwaysFenced (m.bytes r.before (g.marks top r.value (m.bytes r.after []))) = fenced-bytes r.before (g.marks top r.value (m.bytes r.after [])) (fenced-marks top r.value (m.bytes r.after []) (fenced-bytes r.after [] (λ _. tt))) in
    subst (AreFenced 0) (sym r.marked) (always 0)
