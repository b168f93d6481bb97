-- Where an ASCII byte stands on each side of a value, the file can be cut there.
use Rattle.std.proofs.Common.{◌≡◌, ℕ, suc, ◌+◌, ◌<◌, List, [], ◌∷◌, ◌++◌, length, get_or, Result, Ok, Err, IfOk, IsUtf8, IsCharBoundary, refl, sym, ap, subst, ◌∙◌, arith, length-append, append_assoc}
use Rattle.std.specs.Prelude.{⊤}
use Rattle.std.proofs.lemmas.Str.{IsCharBoundary-before_ascii, IsCharBoundary-after_ascii, IsCharBoundary-start, IsCharBoundary-end}
use Rattle.rnv_manager.specs.declared.found.ExtractError.{ExtractError}
use Rattle.rnv_manager.specs.Finds.{Find, AreCut}
use Rattle.rnv_manager.specs.Marks as m
use Rattle.rnv_manager.specs.Marks.{Mark}
use Rattle.rnv_manager.proofs.Marks.{AreWhole, AreFinds}

-- Each find has an ASCII byte before it, and one or the end of the file behind it. The byte before the
-- marks is prev; zero stands for the beginning of the file.
abbrev pub AreFenced : ℕ → List Mark → Type 0
AreFenced prev [] = ⊤
AreFenced prev (m.byte x ∷ ms) = AreFenced x ms
AreFenced prev (m.find slot s ∷ []) = prev < 128
AreFenced prev (m.find slot s ∷ m.byte x ∷ ms) = (prev < 128) × (x < 128) × AreFenced x ms
AreFenced prev (m.find slot s ∷ m.find slot' s' ∷ ms) = ⊥

-- the same, whatever stands before
abbrev pub AlwaysFenced : List Mark → Type 0
AlwaysFenced ms = (prev : ℕ) → AreFenced prev ms

pub fenced-bytes : (xs : List ℕ) (ms : List Mark) → AlwaysFenced ms → AlwaysFenced (m.bytes xs ms)
fenced-bytes [] ms h = h
fenced-bytes (x ∷ xs) ms h = λ prev. fenced-bytes xs ms h x

get_or-at : (front : List ℕ) (c : ℕ) (rest : List ℕ) → get_or (front ++ c ∷ rest) (length front) 0 ≡ c
get_or-at [] c rest = refl
get_or-at (x ∷ xs) c rest = get_or-at xs c rest

cut-after : (file front : List ℕ) (c : ℕ) (rest : List ℕ) → IsUtf8 file → file ≡ front ++ c ∷ rest → c < 128 → IsCharBoundary file (length front + 1)
cut-after file front c rest utf8 whole ascii =
    let byte : get_or file (length front) 0 ≡ c = ap (λ (l : List ℕ). get_or l (length front) 0) whole ∙ get_or-at front c rest in
    let long : length file ≡ length front + length (c ∷ rest) = ap length whole ∙ length-append front (c ∷ rest) in
    IsCharBoundary-after_ascii file (length front) utf8 (omega arith) (omega arith)

cut-before : (file front : List ℕ) (c : ℕ) (rest : List ℕ) → file ≡ front ++ c ∷ rest → c < 128 → IsCharBoundary file (length front)
cut-before file front c rest whole ascii =
    let byte : get_or file (length front) 0 ≡ c = ap (λ (l : List ℕ). get_or l (length front) 0) whole ∙ get_or-at front c rest in
    let long : length file ≡ length front + length (c ∷ rest) = ap length whole ∙ length-append front (c ∷ rest) in
    IsCharBoundary-before_ascii file (length front) (omega arith) (omega arith)

cut-end : (file front : List ℕ) → file ≡ front ++ [] → IsCharBoundary file (length front)
cut-end file front whole =
    let long : length file ≡ length front = ap length whole ∙ omega (arith, length-append front []) in
    subst (λ (n : ℕ). IsCharBoundary file n) long (IsCharBoundary-end file)

-- the marks ms stand behind the front
are-cut : (file front : List ℕ) (prev : ℕ) (ms : List Mark) → IsUtf8 file → file ≡ front ++ m.text_of ms → (prev < 128 → IsCharBoundary file (length front)) → AreFenced prev ms → AreCut file (m.finds_from (length front) ms)
are-cut file front prev [] utf8 whole here q = tt
are-cut file front prev (m.byte x ∷ ms) utf8 whole here q =
    let n : length (front ++ x ∷ []) ≡ suc (length front) = omega (arith, length-append front (x ∷ [])) in
    let plus : length front + 1 ≡ length (front ++ x ∷ []) = omega arith in
    let next : x < 128 → IsCharBoundary file (length (front ++ x ∷ [])) = λ ascii. subst (λ (k : ℕ). IsCharBoundary file k) plus (cut-after file front x (m.text_of ms) utf8 whole ascii) in
    subst (λ (k : ℕ). AreCut file (m.finds_from k ms)) n (are-cut file (front ++ x ∷ []) x ms utf8 (whole ∙ sym (append_assoc front (x ∷ []) (m.text_of ms))) next q)
are-cut file front prev (m.find slot s ∷ []) utf8 whole here q =
    let n : length (front ++ s) ≡ length front + length s = length-append front s in
    let end = cut-end file (front ++ s) (whole ∙ sym (append_assoc front s [])) in
    (here q, subst (λ (k : ℕ). IsCharBoundary file k) n end, tt)
are-cut file front prev (m.find slot s ∷ m.byte x ∷ ms) utf8 whole here q =
    let there : file ≡ (front ++ s) ++ x ∷ m.text_of ms = whole ∙ sym (append_assoc front s (x ∷ m.text_of ms)) in
    let n : length (front ++ s) ≡ length front + length s = length-append front s in
    let end = cut-before file (front ++ s) x (m.text_of ms) there q.1 in
    let behind : length ((front ++ s) ++ x ∷ []) ≡ suc (length front + length s) = omega (arith, length-append (front ++ s) (x ∷ []), length-append front s) in
    let plus : length (front ++ s) + 1 ≡ length ((front ++ s) ++ x ∷ []) = omega arith in
    let next : x < 128 → IsCharBoundary file (length ((front ++ s) ++ x ∷ [])) = λ ascii. subst (λ (k : ℕ). IsCharBoundary file k) plus (cut-after file (front ++ s) x (m.text_of ms) utf8 there ascii) in
    let more = are-cut file ((front ++ s) ++ x ∷ []) x ms utf8 (there ∙ sym (append_assoc (front ++ s) (x ∷ []) (m.text_of ms))) next q.2 in
    (here q.0, subst (λ (k : ℕ). IsCharBoundary file k) n end, subst (λ (k : ℕ). AreCut file (m.finds_from k ms)) behind more)
are-cut file front prev (m.find slot s ∷ m.find slot' s' ∷ ms) utf8 whole here q = absurd q

pub cuts-clause : {X : Type 0} (view : X → List Find) (Reads : List Mark → Type 0) (file : List ℕ) (r : Result X ExtractError) → IsUtf8 file → AreWhole file Reads → ((ms : List Mark) → Reads ms → AreFenced 0 ms) → AreFinds view Reads r → IfOk r (λ x. AreCut file (view x))
cuts-clause view Reads file (Ok x) utf8 whole fenced h =
    subst (λ (fs : List Find). AreCut file fs) (sym h.2) (are-cut file [] 0 h.0 utf8 (whole h.0 h.1) (λ ascii. IsCharBoundary-start file utf8) (fenced h.0 h.1))
cuts-clause view Reads file (Err e) utf8 whole fenced h = tt
