-- What every reading of a file as marks has, for any manager.
use Rattle.std.proofs.Common.{◌≡◌, ℕ, suc, ◌+◌, ◌-◌, ◌≤◌, List, [], ◌∷◌, ◌++◌, length, take, Some, None, Result, Ok, Err, IfOk, IsErrOf, refl, sym, ap, subst, ◌∙◌, arith, length-append, append_assoc}
use Rattle.std.proofs.lemmas.List.{take_at, drop_at}
use Rattle.rnv_manager.specs.declared.found.ExtractError.{ExtractError}
use Rattle.rnv_manager.specs.declared.found.ExtractError.TheVariants.{BadSyntax}
use Rattle.rnv_manager.specs.Finds.{Find, GivesFinds, AreApart, AreThere}
use Rattle.rnv_manager.specs.Marks as m
use Rattle.rnv_manager.specs.Marks.{Mark}

pub text_of-bytes : (xs : List ℕ) (ms : List Mark) → m.text_of (m.bytes xs ms) ≡ xs ++ m.text_of ms
text_of-bytes [] ms = refl
text_of-bytes (x ∷ xs) ms = ap (λ (l : List ℕ). x ∷ l) (text_of-bytes xs ms)

-- ---- finds whose starts are counted from the end of the file

-- the finds, where the marks end a file of so many bytes
abbrev pub finds_left : ℕ → List Mark → List Find
finds_left len [] = []
finds_left len (m.byte x ∷ ms) = finds_left len ms
finds_left len (m.find slot s ∷ ms) = m.find_at slot s (len - length (m.text_of ms) - length s) ∷ finds_left len ms

pub finds_from-left : (len at : ℕ) (ms : List Mark) → at + length (m.text_of ms) ≡ len → m.finds_from at ms ≡ finds_left len ms
finds_from-left len at [] e = refl
finds_from-left len at (m.byte x ∷ ms) e = finds_from-left len (suc at) ms (omega arith)
finds_from-left len at (m.find slot s ∷ ms) e =
    let n-is : at ≡ len - length (m.text_of ms) - length s = omega (arith, length-append s (m.text_of ms)) in
    let more = finds_from-left len (at + length s) ms (omega (arith, length-append s (m.text_of ms))) in
    ap (λ (fs : List Find). m.find_at slot s at ∷ fs) more ∙ ap (λ (k : ℕ). m.find_at slot s k ∷ finds_left len ms) n-is

pub left-bytes : (len : ℕ) (xs : List ℕ) (ms : List Mark) → finds_left len (m.bytes xs ms) ≡ finds_left len ms
left-bytes len [] ms = refl
left-bytes len (x ∷ xs) ms = left-bytes len xs ms

-- ---- the finds of marks lie in the file, one behind the other

pub apart : (at : ℕ) (ms : List Mark) → AreApart at (m.finds_from at ms) (at + length (m.text_of ms))
apart at [] = omega arith
apart at (m.byte x ∷ ms) = wider at (suc at) (m.finds_from (suc at) ms) (at + suc (length (m.text_of ms))) (omega arith) (subst (λ (e : ℕ). AreApart (suc at) (m.finds_from (suc at) ms) e) (omega arith) (apart (suc at) ms)) where
  wider : (from to : ℕ) (fs : List Find) (end : ℕ) → from ≤ to → AreApart to fs end → AreApart from fs end
  wider from to [] end le h = omega arith
  wider from to (f ∷ fs) end le h = (omega (arith, h.0), h.1)
apart at (m.find slot s ∷ ms) =
    (omega arith, subst (λ (e : ℕ). AreApart (at + length s) (m.finds_from (at + length s) ms) e) (omega (arith, length-append s (m.text_of ms))) (apart (at + length s) ms))

pub there : (front : List ℕ) (ms : List Mark) → AreThere (front ++ m.text_of ms) (m.finds_from (length front) ms)
there front [] = tt
there front (m.byte x ∷ ms) =
    let longer : suc (length front) ≡ length (front ++ x ∷ []) = omega (arith, length-append front (x ∷ [])) in
    let same : front ++ x ∷ m.text_of ms ≡ (front ++ x ∷ []) ++ m.text_of ms = sym (append_assoc front (x ∷ []) (m.text_of ms)) in
    subst (λ (k : ℕ). AreThere (front ++ x ∷ m.text_of ms) (m.finds_from k ms)) (sym longer) (subst (λ (l : List ℕ). AreThere l (m.finds_from (length (front ++ x ∷ [])) ms)) (sym same) (there (front ++ x ∷ []) ms))
there front (m.find slot s ∷ ms) =
    let longer : length front + length s ≡ length (front ++ s) = omega (arith, length-append front s) in
    let same : front ++ (s ++ m.text_of ms) ≡ (front ++ s) ++ m.text_of ms = sym (append_assoc front s (m.text_of ms)) in (
      ap (λ (l : List ℕ). take (length s) l) (drop_at front (s ++ m.text_of ms) (length front) refl) ∙ take_at s (m.text_of ms) (length s) refl,
      subst (λ (k : ℕ). AreThere (front ++ (s ++ m.text_of ms)) (m.finds_from k ms)) (sym longer) (subst (λ (l : List ℕ). AreThere l (m.finds_from (length (front ++ s)) ms)) (sym same) (there (front ++ s) ms)),
    )

-- ---- clauses of `extract` that follow from two others: `Reads` is the manager's reading of the file

-- the readings of the file are the file
abbrev pub AreWhole : List ℕ → (List Mark → Type 0) → Type 0
AreWhole file Reads = (ms : List Mark) → Reads ms → file ≡ m.text_of ms

-- what is given are the finds of a reading
abbrev pub AreFinds : {X : Type 0} → (X → List Find) → (List Mark → Type 0) → Result X ExtractError → Type 0
AreFinds view Reads r = IfOk r (λ x. (ms : List Mark) × Reads ms × (view x ≡ m.finds_from 0 ms))

pub apart-clause : {X : Type 0} (view : X → List Find) (Reads : List Mark → Type 0) (file : List ℕ) (r : Result X ExtractError) → AreWhole file Reads → AreFinds view Reads r → IfOk r (λ x. AreApart 0 (view x) (length file))
apart-clause view Reads file (Ok x) whole h =
    let long = ap length (whole h.0 h.1) in
    subst (λ (fs : List Find). AreApart 0 fs (length file)) (sym h.2) (subst (λ (e : ℕ). AreApart 0 (m.finds_from 0 h.0) e) (omega arith) (apart 0 h.0))
apart-clause view Reads file (Err e) whole h = tt

pub there-clause : {X : Type 0} (view : X → List Find) (Reads : List Mark → Type 0) (file : List ℕ) (r : Result X ExtractError) → AreWhole file Reads → AreFinds view Reads r → IfOk r (λ x. AreThere file (view x))
there-clause view Reads file (Ok x) whole h =
    subst (λ (fs : List Find). AreThere file fs) (sym h.2) (subst (λ (l : List ℕ). AreThere l (m.finds_from 0 h.0)) (sym (whole h.0 h.1)) (there [] h.0))
there-clause view Reads file (Err e) whole h = tt

pub bad-clause : {X : Type 0} (view : X → List Find) (Reads : List Mark → Type 0) (r : Result X ExtractError) → ((ms : List Mark) → Reads ms → GivesFinds view r (Some (m.finds_from 0 ms))) → IsErrOf r BadSyntax → (ms : List Mark) → ¬ Reads ms
bad-clause view Reads r only bad ms h =
    let wrong : Some (m.finds_from 0 ms) ≡ None = subst (λ (q : Result _ ExtractError). GivesFinds view q (Some (m.finds_from 0 ms))) bad (only ms h) in
    cc
