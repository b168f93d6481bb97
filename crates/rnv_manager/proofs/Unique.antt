-- A file and its finds determine the pieces.
use Rattle.std.proofs.Common.{◌≡◌, ℕ, suc, ◌+◌, ◌≤◌, List, [], ◌∷◌, ◌++◌, length, refl, sym, ap, subst, ◌∙◌, arith}
use Rattle.std.specs.Prelude.{⊤}
use Rattle.rnv_manager.specs.Finds.{Find}
use Rattle.rnv_manager.specs.Marks as m
use Rattle.rnv_manager.specs.Marks.{Mark, Slot}

abbrev pub slot_of : Find → Slot
slot_of f = record { name = f.name; «package» = f.«package»; place = f.place; source = f.source }

abbrev pub first_or : Find → List Find → Find
first_or d [] = d
first_or d (f ∷ fs) = f

abbrev pub rest_of : List Find → List Find
rest_of [] = []
rest_of (f ∷ fs) = fs

-- the first find is no earlier than that
abbrev BeginsAt : ℕ → List Find → Type 0
BeginsAt at [] = ⊤
BeginsAt at (f ∷ fs) = at ≤ f.start

begins-later : (at : ℕ) (fs : List Find) → BeginsAt (suc at) fs → BeginsAt at fs
begins-later at [] h = tt
begins-later at (f ∷ fs) h = omega arith

begins-at : (at : ℕ) (ms : List Mark) → BeginsAt at (m.finds_from at ms)
begins-at at [] = tt
begins-at at (m.byte x ∷ ms) = begins-later at (m.finds_from (suc at) ms) (begins-at (suc at) ms)
begins-at at (m.find slot s ∷ ms) = omega arith

cancel : (s xs ys : List ℕ) → s ++ xs ≡ s ++ ys → xs ≡ ys
cancel [] xs ys e = e
cancel (c ∷ s) xs ys e = cancel s xs ys cc

not_first : (at : ℕ) (ms : List Mark) (f : Find) (fs : List Find) → f.start ≡ at → m.finds_from (suc at) ms ≡ f ∷ fs → ⊥
not_first at ms f fs e h =
    let later : suc at ≤ f.start = subst (BeginsAt (suc at)) h (begins-at (suc at) ms) in
    omega arith

pub one-reading : (at : ℕ) (ms ns : List Mark) → m.text_of ms ≡ m.text_of ns → m.finds_from at ms ≡ m.finds_from at ns → ms ≡ ns
one-reading at [] [] t f = refl
one-reading at [] (m.byte y ∷ ns) t f = absurd cc
one-reading at [] (m.find q u ∷ ns) t f = absurd cc
one-reading at (m.byte x ∷ ms) [] t f = absurd cc
one-reading at (m.byte x ∷ ms) (m.byte y ∷ ns) t f =
    let first : x ≡ y = cc in
    let more : m.text_of ms ≡ m.text_of ns = cc in
    let same = one-reading (suc at) ms ns more f in
    ap (λ (r : List Mark). m.byte x ∷ r) same ∙ ap (λ (c : ℕ). m.byte c ∷ ns) first
one-reading at (m.byte x ∷ ms) (m.find q u ∷ ns) t f = absurd (not_first at ms _ _ refl f)
one-reading at (m.find p s ∷ ms) [] t f = absurd cc
one-reading at (m.find p s ∷ ms) (m.byte y ∷ ns) t f = absurd (not_first at ns _ _ refl (sym f))
one-reading at (m.find p s ∷ ms) (m.find q u ∷ ns) t f =
    let head = ap (first_or (m.find_at p s at)) f in
    let slot : p ≡ q = ap slot_of head in
    let value : s ≡ u = ap (λ (r : Find). r.value) head in
    let others : m.finds_from (at + length s) ms ≡ m.finds_from (at + length s) ns = ap rest_of f ∙ ap (λ (v : List ℕ). m.finds_from (at + length v) ns) (sym value) in
    let text : m.text_of ms ≡ m.text_of ns = cancel s (m.text_of ms) (m.text_of ns) (t ∙ ap (λ (v : List ℕ). v ++ m.text_of ns) (sym value)) in
    let same = one-reading (at + length s) ms ns text others in
    ap (λ (r : List Mark). m.find p s ∷ r) same ∙ (ap (λ (v : List ℕ). m.find p v ∷ ns) value ∙ ap (λ (v : Slot). m.find v u ∷ ns) slot)
