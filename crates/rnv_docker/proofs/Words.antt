-- Lines and their words: what is spelled is read, and what is read is the line.
use Rattle.std.proofs.Common.{◌≡◌, ℕ, suc, ◌+◌, ◌-◌, ◌≤◌, ◌<◌, true, false, List, [], ◌∷◌, ◌++◌, length, take, drop, get_or, IsUtf8, IsCharBoundary, refl, sym, ap, subst, ◌∙◌, arith, inl, inr, length-append}
use Rattle.std.specs.Prelude.{⊤, not, Bool, ◌&&◌, nat_eq}
use Rattle.std.specs.List.{list_all}
use Rattle.std.proofs.lemmas.Bool.{cases_Bool}
use Rattle.std.proofs.lemmas.Bool.Decides.{nat_tests}
use Rattle.std.proofs.lemmas.List.{take_at, drop_at, append-nil, get_or_at}
use Rattle.std.proofs.lemmas.Str.{IsCharBoundary-before_ascii, IsCharBoundary-after_ascii, IsCharBoundary-start, IsCharBoundary-end}
use Rattle.rnv_docker.specs.Lines.{is_space}
use Rattle.rnv_docker.specs.Words.{Words, spaces, word, spelled, spaced, lettered, words}
use Rattle.rnv_docker.specs.Read.{skip, is_ink, IsFirst}
use Rattle.rnv_docker.proofs.Bools.{if-true, if-false, and_true, both, all-at}

-- a word ends before it
abbrev pub Stops : List ℕ → Type 0
Stops [] = ⊤
Stops (x ∷ xs) = is_space x ≡ true

abbrev pub IsText : List ℕ → Type 0
IsText [] = ⊥
IsText (x ∷ xs) = list_all is_ink (x ∷ xs) ≡ true

abbrev pub AreWords : Words → Type 0
AreWords (spaces gap) = list_all is_space gap ≡ true
AreWords (word gap text ws) = (list_all is_space gap ≡ true) × IsText text × Stops (spelled ws) × AreWords ws

pub ink : (x : ℕ) → is_ink x ≡ true → is_space x ≡ false
ink x e = denied (is_space x) e where
  denied : (b : Bool) → not b ≡ true → b ≡ false
  denied true k = absurd cc
  denied false k = refl

pub gap-end : (gap : List ℕ) → list_all is_space gap ≡ true → words gap ≡ spaces gap
gap-end [] e = refl
gap-end (x ∷ gap) e =
    let h = and_true (is_space x) (list_all is_space gap) e in
    if-true (is_space x) (spaced x (words gap)) (lettered x (words gap)) h.0 ∙ ap (spaced x) (gap-end gap h.1)

pub gap-over : (gap rest text : List ℕ) (ws : Words) → list_all is_space gap ≡ true → words rest ≡ word [] text ws → words (gap ++ rest) ≡ word gap text ws
gap-over [] rest text ws e h = h
gap-over (x ∷ gap) rest text ws e h =
    let b = and_true (is_space x) (list_all is_space gap) e in
    if-true (is_space x) (spaced x (words (gap ++ rest))) (lettered x (words (gap ++ rest))) b.0 ∙ ap (spaced x) (gap-over gap rest text ws b.1 h)

lettered-spaced : (x y : ℕ) (ws : Words) → lettered x (spaced y ws) ≡ word [] (x ∷ []) (spaced y ws)
lettered-spaced x y (spaces gap) = refl
lettered-spaced x y (word gap text ws) = refl

lettered-stops : (x : ℕ) (rest : List ℕ) → Stops rest → lettered x (words rest) ≡ word [] (x ∷ []) (words rest)
lettered-stops x [] h = refl
lettered-stops x (y ∷ ys) h =
    let is = if-true (is_space y) (spaced y (words ys)) (lettered y (words ys)) h in
    ap (lettered x) is ∙ (lettered-spaced x y (words ys) ∙ ap (word [] (x ∷ [])) (sym is))

pub word-over : (x : ℕ) (text rest : List ℕ) → list_all is_ink (x ∷ text) ≡ true → Stops rest → words (x ∷ (text ++ rest)) ≡ word [] (x ∷ text) (words rest)
word-over x [] rest e h =
    let b = and_true (is_ink x) true e in
    if-false (is_space x) (spaced x (words rest)) (lettered x (words rest)) (ink x b.0) ∙ lettered-stops x rest h
word-over x (y ∷ text) rest e h =
    let b = and_true (is_ink x) (list_all is_ink (y ∷ text)) e in
    if-false (is_space x) (spaced x (words (y ∷ (text ++ rest)))) (lettered x (words (y ∷ (text ++ rest)))) (ink x b.0) ∙ ap (lettered x) (word-over y text rest b.1 h)

-- what is spelled is read
pub words-spelled : (ws : Words) → AreWords ws → words (spelled ws) ≡ ws
words-spelled (spaces gap) h = gap-end gap h
words-spelled (word gap [] ws) h = absurd h.1
words-spelled (word gap (x ∷ text) ws) h =
    gap-over gap (x ∷ (text ++ spelled ws)) (x ∷ text) ws h.0 (word-over x text (spelled ws) h.1 h.2 ∙ ap (word [] (x ∷ text)) (words-spelled ws h.3))

spelled-spaced : (x : ℕ) (ws : Words) → spelled (spaced x ws) ≡ x ∷ spelled ws
spelled-spaced x (spaces gap) = refl
spelled-spaced x (word gap text ws) = refl

spelled-lettered : (x : ℕ) (ws : Words) → spelled (lettered x ws) ≡ x ∷ spelled ws
spelled-lettered x (spaces gap) = refl
spelled-lettered x (word [] text ws) = refl
spelled-lettered x (word (y ∷ gap) text ws) = refl

-- the words are the line
pub spelled-words : (xs : List ℕ) → spelled (words xs) ≡ xs
spelled-words [] = refl
spelled-words (x ∷ xs) =
    elim (cases_Bool (is_space x)) [
      | inl c ↦ ap spelled (if-true (is_space x) (spaced x (words xs)) (lettered x (words xs)) c) ∙ (spelled-spaced x (words xs) ∙ ap (λ (l : List ℕ). x ∷ l) (spelled-words xs))
      | inr c ↦ ap spelled (if-false (is_space x) (spaced x (words xs)) (lettered x (words xs)) c) ∙ (spelled-lettered x (words xs) ∙ ap (λ (l : List ℕ). x ∷ l) (spelled-words xs))
    ]

spaced-are : (x : ℕ) (ws : Words) → is_space x ≡ true → AreWords ws → AreWords (spaced x ws)
spaced-are x (spaces gap) c h = both (is_space x) (list_all is_space gap) c h
spaced-are x (word gap text ws) c h = (both (is_space x) (list_all is_space gap) c h.0, h.1, h.2, h.3)

lettered-are : (x : ℕ) (ws : Words) → is_space x ≡ false → AreWords ws → AreWords (lettered x ws)
lettered-are x (spaces []) c h = (refl, both (is_ink x) true (ap not c) refl, tt, h)
lettered-are x (spaces (y ∷ gap)) c h = (refl, both (is_ink x) true (ap not c) refl, (and_true (is_space y) (list_all is_space gap) h).0, h)
lettered-are x (word [] [] ws) c h = absurd h.1
lettered-are x (word [] (y ∷ text) ws) c h = (refl, both (is_ink x) (list_all is_ink (y ∷ text)) (ap not c) h.1, h.2, h.3)
lettered-are x (word (y ∷ gap) text ws) c h = (refl, both (is_ink x) true (ap not c) refl, (and_true (is_space y) (list_all is_space gap) h.0).0, h)

pub words-are : (xs : List ℕ) → AreWords (words xs)
words-are [] = refl
words-are (x ∷ xs) =
    elim (cases_Bool (is_space x)) [
      | inl c ↦ subst AreWords (sym (if-true (is_space x) (spaced x (words xs)) (lettered x (words xs)) c)) (spaced-are x (words xs) c (words-are xs))
      | inr c ↦ subst AreWords (sym (if-false (is_space x) (spaced x (words xs)) (lettered x (words xs)) c)) (lettered-are x (words xs) c (words-are xs))
    ]

-- ---- the first word

-- a front that passes, and what is left
record Skips (p : ℕ → Bool) (xs : List ℕ) : Type 0 where
  front : List ℕ
  whole : xs ≡ front ++ skip p xs
  passes : list_all p front ≡ true

skips : (p : ℕ → Bool) (xs : List ℕ) → Skips p xs
skips p [] = record { front = []; whole = refl; passes = refl }
skips p (x ∷ xs) =
    elim (cases_Bool (p x)) [
      | inl c ↦
          let more = skips p xs in
          let left = if-true (p x) (skip p xs) (x ∷ xs) c in
          record {
            front = x ∷ more.front;
            whole = ap (λ (l : List ℕ). x ∷ l) (more.whole ∙ ap (λ (l : List ℕ). more.front ++ l) (sym left));
            passes = both (p x) (list_all p more.front) c more.passes;
          }
      | inr c ↦ record { front = []; whole = sym (if-false (p x) (skip p xs) (x ∷ xs) c); passes = refl }
    ]

-- the first byte that is left does not pass
abbrev Halts : (ℕ → Bool) → List ℕ → Type 0
Halts p [] = ⊤
Halts p (x ∷ xs) = p x ≡ false

halts : (p : ℕ → Bool) (xs : List ℕ) → Halts p (skip p xs)
halts p [] = tt
halts p (x ∷ xs) =
    elim (cases_Bool (p x)) [
      | inl c ↦ subst (Halts p) (sym (if-true (p x) (skip p xs) (x ∷ xs) c)) (halts p xs)
      | inr c ↦ subst (Halts p) (sym (if-false (p x) (skip p xs) (x ∷ xs) c)) c
    ]

cut-length : (xs front rest : List ℕ) → xs ≡ front ++ rest → length xs - length rest ≡ length front
cut-length xs front rest e = let n = ap length e in omega (arith, length-append front rest)

cut-back : (xs front rest : List ℕ) → xs ≡ front ++ rest → drop (length xs - length rest) xs ≡ rest
cut-back xs front rest e = ap (λ (n : ℕ). drop n xs) (cut-length xs front rest e) ∙ (ap (λ (l : List ℕ). drop (length front) l) e ∙ drop_at front rest (length front) refl)

cut-front : (xs front rest : List ℕ) → xs ≡ front ++ rest → take (length xs - length rest) xs ≡ front
cut-front xs front rest e = ap (λ (n : ℕ). take n xs) (cut-length xs front rest e) ∙ (ap (λ (l : List ℕ). take (length front) l) e ∙ take_at front rest (length front) refl)

pub skip-cut : (p : ℕ → Bool) (xs : List ℕ) → drop (length xs - length (skip p xs)) xs ≡ skip p xs
skip-cut p xs = let s = skips p xs in cut-back xs s.front (skip p xs) s.whole

pub space-ascii : (x : ℕ) → is_space x ≡ true → x < 128
space-ascii x e = grind (arith, nat_tests)

-- The text can be cut behind the spaces at its front.
pub gap-boundary : (xs : List ℕ) → IsUtf8 xs → IsCharBoundary xs (length xs - length (skip is_space xs))
gap-boundary xs utf8 =
    let s = skips is_space xs in
    subst (λ (n : ℕ). IsCharBoundary xs n) (sym (cut-length xs s.front (skip is_space xs) s.whole)) (behind s.front (skip is_space xs) s.whole s.passes) where
      behind : (front rest : List ℕ) → xs ≡ front ++ rest → list_all is_space front ≡ true → IsCharBoundary xs (length front)
      behind [] rest e h = IsCharBoundary-start xs utf8
      behind (x ∷ front) rest e h =
          let n = ap length e in
          let last : is_space (get_or xs (length front) 0) ≡ true = subst (λ (l : List ℕ). is_space (get_or l (length front) 0) ≡ true) (sym e) (all-at is_space (x ∷ front) rest (length front) h (omega arith)) in
          let plus : length front + 1 ≡ suc (length front) = omega arith in
          subst (λ (k : ℕ). IsCharBoundary xs k) plus (IsCharBoundary-after_ascii xs (length front) utf8 (omega (arith, length-append (x ∷ front) rest)) (space-ascii (get_or xs (length front) 0) last))

no-ink : (x : ℕ) → is_ink x ≡ false → is_space x ≡ true
no-ink x e = denied (is_space x) e where
  denied : (b : Bool) → not b ≡ false → b ≡ true
  denied true k = refl
  denied false k = absurd cc

stops : (rest : List ℕ) → Halts is_ink rest → Stops rest
stops [] h = tt
stops (x ∷ rest) h = no-ink x h

-- The text can be cut behind the word at its front.
pub word-boundary : (xs : List ℕ) → IsCharBoundary xs (length xs - length (skip is_ink xs))
word-boundary xs =
    let s = skips is_ink xs in
    subst (λ (n : ℕ). IsCharBoundary xs n) (sym (cut-length xs s.front (skip is_ink xs) s.whole)) (before s.front (skip is_ink xs) s.whole (stops (skip is_ink xs) (halts is_ink xs))) where
      before : (front rest : List ℕ) → xs ≡ front ++ rest → Stops rest → IsCharBoundary xs (length front)
      before front [] e h = subst (λ (l : List ℕ). IsCharBoundary xs (length l)) (e ∙ append-nil front) (IsCharBoundary-end xs)
      before front (x ∷ rest) e h =
          let n = ap length e in
          let byte : get_or xs (length front) 0 ≡ x = ap (λ (l : List ℕ). get_or l (length front) 0) e ∙ get_or_at front x rest 0 (length front) refl in
          let ascii = space-ascii x h in
          IsCharBoundary-before_ascii xs (length front) (omega (arith, length-append front (x ∷ rest))) (omega arith)

pub no-word : (xs : List ℕ) → skip is_space xs ≡ [] → (gap : List ℕ) × (words xs ≡ spaces gap)
no-word xs e =
    let s = skips is_space xs in
    let whole : xs ≡ s.front = s.whole ∙ (ap (λ (l : List ℕ). s.front ++ l) e ∙ append-nil s.front) in
    (s.front, ap words whole ∙ gap-end s.front s.passes)

first-of : (xs ys : List ℕ) → Halts is_space ys → (ys ≡ [] → ⊥) → words ys ≡ word [] (take (length ys - length (skip is_ink ys)) ys) (words (drop (length ys - length (skip is_ink ys)) ys))
first-of xs ys h some =
    let s = skips is_ink ys in
    at s.front (skip is_ink ys) s.whole s.passes (stops (skip is_ink ys) (halts is_ink ys)) h
    ∙ ap (λ (l : List ℕ). word [] l (words (skip is_ink ys))) (sym (cut-front ys s.front (skip is_ink ys) s.whole))
    ∙ ap (λ (l : List ℕ). word [] (take (length ys - length (skip is_ink ys)) ys) (words l)) (sym (cut-back ys s.front (skip is_ink ys) s.whole)) where
      at : (front rest : List ℕ) → ys ≡ front ++ rest → list_all is_ink front ≡ true → Stops rest → Halts is_space ys → words ys ≡ word [] front (words rest)
      at [] [] e p q k = absurd (some e)
      at [] (x ∷ rest) e p q k = let starts : is_space x ≡ false = subst (Halts is_space) e k in absurd (let wrong : true ≡ false = sym q ∙ starts in cc)
      at (x ∷ front) rest e p q k = ap words e ∙ word-over x front rest p q

-- the first word and what is behind it, where something is left behind the spaces
pub first-word : (xs ys : List ℕ) → ys ≡ skip is_space xs → (ys ≡ [] → ⊥) → IsFirst xs (take (length ys - length (skip is_ink ys)) ys) (drop (length ys - length (skip is_ink ys)) ys)
first-word xs ys e some =
    let s = skips is_space xs in
    let halted : Halts is_space ys = subst (Halts is_space) (sym e) (halts is_space xs) in
    record {
      gap = s.front;
      are = ap words (s.whole ∙ ap (λ (l : List ℕ). s.front ++ l) (sym e)) ∙ gap-over s.front ys (take (length ys - length (skip is_ink ys)) ys) (words (drop (length ys - length (skip is_ink ys)) ys)) s.passes (first-of xs ys halted some);
    }

pub empty-is : (xs : List ℕ) → nat_eq (length xs) 0 ≡ true → xs ≡ []
empty-is [] e = refl
empty-is (x ∷ xs) e = absurd (let wrong : suc (length xs) ≡ 0 = grind (arith, nat_tests) in omega arith)

pub not-empty : (xs : List ℕ) → nat_eq (length xs) 0 ≡ false → xs ≡ [] → ⊥
not-empty xs e none = let wrong : false ≡ true = sym e ∙ ap (λ (l : List ℕ). nat_eq (length l) 0) none in cc

-- the same, by what two calls gave
pub first-given : (xs ys rest front back : List ℕ) → ys ≡ skip is_space xs → (ys ≡ [] → ⊥) → rest ≡ skip is_ink ys → front ≡ take (length ys - length rest) ys → back ≡ drop (length ys - length rest) ys → IsFirst xs front back
first-given xs ys rest front back e some left f b =
    let at = ap (λ (r : List ℕ). length ys - length r) left in
    subst (λ (l : List ℕ). IsFirst xs l back) (sym (f ∙ ap (λ (n : ℕ). take n ys) at))
    (subst (λ (l : List ℕ). IsFirst xs (take (length ys - length (skip is_ink ys)) ys) l) (sym (b ∙ ap (λ (n : ℕ). drop n ys) at)) (first-word xs ys e some))
