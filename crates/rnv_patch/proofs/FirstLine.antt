-- The first line of a text ends with its first line feed, or it is the whole text.
use Rattle.std.proofs.Common.{◌≡◌, ◌∙◌, ℕ, zero, suc, ◌+◌, ◌<◌, ◌≤◌, ◌==◌, nat_lt, Some, None, List, [], ◌∷◌, length, take, drop, refl, sym, ap, arith, inl, inr}
use Rattle.std.specs.List.{concat, position, position_or_len}
use Rattle.std.proofs.lemmas.Bool.{cases_Bool, eqb-true, ltb-true, ltb-false}
use Rattle.rnv_patch.specs.Lines.{lines, with_front}

abbrev feed_at : List ℕ → ℕ
feed_at text = position_or_len (λ b. b == 10) text

ended : (text : List ℕ) (n : ℕ) → feed_at text ≡ n → n < length text → lines text ≡ take (suc n) text ∷ lines (drop (suc n) text)
ended [] n e h = absurd (omega arith)
ended (b ∷ bs) zero e h = elim (cases_Bool (b == 10)) [
  | inl hit ↦ rw hit (ap (λ (x : ℕ). (x ∷ []) ∷ lines bs) (sym (eqb-true b 10 hit)))
  | inr miss ↦ let e' = rw miss at e in absurd (omega (arith, e'))
]
ended (b ∷ bs) (suc n) e h = elim (cases_Bool (b == 10)) [
  | inl hit ↦ let e' = rw hit at e in absurd (omega (arith, e'))
  | inr miss ↦ let e' = rw miss at e in rw miss (ap (with_front b) (ended bs n (omega (arith, e')) (omega (arith, h))))
]

take_whole : (text : List ℕ) → take (length text) text ≡ text
take_whole [] = refl
take_whole (b ∷ bs) = ap (λ t. b ∷ t) (take_whole bs)

drop_whole : (text : List ℕ) → drop (length text) text ≡ []
drop_whole [] = refl
drop_whole (b ∷ bs) = drop_whole bs

whole : (b : ℕ) (bs : List ℕ) → length (b ∷ bs) ≤ feed_at (b ∷ bs) → lines (b ∷ bs) ≡ (b ∷ bs) ∷ []
whole b [] h = elim (cases_Bool (b == 10)) [
  | inl hit ↦ let h' = rw hit at h in absurd (omega (arith, h'))
  | inr miss ↦ rw miss refl
]
whole b (c ∷ bs) h = elim (cases_Bool (b == 10)) [
  | inl hit ↦ let h' = rw hit at h in absurd (omega (arith, h'))
  | inr miss ↦ let h' = rw miss at h in rw miss (ap (with_front b) (whole c bs (omega (arith, h'))))
]

pub first_ended : (text : List ℕ) (n : ℕ) → position (λ b. b == 10) text ≡ Some n → (n < length text) × (lines text ≡ take (n + 1) text ∷ lines (drop (n + 1) text))
first_ended text n e = elim (cases_Bool (nat_lt (feed_at text) (length text))) [
  | inl hit ↦
      let e' : Some (feed_at text) ≡ Some n = rw hit at e in
      let same : feed_at text ≡ n = cc in
      let below : feed_at text < length text = ltb-true (feed_at text) (length text) hit in
      let more : suc n ≡ n + 1 = omega arith in
      (omega arith, ended text n same (omega arith) ∙ ap (λ (k : ℕ). take k text ∷ lines (drop k text)) more)
  | inr miss ↦ let e' : None ≡ Some n = rw miss at e in absurd cc
]

pub one_line : (text : List ℕ) → position (λ b. b == 10) text ≡ None → 0 < length text → lines text ≡ take (length text) text ∷ lines (drop (length text) text)
one_line [] e h = absurd (omega arith)
one_line (b ∷ bs) e h = elim (cases_Bool (nat_lt (feed_at (b ∷ bs)) (length (b ∷ bs)))) [
  | inl hit ↦ let e' : Some (feed_at (b ∷ bs)) ≡ None = rw hit at e in absurd cc
  | inr miss ↦
      let above : length (b ∷ bs) ≤ feed_at (b ∷ bs) = ltb-false (feed_at (b ∷ bs)) (length (b ∷ bs)) miss in
      whole b bs above ∙ (λ i. sym (take_whole (b ∷ bs)) i ∷ lines (sym (drop_whole (b ∷ bs)) i))
]

fronted : (b : ℕ) (ls : List (List ℕ)) → concat (with_front b ls) ≡ b ∷ concat ls
fronted b [] = refl
fronted b (l ∷ ls) = refl

-- the lines make the text
pub lines_make : (text : List ℕ) → concat (lines text) ≡ text
lines_make [] = refl
lines_make (b ∷ bs) = elim (cases_Bool (b == 10)) [
  | inl hit ↦ rw hit ((λ i. sym (eqb-true b 10 hit) i ∷ lines_make bs i))
  | inr miss ↦ rw miss (fronted b (lines bs) ∙ ap (λ t. b ∷ t) (lines_make bs))
]
