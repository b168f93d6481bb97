-- Lines and line feeds.
use Rattle.std.proofs.Common.{◌≡◌, ◌∙◌, ℕ, ◌+◌, ◌<◌, ◌≤◌, nat_lt, List, [], ◌∷◌, length, take, drop, Option, Some, None, sym, ap, arith, inl, inr}
use denote.Ref.{Bor}
use Rattle.std.specs.List.{position, position_or_len}
use Rattle.std.proofs.lemmas.Bool.{cases_Bool, cond-true, cond-false, ltb-true, ltb-false}
use Rattle.std.proofs.lemmas.List.Splits.{slice_split_first, slice_split_none}
use Rattle.std.proofs.lemmas.List.Sums.{fails_before_first}
use Rattle.rnv_release.specs.Lines.{is_feed, lines}

abbrev feed : List ℕ → ℕ
feed bytes = position_or_len is_feed bytes

some : (m n : ℕ) → Some m ≡ Some n → m ≡ n
some m n is = cc

-- the place of the first line feed, and the lines around it
pub feed-at : (bytes : List ℕ) (at : ℕ) → position is_feed bytes ≡ Some at → (at < length bytes) × (lines bytes ≡ take at bytes ∷ lines (drop (at + 1) bytes))
feed-at bytes at is = elim (cases_Bool (nat_lt (feed bytes) (length bytes))) [
  | inl here ↦
      let same = some (feed bytes) at (sym (cond-true _ _ _ here) ∙ is) in
      let below : feed bytes < length bytes = ltb-true (feed bytes) (length bytes) here in
      (omega arith, slice_split_first is_feed bytes 0 below ∙ ap (λ (n : ℕ). take n bytes ∷ lines (drop (n + 1) bytes)) same)
  | inr none ↦ let differ : None ≡ Some at = sym (cond-false _ _ _ none) ∙ is in absurd (cc)
]

-- a document without one is one line
pub no-feed : (bytes : List ℕ) → position is_feed bytes ≡ None → lines bytes ≡ bytes ∷ []
no-feed bytes is = elim (cases_Bool (nat_lt (feed bytes) (length bytes))) [
  | inl here ↦ let differ : Some (feed bytes) ≡ None = sym (cond-true _ _ _ here) ∙ is in absurd (cc)
  | inr none ↦
      let above : length bytes ≤ feed bytes = ltb-false (feed bytes) (length bytes) none in
      slice_split_none is_feed bytes (λ k d lt. fails_before_first is_feed bytes k d (omega arith))
]

-- how much of a document is left
abbrev pub left : Option (Bor (List ℕ)) → ℕ
left None = 0
left (Some rest) = length rest.now + 1
