-- Lines and line feeds.
use Rattle.std.proofs.Common.{◌≡◌, ℕ, ◌≤◌, ◌<◌, true, false, List, [], ◌∷◌, ◌++◌, length, Option, Some, None, refl, sym, ap, ◌∙◌, arith, inl, inr}
use Rattle.std.specs.Prelude.{nat_eq, nat_lt}
use Rattle.std.specs.List.{slice_split, before_first, after_first, position_or_len}
use Rattle.std.proofs.lemmas.Bool.{cases_Bool}
use Rattle.std.proofs.lemmas.Bool.Decides.{nat_tests}
use Rattle.std.proofs.lemmas.List.{take_all}
use Rattle.std.proofs.lemmas.List.Splits.{slice_split_first, slice_split_none}
use Rattle.std.proofs.lemmas.List.Sums.{fails_before_first}
use Rattle.rnv_docker.specs.Lines.{lines}
use Rattle.rnv_docker.specs.Read.{behind_feed, lines_of}
use Rattle.rnv_docker.proofs.Bools.{if-true, if-false}

-- the first line, and those behind it
pub first-line : (text : List ℕ) → lines text ≡ before_first (λ x. nat_eq x 10) text ∷ lines_of (behind_feed text)
first-line text =
    let n = position_or_len (λ x. nat_eq x 10) text in
    elim (cases_Bool (nat_lt n (length text))) [
      | inl c ↦
          let lt : n < length text = grind (arith, nat_tests) in
          slice_split_first (λ x. nat_eq x 10) text 0 lt
          ∙ ap (λ (o : Option (List ℕ)). before_first (λ x. nat_eq x 10) text ∷ lines_of o) (sym (if-true (nat_lt n (length text)) (Some (after_first (λ x. nat_eq x 10) text)) None c))
      | inr c ↦
          let le : length text ≤ n = grind (arith, nat_tests) in
          slice_split_none (λ x. nat_eq x 10) text (λ k d lt. fails_before_first (λ x. nat_eq x 10) text k d (omega arith))
          ∙ (ap (λ (l : List ℕ). l ∷ []) (sym (take_all n text le))
          ∙ ap (λ (o : Option (List ℕ)). before_first (λ x. nat_eq x 10) text ∷ lines_of o) (sym (if-false (nat_lt n (length text)) (Some (after_first (λ x. nat_eq x 10) text)) None c)))
    ]
