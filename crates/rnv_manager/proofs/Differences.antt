-- The first difference of two lists of finds.
use Rattle.std.proofs.Common.{◌≡◌, ℕ, zero, suc, ◌+◌, ◌<◌, List, [], ◌∷◌, ◌++◌, length, take, get_or, None, sym, ap, subst, ◌∙◌, arith}
use Rattle.std.specs.Prelude.{slice_get}
use Rattle.std.proofs.lemmas.List.{take-map, map_more}
use Rattle.std.proofs.lemmas.Option.{slice_get_past, slice_get-map}
use Rattle.rnv_manager.specs.declared.found.Found.{Found}
use Rattle.rnv_manager.specs.Finds.{Find, view, views}
use Rattle.rnv_manager.specs.Edits.{IsFirstDifference}

front-more : (xs : List Found) (i : ℕ) (d : Found) → i < length xs → take (i + 1) (views xs) ≡ take i (views xs) ++ view (get_or xs i d) ∷ []
front-more xs i d lt = take-map view (i + 1) xs ∙ (map_more view xs i d lt ∙ ap (λ (l : List Find). l ++ view (get_or xs i d) ∷ []) (sym (take-map view i xs)))

pub same-more : (xs ys : List Found) (i : ℕ) (d y : Found) → take i (views xs) ≡ take i (views ys) → i < length xs → i < length ys → y ≡ get_or ys i y → view (get_or xs i d) ≡ view y → take (i + 1) (views xs) ≡ take (i + 1) (views ys)
same-more xs ys i d y same in-xs in-ys here e =
    front-more xs i d in-xs
    ∙ (ap (λ (l : List Find). l ++ view (get_or xs i d) ∷ []) same ∙ (ap (λ (f : Find). take i (views ys) ++ f ∷ []) (e ∙ ap view here) ∙ sym (front-more ys i y in-ys)))

some-within : (ys : List Found) (i : ℕ) → i < length ys → slice_get (views ys) i ≡ None → ⊥
some-within [] i lt e = absurd (omega arith)
some-within (y ∷ ys) zero lt e = absurd cc
some-within (y ∷ ys) (suc i) lt e = some-within ys i (omega arith) e

past : (xs : List Found) → slice_get (views xs) (length xs) ≡ None
past xs =
    let none = slice_get-map view xs (length xs) in
    let end = slice_get_past xs (length xs) (omega arith) in
    cc

pub differs-at-end : (xs ys : List Found) (i : ℕ) → i ≡ length xs → take i (views xs) ≡ take i (views ys) → length xs < length ys → IsFirstDifference (views xs) (views ys) (length xs)
differs-at-end xs ys i at same lt = record {
  same = subst (λ (k : ℕ). take k (views xs) ≡ take k (views ys)) at same;
  differs = λ e. some-within ys (length xs) lt (sym e ∙ past xs);
}
