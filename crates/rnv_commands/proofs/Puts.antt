-- What is found by a name after one is put.
use Rattle.std.proofs.Common.{◌≡◌, ℕ, false, cond, List, [], ◌∷◌, Some, refl, sym, ap, ◌∙◌}
use Rattle.std.specs.Str.{bytes_eq}
use Rattle.std.specs.declared.cmp.Ordering.TheVariants.{Less, Equal, Greater}
use Rattle.rnv_repo.specs.Named.{at, put, put_beside}
use Rattle.rnv_repo.proofs.Texts.{cmp, bytes_refl, bytes_true, greater_back, less_other, same_texts}

module _ {X : Type 0} (key : X → List ℕ) (x : X) where
  first : (more : List X) → at key (key x) (x ∷ more) ≡ Some x
  first more = ap (λ t. cond t (Some x) (at key (key x) more)) (bytes_refl (key x))

  -- the one that was put
  pub at_put : (xs : List X) → at key (key x) (put key x xs) ≡ Some x
  at_put [] = first []
  at_put (y ∷ ys) =
      elim (cmp (key x) (key y)) as (λ o. cmp (key x) (key y) ≡ o → at key (key x) (put_beside o x y ys (put key x ys)) ≡ Some x) [
        | Less ↦ λ is. first (y ∷ ys)
        | Equal ↦ λ is. first ys
        | Greater ↦ λ is. ap (λ t. cond t (Some y) (at key (key x) (put key x ys))) (less_other (key y) (key x) (greater_back (key x) (key y) is)) ∙ at_put ys
      ] refl

  passed : (name : List ℕ) (more : List X) → bytes_eq (key x) name ≡ false → at key name (x ∷ more) ≡ at key name more
  passed name more other = ap (λ t. cond t (Some x) (at key name more)) other

  -- one of another name
  pub at_other : (name : List ℕ) (xs : List X) → bytes_eq (key x) name ≡ false → at key name (put key x xs) ≡ at key name xs
  at_other name [] other = passed name [] other
  at_other name (y ∷ ys) other =
      elim (cmp (key x) (key y)) as (λ o. cmp (key x) (key y) ≡ o → at key name (put_beside o x y ys (put key x ys)) ≡ at key name (y ∷ ys)) [
        | Less ↦ λ is. passed name (y ∷ ys) other
        | Equal ↦ λ is.
            let same : key x ≡ key y = bytes_true (key x) (key y) (same_texts (key x) (key y) is) in
            let also : bytes_eq (key y) name ≡ false = ap (λ k. bytes_eq k name) (sym same) ∙ other in
            passed name ys other ∙ sym (ap (λ t. cond t (Some y) (at key name ys)) also)
        | Greater ↦ λ is. ap (λ o. cond (bytes_eq (key y) name) (Some y) o) (at_other name ys other)
      ] refl
