-- Where `put` puts.
use Rattle.std.proofs.Common.{◌≡◌, ℕ, suc, ◌+◌, ◌<◌, true, false, cond, List, [], ◌∷◌, length, get_or, set, refl, sym, ap, ◌∙◌, arith}
use Rattle.std.specs.List.{insert, prefix_len}
use Rattle.std.specs.Str.{bytes_eq}
use Rattle.std.specs.declared.cmp.Ordering.TheVariants.{Less, Equal, Greater}
use Rattle.std.specs.Ordering.{is_lt}
use Rattle.rnv_repo.specs.Named.{put, put_beside}
use Rattle.rnv_repo.proofs.Texts.{cmp, less_back, equal_back, greater_back, same_texts, greater_other}

-- behind those below it: in place of the one of its name, or before the others
pub put_same : {X : Type 0} (key : X → List ℕ) (x : X) (xs : List X) (n : ℕ) → n ≡ prefix_len (λ y. is_lt (cmp (key y) (key x))) xs → n < length xs → bytes_eq (key (get_or xs n x)) (key x) ≡ true → put key x xs ≡ set xs n x
put_same key x [] n count within same = absurd (omega arith)
put_same key x (y ∷ ys) n count within same =
    elim (cmp (key y) (key x)) as (λ o. cmp (key y) (key x) ≡ o → n ≡ cond (is_lt o) (1 + prefix_len (λ z. is_lt (cmp (key z) (key x))) ys) 0 → put key x (y ∷ ys) ≡ set (y ∷ ys) n x) [
      | Less ↦ λ is e.
          let m = prefix_len (λ z. is_lt (cmp (key z) (key x))) ys in
          let next : n ≡ suc m = omega arith in
          let same' : bytes_eq (key (get_or ys m x)) (key x) ≡ true = rw next at same in
          let within' : m < length ys = omega arith in
          ap (λ o. put_beside o x y ys (put key x ys)) (less_back (key y) (key x) is) ∙ ap (λ l. y ∷ l) (put_same key x ys m refl within' same') ∙ ap (λ k. set (y ∷ ys) k x) (sym next)
      | Equal ↦ λ is e. ap (λ o. put_beside o x y ys (put key x ys)) (equal_back (key y) (key x) is) ∙ ap (λ k. set (y ∷ ys) k x) (sym e)
      | Greater ↦ λ is e.
          let other = greater_other (key y) (key x) is in
          let same' : bytes_eq (key y) (key x) ≡ true = rw e at same in
          absurd (cc (other, same'))
    ] refl count

pub put_other : {X : Type 0} (key : X → List ℕ) (x : X) (xs : List X) (n : ℕ) → n ≡ prefix_len (λ y. is_lt (cmp (key y) (key x))) xs → (n < length xs → bytes_eq (key (get_or xs n x)) (key x) ≡ false) → put key x xs ≡ insert xs n x
put_other key x [] n count other = ap (λ k. insert [] k x) (sym count)
put_other key x (y ∷ ys) n count other =
    elim (cmp (key y) (key x)) as (λ o. cmp (key y) (key x) ≡ o → n ≡ cond (is_lt o) (1 + prefix_len (λ z. is_lt (cmp (key z) (key x))) ys) 0 → put key x (y ∷ ys) ≡ insert (y ∷ ys) n x) [
      | Less ↦ λ is e.
          let m = prefix_len (λ z. is_lt (cmp (key z) (key x))) ys in
          let next : n ≡ suc m = omega arith in
          let other' : m < length ys → bytes_eq (key (get_or ys m x)) (key x) ≡ false = λ lt. rw next at (other (omega arith)) in
          ap (λ o. put_beside o x y ys (put key x ys)) (less_back (key y) (key x) is) ∙ ap (λ l. y ∷ l) (put_other key x ys m refl other') ∙ ap (λ k. insert (y ∷ ys) k x) (sym next)
      | Equal ↦ λ is e.
          let here : n < length (y ∷ ys) = omega arith in
          let other' : bytes_eq (key y) (key x) ≡ false = rw e at (other here) in
          absurd (cc (other', same_texts (key y) (key x) is))
      | Greater ↦ λ is e. ap (λ o. put_beside o x y ys (put key x ys)) (greater_back (key y) (key x) is) ∙ ap (λ k. insert (y ∷ ys) k x) (sym e)
    ] refl count

-- the same, as the code does it: on the vector that held the list, with a copy

pub set_puts : {X : Type 0} (key : X → List ℕ) (x copy : X) (xs items seen again after : List X) (n : ℕ) → items ≡ xs → seen ≡ items → again ≡ items → n ≡ prefix_len (λ y. is_lt (cmp (key y) (key x))) seen
    → n < length again → bytes_eq (key (get_or again n x)) (key x) ≡ true → copy ≡ x → after ≡ set items n copy → after ≡ put key x xs
set_puts key x copy xs items seen again after n held first second count within same copied is =
    let count' : n ≡ prefix_len (λ y. is_lt (cmp (key y) (key x))) xs = count ∙ ap (prefix_len (λ y. is_lt (cmp (key y) (key x)))) (first ∙ held) in
    let whole : again ≡ xs = second ∙ held in
    let within' : n < length xs = rw whole at within in
    let same' : bytes_eq (key (get_or xs n x)) (key x) ≡ true = rw whole at same in
    is ∙ ap (set items n) copied ∙ ap (λ l. set l n x) held ∙ sym (put_same key x xs n count' within' same')

pub insert_puts : {X : Type 0} (key : X → List ℕ) (x copy : X) (xs items seen again after : List X) (n : ℕ) → items ≡ xs → seen ≡ items → again ≡ items → n ≡ prefix_len (λ y. is_lt (cmp (key y) (key x))) seen
    → (n < length again → bytes_eq (key (get_or again n x)) (key x) ≡ false) → copy ≡ x → after ≡ insert items n copy → after ≡ put key x xs
insert_puts key x copy xs items seen again after n held first second count other copied is =
    let count' : n ≡ prefix_len (λ y. is_lt (cmp (key y) (key x))) xs = count ∙ ap (prefix_len (λ y. is_lt (cmp (key y) (key x)))) (first ∙ held) in
    let whole : again ≡ xs = second ∙ held in
    let other' : n < length xs → bytes_eq (key (get_or xs n x)) (key x) ≡ false = rw whole at other in
    is ∙ ap (insert items n) copied ∙ ap (λ l. insert l n x) held ∙ sym (put_other key x xs n count' other')
