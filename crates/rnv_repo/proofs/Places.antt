-- Places in a list that rises: how many of it are below a name.
use Rattle.std.proofs.Common.{◌≡◌, ℕ, zero, suc, ◌+◌, ◌<◌, ◌≤◌, Bool, true, false, cond, not, List, [], ◌∷◌, length, get_or, Some, refl, sym, ap, ◌∙◌, arith}
use Rattle.std.specs.Prelude.{is_some}
use Rattle.std.specs.List.{AllByRecursion, prefix_len, remove}
use Rattle.std.specs.List.Sorted.{IsStrictlySortedBy, IsPartitionPoint}
use Rattle.std.specs.Str.{bytes_eq}
use Rattle.std.specs.declared.cmp.Ordering.{Ordering}
use Rattle.std.specs.declared.cmp.Ordering.TheVariants.{Less, Equal, Greater}
use Rattle.std.specs.Ordering.{is_lt}
use Rattle.std.proofs.lemmas.Bool.{false_from_ne_true}
use Rattle.std.proofs.lemmas.Cmp.{nat_list_cmp_total}
use Rattle.rnv_repo.specs.Named.{IsRisingBy, at, without}
use Rattle.rnv_repo.proofs.Merges.{at_none, without_none}
use Rattle.rnv_repo.proofs.Texts.{cmp, less_other, same_texts, greater_back, greater_other, all_weaker}

pub each_at : {X : Type 0} (P : X → Type 0) (xs : List X) (k : ℕ) (d : X) → AllByRecursion P xs → k < length xs → P (get_or xs k d)
each_at P [] k d a lt = absurd (omega arith)
each_at P (x ∷ xs) zero d a lt = a.0
each_at P (x ∷ xs) (suc k) d a lt = each_at P xs k d a.1 (omega arith)

-- so many pass a test from the front on, where those pass it and the others do not
pub count_of_point : {X : Type 0} (p : X → Bool) (xs : List X) (i : ℕ) → i ≤ length xs → IsPartitionPoint (λ y. p y ≡ true) (λ y. p y ≡ false) xs i → i ≡ prefix_len p xs
count_of_point p [] i within point = omega arith
count_of_point p (x ∷ xs) zero within point = sym (ap (λ b. cond b (1 + prefix_len p xs) 0) (point.1 0 x (omega arith) (omega arith)))
count_of_point p (x ∷ xs) (suc i) within point =
    let more = count_of_point p xs i (omega arith) (λ k d low high. point.0 (suc k) d (omega arith) (omega arith), λ k d low high. point.1 (suc k) d (omega arith) (omega arith)) in
    let one : suc i ≡ 1 + prefix_len p xs = omega arith in
    one ∙ sym (ap (λ b. cond b (1 + prefix_len p xs) 0) (point.0 0 x (omega arith) (omega arith)))

is_less : (o : Ordering) → is_lt o ≡ true → o ≡ Less
is_less Less e = refl
is_less Equal e = cc
is_less Greater e = cc

-- no element below a name comes behind one that is not
pub below_in_front : {X : Type 0} (key : X → List ℕ) (name : List ℕ) (xs : List X) → IsRisingBy key xs → (i j : ℕ) (d : X) → i ≤ j → j < length xs → is_lt (cmp (key (get_or xs j d)) name) ≡ true → is_lt (cmp (key (get_or xs i d)) name) ≡ true
unfolding IsStrictlySortedBy
below_in_front key name [] r i j d le lt below = absurd (omega arith)
below_in_front key name (x ∷ xs) r zero zero d le lt below = below
below_in_front key name (x ∷ xs) r zero (suc j) d le lt below =
    let first : cmp (key x) (key (get_or xs j d)) ≡ Less = each_at (λ y. cmp (key x) (key y) ≡ Less) xs j d r.0 (omega arith) in
    ap is_lt (nat_list_cmp_total.trans (key x) (key (get_or xs j d)) name first (is_less _ below))
below_in_front key name (x ∷ xs) r (suc i) zero d le lt below = absurd (omega arith)
below_in_front key name (x ∷ xs) r (suc i) (suc j) d le lt below = below_in_front key name xs r.1 i j d (omega arith) (omega arith) below

above_all : {X : Type 0} (key : X → List ℕ) (name : List ℕ) (y : X) (ys : List X) → cmp name (key y) ≡ Less → IsRisingBy key (y ∷ ys) → AllByRecursion (λ x. cmp name (key x) ≡ Less) ys
unfolding IsStrictlySortedBy
above_all key name y ys is r = all_weaker (λ z. cmp (key y) (key z) ≡ Less) _ (λ z k. nat_list_cmp_total.trans name (key y) (key z) is k) ys r.0

same_above : {X : Type 0} (key : X → List ℕ) (name : List ℕ) (y : X) (ys : List X) → cmp (key y) name ≡ Equal → IsRisingBy key (y ∷ ys) → AllByRecursion (λ x. cmp name (key x) ≡ Less) ys
unfolding IsStrictlySortedBy
same_above key name y ys is r = all_weaker (λ z. cmp (key y) (key z) ≡ Less) _ (λ z k. sym (nat_list_cmp_total.congr (key y) name (key z) is) ∙ k) ys r.0

-- the element of a name is the one behind those below it
pub found_at : {X : Type 0} (key : X → List ℕ) (name : List ℕ) (xs : List X) (n : ℕ) (b : Bool) → IsRisingBy key xs → n ≡ prefix_len (λ y. is_lt (cmp (key y) name)) xs
    → (b ≡ true → n < length xs) → ((d : X) → n < length xs → bytes_eq (key (get_or xs n d)) name ≡ b) → b ≡ is_some (at key name xs)
unfolding IsStrictlySortedBy
found_at key name [] n b r count within same = false_from_ne_true b (λ t. let lt = within t in absurd (omega arith))
found_at key name (y ∷ ys) n b r count within same =
    elim (cmp (key y) name) as (λ o. cmp (key y) name ≡ o → n ≡ cond (is_lt o) (1 + prefix_len (λ z. is_lt (cmp (key z) name)) ys) 0 → b ≡ is_some (at key name (y ∷ ys))) [
      | Less ↦ λ is e.
          let m = prefix_len (λ z. is_lt (cmp (key z) name)) ys in
          let next : n ≡ suc m = omega arith in
          let found = found_at key name ys m b r.1 refl (λ t. let lt = within t in omega arith) (λ d lt. rw next at (same d (omega arith))) in
          found ∙ sym (ap (λ t. is_some (cond t (Some y) (at key name ys))) (less_other (key y) name is))
      | Equal ↦ λ is e.
          let here : bytes_eq (key y) name ≡ b = rw e at (same y (omega arith)) in
          sym here ∙ same_texts (key y) name is ∙ sym (ap (λ t. is_some (cond t (Some y) (at key name ys))) (same_texts (key y) name is))
      | Greater ↦ λ is e.
          let here : bytes_eq (key y) name ≡ b = rw e at (same y (omega arith)) in
          let above = greater_back (key y) name is in
          sym here ∙ greater_other (key y) name is ∙ sym (ap is_some (at_none key name (y ∷ ys) (above, above_all key name y ys above r)))
    ] refl count

pub without_place : {X : Type 0} (key : X → List ℕ) (name : List ℕ) (xs : List X) (n : ℕ) → IsRisingBy key xs → n ≡ prefix_len (λ y. is_lt (cmp (key y) name)) xs
    → n < length xs → ((d : X) → bytes_eq (key (get_or xs n d)) name ≡ true) → without key name xs ≡ remove xs n
unfolding IsStrictlySortedBy
without_place key name [] n r count within same = absurd (omega arith)
without_place key name (y ∷ ys) n r count within same =
    elim (cmp (key y) name) as (λ o. cmp (key y) name ≡ o → n ≡ cond (is_lt o) (1 + prefix_len (λ z. is_lt (cmp (key z) name)) ys) 0 → without key name (y ∷ ys) ≡ remove (y ∷ ys) n) [
      | Less ↦ λ is e.
          let m = prefix_len (λ z. is_lt (cmp (key z) name)) ys in
          let next : n ≡ suc m = omega arith in
          let more = without_place key name ys m r.1 refl (omega arith) (λ d. rw next at (same d)) in
          ap (λ t. cond (not t) (y ∷ without key name ys) (without key name ys)) (less_other (key y) name is) ∙ ap (λ l. y ∷ l) more ∙ ap (λ k. remove (y ∷ ys) k) (sym next)
      | Equal ↦ λ is e.
          ap (λ t. cond (not t) (y ∷ without key name ys) (without key name ys)) (same_texts (key y) name is) ∙ without_none key name ys (same_above key name y ys is r) ∙ ap (λ k. remove (y ∷ ys) k) (sym e)
      | Greater ↦ λ is e.
          let here : bytes_eq (key y) name ≡ true = rw e at (same y) in
          let other = greater_other (key y) name is in
          absurd (cc (here, other))
    ] refl count

pub without_other : {X : Type 0} (key : X → List ℕ) (name : List ℕ) (xs : List X) (n : ℕ) → IsRisingBy key xs → n ≡ prefix_len (λ y. is_lt (cmp (key y) name)) xs
    → ((d : X) → n < length xs → bytes_eq (key (get_or xs n d)) name ≡ false) → without key name xs ≡ xs
unfolding IsStrictlySortedBy
without_other key name [] n r count other = refl
without_other key name (y ∷ ys) n r count other =
    elim (cmp (key y) name) as (λ o. cmp (key y) name ≡ o → n ≡ cond (is_lt o) (1 + prefix_len (λ z. is_lt (cmp (key z) name)) ys) 0 → without key name (y ∷ ys) ≡ y ∷ ys) [
      | Less ↦ λ is e.
          let m = prefix_len (λ z. is_lt (cmp (key z) name)) ys in
          let next : n ≡ suc m = omega arith in
          let more = without_other key name ys m r.1 refl (λ d lt. rw next at (other d (omega arith))) in
          ap (λ t. cond (not t) (y ∷ without key name ys) (without key name ys)) (less_other (key y) name is) ∙ ap (λ l. y ∷ l) more
      | Equal ↦ λ is e.
          let here : bytes_eq (key y) name ≡ false = rw e at (other y (omega arith)) in
          let same = same_texts (key y) name is in
          absurd (cc (here, same))
      | Greater ↦ λ is e.
          let above = greater_back (key y) name is in
          without_none key name (y ∷ ys) (above, above_all key name y ys above r)
    ] refl count

-- the same, as the code does it: on the vector that held the list

pub removal_leaves : {X : Type 0} (key : X → List ℕ) (name : List ℕ) (xs items seen again after : List X) (n : ℕ) → items ≡ xs → seen ≡ items → again ≡ items → IsRisingBy key xs
    → n ≡ prefix_len (λ y. is_lt (cmp (key y) name)) seen → n < length again → ((d : X) → bytes_eq (key (get_or again n d)) name ≡ true) → after ≡ remove items n → after ≡ without key name xs
removal_leaves {X = X} key name xs items seen again after n held first second r count within same is =
    let count' : n ≡ prefix_len (λ y. is_lt (cmp (key y) name)) xs = count ∙ ap (prefix_len (λ y. is_lt (cmp (key y) name))) (first ∙ held) in
    let whole : again ≡ xs = second ∙ held in
    let within' : n < length xs = rw whole at within in
    let same' : (d : X) → bytes_eq (key (get_or xs n d)) name ≡ true = λ d. let one = same d in rw whole at one in
    is ∙ ap (λ l. remove l n) held ∙ sym (without_place key name xs n r count' within' same')

pub nothing_leaves : {X : Type 0} (key : X → List ℕ) (name : List ℕ) (xs items seen again after : List X) (n : ℕ) → items ≡ xs → seen ≡ items → again ≡ items → IsRisingBy key xs
    → n ≡ prefix_len (λ y. is_lt (cmp (key y) name)) seen → ((d : X) → n < length again → bytes_eq (key (get_or again n d)) name ≡ false) → after ≡ items → after ≡ without key name xs
nothing_leaves {X = X} key name xs items seen again after n held first second r count other is =
    let count' : n ≡ prefix_len (λ y. is_lt (cmp (key y) name)) xs = count ∙ ap (prefix_len (λ y. is_lt (cmp (key y) name))) (first ∙ held) in
    let whole : again ≡ xs = second ∙ held in
    let other' : (d : X) → n < length xs → bytes_eq (key (get_or xs n d)) name ≡ false = rw whole at other in
    is ∙ held ∙ sym (without_other key name xs n r count' other')
