-- Requests, whose numbers rise.
use Rattle.std.proofs.Common.{◌≡◌, ℕ, zero, suc, ◌+◌, ◌-◌, ◌<◌, ◌≤◌, Bool, true, false, cond, ◌&&◌, ◌||◌, eqb, ltb, eq-eqb, List, [], ◌∷◌, length, get_or, set, Some, None, refl, sym, ap, ◌∙◌, arith}
use Rattle.std.specs.Prelude.{slice_get}
use Rattle.std.specs.List.{AllByRecursion, prefix_len}
use Rattle.std.proofs.lemmas.Bool.{false_from_ne_true, eqb-true, ltb-true, ltb-false}
use Rattle.std.proofs.lemmas.Option.{slice_get-get_or}
use Rattle.rnv_repo.specs.declared.request.Request.{Request}
use Rattle.rnv_repo.specs.Requests.{is_live, is_live_number, greatest, at_number, IsApart, AreApart}
use Rattle.rnv_repo.proofs.Texts.{all_weaker}
use Rattle.rnv_repo.proofs.Places.{each_at}

-- the numbers rise

pub numbers_rise : (rs : List Request) → AreApart rs → (i j : ℕ) (d : Request) → i ≤ j → j < length rs → (get_or rs i d).number ≤ (get_or rs j d).number
numbers_rise [] a i j d le lt = absurd (omega arith)
numbers_rise (r ∷ rs) a zero zero d le lt = omega arith
numbers_rise (r ∷ rs) a zero (suc j) d le lt =
    let apart : IsApart r (get_or rs j d) = each_at (IsApart r) rs j d a.0 (omega arith) in
    let below = apart.rises in
    omega arith
numbers_rise (r ∷ rs) a (suc i) zero d le lt = absurd (omega arith)
numbers_rise (r ∷ rs) a (suc i) (suc j) d le lt = numbers_rise rs a.1 i j d (omega arith) (omega arith)

-- the last has the greatest
pub last_is_greatest : (rs : List Request) (r : Request) → AreApart rs → slice_get rs (length rs - 1) ≡ Some r → greatest rs ≡ r.number
last_is_greatest [] r a is = cc
last_is_greatest (q ∷ []) r a is =
    let one : q ≡ r = cc in
    let same = ap (λ (x : Request). x.number) one in
    omega arith
last_is_greatest (q ∷ p ∷ rs) r a is =
    let back : length (q ∷ p ∷ rs) - 1 ≡ suc (length (p ∷ rs) - 1) = omega arith in
    let is' : slice_get (p ∷ rs) (length (p ∷ rs) - 1) ≡ Some r = rw back at is in
    let more = last_is_greatest (p ∷ rs) r a.1 is' in
    let below = a.0.0.rises in
    omega arith

pub none_is_zero : (rs : List Request) → slice_get rs (length rs - 1) ≡ None → greatest rs ≡ 0
none_is_zero [] is = refl
none_is_zero (r ∷ rs) is =
    let found = slice_get-get_or (r ∷ rs) (length (r ∷ rs) - 1) r (omega arith) in
    absurd (cc (found, is))

-- a number below all

abbrev pub AreAbove : ℕ → List Request → Type 0
AreAbove number rs = AllByRecursion (λ (r : Request). number < r.number) rs

other_number : (number : ℕ) (r : Request) → number < r.number → eqb r.number number ≡ false
other_number number r lt = false_from_ne_true (eqb r.number number) (λ t. let e = eqb-true r.number number t in absurd (omega arith))

none_live_above : (number : ℕ) (rs : List Request) → AreAbove number rs → is_live_number number rs ≡ false
none_live_above number [] a = refl
none_live_above number (r ∷ rs) a =
    ap (λ b. (b && is_live r.state) || is_live_number number rs) (other_number number r a.0) ∙ none_live_above number rs a.1

pub same_above : (number : ℕ) (f : Request → Request) (rs : List Request) → AreAbove number rs → at_number number f rs ≡ rs
same_above number f [] a = refl
same_above number f (r ∷ rs) a =
    ap (λ b. cond b (f r) r ∷ at_number number f rs) (other_number number r a.0) ∙ ap (λ l. r ∷ l) (same_above number f rs a.1)

pub above_one : (number : ℕ) (r : Request) (rs : List Request) → number ≤ r.number → AllByRecursion (IsApart r) rs → AreAbove number rs
above_one number r rs le a = all_weaker (IsApart r) (λ q. number < q.number) (λ q apart. let lt = apart.rises in omega arith) rs a

-- the request of a number is the one behind those below it

pub live_at : (number : ℕ) (rs : List Request) (n : ℕ) (b : Bool) → AreApart rs → n ≡ prefix_len (λ (r : Request). ltb r.number number) rs
    → (b ≡ true → n < length rs) → ((d : Request) → n < length rs → (eqb (get_or rs n d).number number && is_live (get_or rs n d).state) ≡ b) → b ≡ is_live_number number rs
live_at number [] n b a count within same = false_from_ne_true b (λ t. let lt = within t in absurd (omega arith))
live_at number (r ∷ rs) n b a count within same =
    elim (ltb r.number number) as (λ t. ltb r.number number ≡ t → n ≡ cond t (1 + prefix_len (λ (q : Request). ltb q.number number) rs) 0 → b ≡ is_live_number number (r ∷ rs)) [
      | true ↦ λ is e.
          let m = prefix_len (λ (q : Request). ltb q.number number) rs in
          let next : n ≡ suc m = omega arith in
          let lt = ltb-true r.number number is in
          let other : eqb r.number number ≡ false = false_from_ne_true (eqb r.number number) (λ t. let k = eqb-true r.number number t in absurd (omega arith)) in
          live_at number rs m b a.1 refl (λ t. let k = within t in omega arith) (λ d k. rw next at (same d (omega arith)))
          ∙ sym (ap (λ t. (t && is_live r.state) || is_live_number number rs) other)
      | false ↦ λ is e.
          let here : (eqb r.number number && is_live r.state) ≡ b = rw e at (same r (omega arith)) in
          let le = ltb-false r.number number is in
          sym here ∙ or_false _ ∙ sym (ap (λ t. (eqb r.number number && is_live r.state) || t) (none_live_above number rs (above_one number r rs le a.0)))
    ] refl count
  where
    or_false : (x : Bool) → x ≡ (x || false)
    or_false true = refl
    or_false false = refl

pub change_at : (number : ℕ) (f : Request → Request) (rs : List Request) (n : ℕ) → AreApart rs → n ≡ prefix_len (λ (r : Request). ltb r.number number) rs
    → n < length rs → ((d : Request) → (get_or rs n d).number ≡ number) → (d : Request) → at_number number f rs ≡ set rs n (f (get_or rs n d))
change_at number f [] n a count within same d = absurd (omega arith)
change_at number f (r ∷ rs) n a count within same d =
    elim (ltb r.number number) as (λ t. ltb r.number number ≡ t → n ≡ cond t (1 + prefix_len (λ (q : Request). ltb q.number number) rs) 0 → at_number number f (r ∷ rs) ≡ set (r ∷ rs) n (f (get_or (r ∷ rs) n d))) [
      | true ↦ λ is e.
          let m = prefix_len (λ (q : Request). ltb q.number number) rs in
          let next : n ≡ suc m = omega arith in
          let lt = ltb-true r.number number is in
          let other : eqb r.number number ≡ false = false_from_ne_true (eqb r.number number) (λ t. let k = eqb-true r.number number t in absurd (omega arith)) in
          let more = change_at number f rs m a.1 refl (omega arith) (λ q. rw next at (same q)) d in
          ap (λ t. cond t (f r) r ∷ at_number number f rs) other ∙ ap (λ l. r ∷ l) more ∙ ap (λ k. set (r ∷ rs) k (f (get_or (r ∷ rs) k d))) (sym next)
      | false ↦ λ is e.
          let here : r.number ≡ number = rw e at (same d) in
          let its : eqb r.number number ≡ true = eq-eqb r.number number here in
          ap (λ t. cond t (f r) r ∷ at_number number f rs) its ∙ ap (λ l. f r ∷ l) (same_above number f rs (above_one number r rs (omega arith) a.0)) ∙ ap (λ k. set (r ∷ rs) k (f (get_or (r ∷ rs) k d))) (sym e)
    ] refl count

pub change_none : (number : ℕ) (f : Request → Request) (rs : List Request) (n : ℕ) → AreApart rs → n ≡ prefix_len (λ (r : Request). ltb r.number number) rs
    → ((d : Request) → n < length rs → eqb (get_or rs n d).number number ≡ false) → at_number number f rs ≡ rs
change_none number f [] n a count other = refl
change_none number f (r ∷ rs) n a count other =
    elim (ltb r.number number) as (λ t. ltb r.number number ≡ t → n ≡ cond t (1 + prefix_len (λ (q : Request). ltb q.number number) rs) 0 → at_number number f (r ∷ rs) ≡ r ∷ rs) [
      | true ↦ λ is e.
          let m = prefix_len (λ (q : Request). ltb q.number number) rs in
          let next : n ≡ suc m = omega arith in
          let lt = ltb-true r.number number is in
          let other' : eqb r.number number ≡ false = false_from_ne_true (eqb r.number number) (λ t. let k = eqb-true r.number number t in absurd (omega arith)) in
          ap (λ t. cond t (f r) r ∷ at_number number f rs) other' ∙ ap (λ l. r ∷ l) (change_none number f rs m a.1 refl (λ d k. rw next at (other d (omega arith))))
      | false ↦ λ is e.
          let here : eqb r.number number ≡ false = rw e at (other r (omega arith)) in
          let le = ltb-false r.number number is in
          ap (λ t. cond t (f r) r ∷ at_number number f rs) here ∙ ap (λ l. r ∷ l) (same_above number f rs (above_one number r rs le a.0))
    ] refl count

-- the same, as the code does it: on the vector that held the list

pub change_makes : (number : ℕ) (f : Request → Request) (xs items seen again after : List Request) (n : ℕ) (old new : Request) → items ≡ xs → seen ≡ items → again ≡ items → AreApart xs
    → n ≡ prefix_len (λ (r : Request). ltb r.number number) seen → n < length again → ((d : Request) → eqb (get_or again n d).number number ≡ true)
    → old ≡ get_or items n old → new ≡ f old → after ≡ set items n new → after ≡ at_number number f xs
change_makes number f xs items seen again after n old new held first second a count within same read made is =
    let count' : n ≡ prefix_len (λ (r : Request). ltb r.number number) xs = count ∙ ap (prefix_len (λ (r : Request). ltb r.number number)) (first ∙ held) in
    let whole : again ≡ xs = second ∙ held in
    let within' : n < length xs = rw whole at within in
    let same' : (d : Request) → (get_or xs n d).number ≡ number = λ d. let one = same d in eqb-true _ _ (rw whole at one) in
    let read' : old ≡ get_or xs n old = read ∙ ap (λ l. get_or l n old) held in
    is ∙ ap (λ l. set l n new) held ∙ ap (set xs n) (made ∙ ap f read') ∙ sym (change_at number f xs n a count' within' same' old)

pub nothing_changes : (number : ℕ) (f : Request → Request) (xs items seen again after : List Request) (n : ℕ) → items ≡ xs → seen ≡ items → again ≡ items → AreApart xs
    → n ≡ prefix_len (λ (r : Request). ltb r.number number) seen → ((d : Request) → n < length again → eqb (get_or again n d).number number ≡ false) → after ≡ items → after ≡ at_number number f xs
nothing_changes number f xs items seen again after n held first second a count other is =
    let count' : n ≡ prefix_len (λ (r : Request). ltb r.number number) xs = count ∙ ap (prefix_len (λ (r : Request). ltb r.number number)) (first ∙ held) in
    let whole : again ≡ xs = second ∙ held in
    let other' : (d : Request) → n < length xs → eqb (get_or xs n d).number number ≡ false = rw whole at other in
    is ∙ held ∙ sym (change_none number f xs n a count' other')
