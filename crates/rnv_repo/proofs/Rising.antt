-- Lists in an order, place by place.
use Rattle.std.proofs.Common.{◌≡◌, ℕ, zero, suc, ◌+◌, ◌-◌, ◌<◌, ◌≤◌, List, [], ◌∷◌, length, get_or, arith, add-one, inl, inr}
use Rattle.std.specs.List.Sorted.{IsStrictlySortedBy}
use Rattle.std.specs.declared.cmp.Ordering.{Ordering}
use Rattle.std.specs.declared.cmp.Ordering.TheVariants.{Less}
use Rattle.std.proofs.lemmas.Bool.{cases_lt}
use Rattle.std.proofs.lemmas.List.{get_or_default}
use Rattle.std.proofs.lemmas.Map.Keys.{sorted_from_all_adjacent}
use Rattle.std.specs.Cmp.{IsTotalOrder}

-- in a list that rises each element is below the next
pub adjacent_below : {K : Type 0} (c : K → K → Ordering) (ks : List K) (d : K) (k : ℕ) → IsStrictlySortedBy c ks → k + 1 < length ks → c (get_or ks k d) (get_or ks (k + 1) d) ≡ Less
unfolding IsStrictlySortedBy
adjacent_below c [] d k rising within = absurd (omega arith)
adjacent_below c (x ∷ []) d k rising within = absurd (omega arith)
adjacent_below c (x ∷ y ∷ r) d zero rising within = rising.0.0
adjacent_below c (x ∷ y ∷ r) d (suc k) rising within =
    let next = rw add-one at (adjacent_below c (y ∷ r) d k rising.1 (omega arith)) in
    rw add-one next

-- two neighbours in a list that rises, as a read at their places gives them
pub neighbours_rise : {K : Type 0} (c : K → K → Ordering) (ks : List K) (at : ℕ) (x y : K) → x ≡ get_or ks (at - 1) x → y ≡ get_or ks at y → 1 ≤ at → at < length ks → IsStrictlySortedBy c ks → c x y ≡ Less
neighbours_rise c ks at x y left right low within rising =
    let back : at - 1 + 1 ≡ at = omega arith in
    let found = adjacent_below c ks x (at - 1) rising (omega arith) in
    let same = get_or_default ks at x y within in
    let found' = rw back at found in
    cc

-- one neighbour more
pub rises_on : {K : Type 0} (c : K → K → Ordering) (ks : List K) (at : ℕ) (x y : K) → x ≡ get_or ks (at - 1) x → y ≡ get_or ks at y → 1 ≤ at → at < length ks → c x y ≡ Less
    → ((k : ℕ) (d : K) → k + 1 < at → c (get_or ks k d) (get_or ks (k + 1) d) ≡ Less)
    → (k : ℕ) (d : K) → k + 1 < at + 1 → c (get_or ks k d) (get_or ks (k + 1) d) ≡ Less
rises_on c ks at x y left right low within below before k d lt =
    elim (cases_lt (k + 1) at) [
      | inl more ↦ before k d more
      | inr le ↦
          let next : k + 1 ≡ at = omega arith in
          let back : at - 1 ≡ k = omega arith in
          let same = get_or_default ks at d y within in
          let same' = get_or_default ks k d x (omega arith) in
          let left' = rw back at left in
          rw next (cc)
    ]

pub rising_from : {K : Type 0} (c : K → K → Ordering) → IsTotalOrder c → (ks : List K) → ((k : ℕ) (d : K) → k + 1 < length ks → c (get_or ks k d) (get_or ks (k + 1) d) ≡ Less) → IsStrictlySortedBy c ks
unfolding IsStrictlySortedBy
rising_from c o [] h = tt
rising_from c o (x ∷ xs) h = sorted_from_all_adjacent o (x ∷ xs) x (λ k. h k x)
