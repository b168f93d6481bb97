-- The greatest of a set.
use Rattle.std.specs.Prelude.{◌≡◌, ⊤, true, false, Bool, List, [], ◌∷◌, Option, Some, None}
use Rattle.std.specs.List.{AllByRecursion, Contains}
use Rattle.std.specs.Ordering.{is_gt}
use Rattle.std.specs.declared.cmp.Ordering.{Ordering}

-- c is in the set, and nothing in it is above c
pub record IsGreatest {K : Type 0} (R : K → K → Ordering) (P : K → Type 0) (c : K) : Type 0 where
  pub inside : P c
  pub greatest : (d : K) → P d → is_gt (R d c) ≡ false

-- the greatest of the elements of a list that pass a test, or none where none passes
abbrev pub IsBest : {K : Type 0} → (K → K → Ordering) → (K → Bool) → List K → Option K → Type 0
IsBest {K} R p found None = (c : K) → Contains found c → p c ≡ false
IsBest R p found (Some best) = IsGreatest R (λ c. Contains found c × (p c ≡ true)) best

-- no element is below a later one
abbrev pub IsFalling : {K : Type 0} → (K → K → Ordering) → List K → Type 0
IsFalling R [] = ⊤
IsFalling R (x ∷ xs) = AllByRecursion (λ y. is_gt (R y x) ≡ false) xs × IsFalling R xs
