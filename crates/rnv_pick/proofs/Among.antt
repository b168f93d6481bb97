-- The elements of a list.
use Rattle.std.proofs.Common.{◌≡◌, ◌⊎◌, zero, suc, ◌<◌, List, [], ◌∷◌, refl, inl, inr, arith}
use Rattle.std.specs.List.{Contains}

pub contains_cases : {X : Type 0} (c : X) (cs : List X) (x : X) → Contains (c ∷ cs) x → (c ≡ x) ⊎ Contains cs x
contains_cases c cs x (zero, h, e) = inl e
contains_cases c cs x (suc i, h, e) = inr (i, omega arith, e)

pub contains_later : {X : Type 0} (c : X) (cs : List X) (x : X) → Contains cs x → Contains (c ∷ cs) x
contains_later c cs x (i, h, e) = (suc i, omega arith, e)

pub contains_first : {X : Type 0} (c : X) (cs : List X) → Contains (c ∷ cs) c
contains_first c cs = (zero, omega arith, refl)

pub no_element : {X : Type 0} (x : X) → Contains [] x → ⊥
no_element x among = let k = among.1 in omega (arith, k)
