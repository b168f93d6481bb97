-- A rest of a rest, and what is behind the first byte.
use Rattle.std.proofs.Common.{◌≡◌, ℕ, ◌+◌, ◌-◌, ◌≤◌, List, length, take, drop, ap, ◌∙◌, arith, length-drop}
use Rattle.std.proofs.lemmas.List.{drop-drop}
use Rattle.std.proofs.lemmas.Grind.{common_steps}
use Rattle.rnv_package_json.specs.Rest.{IsRest}

pub IsRest-whole : (xs : List ℕ) → IsRest xs xs
IsRest-whole xs = record { within = omega arith; same = grind (arith, common_steps) }

pub IsRest-drop : (xs ys : List ℕ) (n : ℕ) → IsRest xs ys → n ≤ length ys → IsRest xs (drop n ys)
IsRest-drop xs ys n h le =
    let len = length-drop n ys in
    let all = h.within in
    record {
      within = omega arith;
      same =
          let at : (length xs - length ys) + n ≡ length xs - length (drop n ys) = omega arith in
          ap (λ (l : List ℕ). drop n l) h.same ∙ drop-drop n (length xs - length ys) xs ∙ ap (λ (k : ℕ). drop k xs) at;
    }

pub IsRest-tail : (xs ys : List ℕ) → IsRest xs ys → 1 ≤ length ys → IsRest xs (take (length ys - 1) (drop 1 ys))
IsRest-tail xs ys h le =
    let e : take (length ys - 1) (drop 1 ys) ≡ drop 1 ys = grind (arith, common_steps) in
    rw e (IsRest-drop xs ys 1 h le)

pub IsRest-trans : (xs ys zs : List ℕ) → IsRest xs ys → IsRest ys zs → IsRest xs zs
IsRest-trans xs ys zs h k =
    let e = k.same in
    let within = k.within in
    rw (e) (IsRest-drop xs ys (length ys - length zs) h (omega arith))
