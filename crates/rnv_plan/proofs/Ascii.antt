-- What a topic is made of is ASCII.
use Rattle.std.proofs.Common.{ℕ, zero, suc, ◌<◌, List, [], ◌∷◌, ◌++◌, Bool, ◌&&◌, ◌==◌, not, reverse, map, arith, inl, inr}
use Rattle.std.proofs.lemmas.Bool.{cases_Bool}
use Rattle.std.proofs.lemmas.List.{reverse-append}
use Rattle.std.specs.Char.{to_ascii_lowercase}
use Rattle.std.proofs.lemmas.Bool.Decides.{nat_tests}
use Rattle.std.specs.List.{AllByRecursion, filter}
use Rattle.std.specs.Str.{IsAscii}
use Rattle.rnv_plan.specs.Branch.{plain_or_dash, begins_with_dash, skip, is_edge, written, single_dashes, trimmed}

abbrev Small : List ℕ → Type 0
Small xs = AllByRecursion (λ x. x < 128) xs

plain-small : (x : ℕ) → plain_or_dash x < 128
plain-small x = grind (arith, nat_tests)

map-small : (xs : List ℕ) → Small (map plain_or_dash xs)
map-small [] = tt
map-small (x ∷ xs) = (plain-small x, map-small xs)

skip-small : (p : ℕ → Bool) (xs : List ℕ) → Small xs → Small (skip p xs)
skip-small p [] small = tt
skip-small p (x ∷ xs) small = elim (cases_Bool (p x)) [
  | inl passes ↦ rw passes (skip-small p xs small.1)
  | inr fails ↦ rw fails small
]

single-small : (xs : List ℕ) → Small xs → Small (single_dashes xs)
single-small [] small = tt
single-small (x ∷ xs) small = elim (cases_Bool ((x == 45) && begins_with_dash xs)) [
  | inl passes ↦ rw passes (single-small xs small.1)
  | inr fails ↦ rw fails (small.0, single-small xs small.1)
]

append-small : (xs ys : List ℕ) → Small xs → Small ys → Small (xs ++ ys)
append-small [] ys left right = right
append-small (x ∷ xs) ys left right = (left.0, append-small xs ys left.1 right)

reverse-small : (xs : List ℕ) → Small xs → Small (reverse xs)
reverse-small [] small = tt
reverse-small (x ∷ xs) small = rw (reverse-append (x ∷ []) xs) (append-small (reverse xs) (x ∷ []) (reverse-small xs small.1) (small.0, tt))

ascii-small : (xs : List ℕ) → Small xs → IsAscii xs
ascii-small [] small i = omega arith
ascii-small (x ∷ xs) small zero = small.0
ascii-small (x ∷ xs) small (suc i) = ascii-small xs small.1 i

pub trimmed_is_ascii : (name : List ℕ) → IsAscii (trimmed (single_dashes (written name)))
trimmed_is_ascii name =
    let written_small = map-small (filter (λ x. not (x == 64)) (map to_ascii_lowercase name)) in
    ascii-small _ (reverse-small _ (skip-small is_edge _ (reverse-small _ (skip-small is_edge _ (single-small _ written_small)))))
