-- The offsets of the entries.
use Rattle.std.proofs.Common.{◌≡◌, ◌<◌, ◌≤◌, ℕ, suc, ◌+◌, zero, List, [], ◌∷◌, length, get_or, take, refl, ap, arith}
use Rattle.rnv_base.specs.Buffer.{Buffer}
use Rattle.rnv_journal.specs.File.{end_of}
use Rattle.rnv_journal.specs.Found.{strings}
use Rattle.rnv_journal.proofs.Wrong.{least_end}

-- one entry more
pub end_more : (found : List Buffer) (i : ℕ) (d : Buffer) → i < length found → end_of (strings (take (suc i) found)) ≡ end_of (strings (take i found)) + (5 + length (get_or found i d).bytes)
end_more [] i d less = absurd (omega arith)
end_more (b ∷ found) zero d less = omega arith
end_more (b ∷ found) (suc i) d less = omega (arith, end_more found i d (omega arith))

pub end_front : (found : List Buffer) (i : ℕ) → end_of (strings (take i found)) ≤ end_of (strings found)
end_front [] zero = omega arith
end_front [] (suc i) = omega arith
end_front (b ∷ found) zero = omega (arith, least_end (strings found))
end_front (b ∷ found) (suc i) = omega (arith, end_front found i)

pub strings_take : (found : List Buffer) (i : ℕ) → strings (take i found) ≡ take i (strings found)
strings_take [] zero = refl
strings_take [] (suc i) = refl
strings_take (b ∷ found) zero = refl
strings_take (b ∷ found) (suc i) = ap (λ (l : List (List ℕ)). b.bytes ∷ l) (strings_take found i)

pub length_strings : (found : List Buffer) → length (strings found) ≡ length found
length_strings [] = refl
length_strings (b ∷ found) = ap suc (length_strings found)
