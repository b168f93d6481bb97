-- Small files, byte by byte, and what they are.
use Rattle.std.proofs.Common.{◌≡◌, ◌<◌, inl, inr, ℕ, ◌+◌, List, [], ◌∷◌, ◌++◌, length, refl, arith}
use Rattle.rnv_journal.specs.File.{four_bytes, head, made, body, spelled, counted, IsImage, IsInMaking, IsFileWrongAt}
use Rattle.rnv_journal.proofs.Numbers.{entry_number}

-- the head: 01524e56464f52474500000001
abbrev front : List ℕ
front = 1 ∷ 82 ∷ 78 ∷ 86 ∷ 70 ∷ 79 ∷ 82 ∷ 71 ∷ 69 ∷ 0 ∷ 0 ∷ 0 ∷ 1 ∷ []

-- a torn gate, and behind it what an append of `abc` wrote
pub torn : IsImage 30 (front ++ 7 ∷ 0 ∷ 0 ∷ 0 ∷ 3 ∷ 97 ∷ 98 ∷ 99 ∷ 0 ∷ []) [] 7 (0 ∷ 0 ∷ 0 ∷ 3 ∷ 97 ∷ 98 ∷ 99 ∷ 0 ∷ [])
unfolding spelled head
torn = record { spells = refl; ends = λ e. cc; within = omega arith }

-- the same file with that gate set to 1
pub opened : IsImage 30 (front ++ 1 ∷ 0 ∷ 0 ∷ 0 ∷ 3 ∷ 97 ∷ 98 ∷ 99 ∷ 0 ∷ []) ((97 ∷ 98 ∷ 99 ∷ []) ∷ []) 0 []
unfolding spelled head four_bytes
opened = record { spells = refl; ends = λ e. cc; within = omega arith }

-- what an append of `xy` leaves of it
pub appended : IsImage 30 (front ++ 1 ∷ 0 ∷ 0 ∷ 0 ∷ 2 ∷ 120 ∷ 121 ∷ 0 ∷ 0 ∷ []) ((120 ∷ 121 ∷ []) ∷ []) 0 (0 ∷ [])
unfolding spelled head four_bytes
appended = record { spells = refl; ends = λ e. cc; within = omega arith }

-- an entry of 12 bytes is counted up to 31, one of 11 up to 30
pub counted_full : (payload : List ℕ) → length payload ≡ 12 → counted (payload ∷ []) ≡ 31
counted_full payload twelve = omega arith

pub counted_whole : (payload : List ℕ) → length payload ≡ 11 → counted (payload ∷ []) ≡ 30
counted_whole payload eleven = omega arith

-- 01524e5646
pub five_bytes : IsFileWrongAt 30 (1 ∷ 82 ∷ 78 ∷ 86 ∷ 70 ∷ []) 0
unfolding head made
five_bytes = inl (record { unmade = unmade; other = λ e. cc }, refl)
  where
    unmade : IsInMaking (1 ∷ 82 ∷ 78 ∷ 86 ∷ 70 ∷ []) → ⊥
    unmade (inl short) = absurd (omega arith)
    unmade (inr (inl begun)) = absurd (let e : 1 ∷ [] ≡ 0 ∷ [] = begun.first in cc)
    unmade (inr (inr all)) = all.first refl

-- the head alone
pub no_gate : IsFileWrongAt 30 front 13
unfolding head
no_gate = inr (record {
  payloads = [];
  rest = [];
  spells = refl;
  place = refl;
  within = omega arith;
  broken = record { no_entry = λ payload more e. absurd (cc); no_end = λ gate more e ends. absurd (cc) };
})

-- an open gate and the length 16777216, and nothing more
pub no_payload : IsFileWrongAt 30 (front ++ 1 ∷ 1 ∷ 0 ∷ 0 ∷ 0 ∷ []) 13
unfolding head four_bytes
no_payload = inr (record {
  payloads = [];
  rest = 1 ∷ 1 ∷ 0 ∷ 0 ∷ 0 ∷ [];
  spells = refl;
  place = refl;
  within = omega arith;
  broken = record { no_entry = no_entry; no_end = λ gate more e ends. absurd (let first : gate ≡ 1 = cc in ends first) };
})
  where
    no_entry : (payload more : List ℕ) → 1 ∷ 1 ∷ 0 ∷ 0 ∷ 0 ∷ [] ≡ 1 ∷ body payload ++ more → 30 < 13 + 5 + length payload
    no_entry payload more e =
        let number = entry_number (1 ∷ 1 ∷ 0 ∷ 0 ∷ 0 ∷ []) payload more 16777216 refl e in
        omega arith

-- the entry `abc`, and no gate behind it
pub no_last_gate : IsFileWrongAt 30 (front ++ 1 ∷ 0 ∷ 0 ∷ 0 ∷ 3 ∷ 97 ∷ 98 ∷ 99 ∷ []) 21
unfolding head four_bytes
no_last_gate = inr (record {
  payloads = (97 ∷ 98 ∷ 99 ∷ []) ∷ [];
  rest = [];
  spells = refl;
  place = refl;
  within = omega arith;
  broken = record { no_entry = λ payload more e. absurd (cc); no_end = λ gate more e ends. absurd (cc) };
})

-- version 3 and a closed gate
pub version_three : IsFileWrongAt 30 (1 ∷ 82 ∷ 78 ∷ 86 ∷ 70 ∷ 79 ∷ 82 ∷ 71 ∷ 69 ∷ 0 ∷ 0 ∷ 0 ∷ 3 ∷ 0 ∷ []) 0
unfolding head
version_three = inl (record { unmade = unmade; other = λ e. cc }, refl)
  where
    unmade : IsInMaking (1 ∷ 82 ∷ 78 ∷ 86 ∷ 70 ∷ 79 ∷ 82 ∷ 71 ∷ 69 ∷ 0 ∷ 0 ∷ 0 ∷ 3 ∷ 0 ∷ []) → ⊥
    unmade (inl short) = absurd (omega arith)
    unmade (inr (inl begun)) = absurd (let e : 1 ∷ [] ≡ 0 ∷ [] = begun.first in cc)
    unmade (inr (inr all)) = all.first refl

abbrev zeros : List ℕ
zeros = 0 ∷ 0 ∷ 0 ∷ 0 ∷ 0 ∷ 0 ∷ 0 ∷ 0 ∷ 0 ∷ 0 ∷ 0 ∷ 0 ∷ 0 ∷ 0 ∷ []

pub fourteen_zeros : IsInMaking zeros
fourteen_zeros = inr (inl (record { first = refl; short = omega arith }))

pub fifteen_zeros : IsFileWrongAt 30 (0 ∷ zeros) 0
unfolding head made
fifteen_zeros = inl (record { unmade = unmade; other = λ e. cc }, refl)
  where
    unmade : IsInMaking (0 ∷ zeros) → ⊥
    unmade (inl short) = absurd (omega arith)
    unmade (inr (inl begun)) = absurd (omega (arith, begun.short))
    unmade (inr (inr all)) = absurd (let e : zeros ≡ 82 ∷ 78 ∷ 86 ∷ 70 ∷ 79 ∷ 82 ∷ 71 ∷ 69 ∷ 0 ∷ 0 ∷ 0 ∷ 1 ∷ 0 ∷ [] = all.rest in cc)
