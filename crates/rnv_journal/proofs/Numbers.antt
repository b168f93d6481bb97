-- The number that four bytes spell.
use Rattle.std.proofs.Common.{◌≡◌, ◌<◌, ◌≤◌, ℕ, ◌+◌, ◌*◌, ◌^◌, ◌/◌, ◌%◌, List, [], ◌∷◌, ◌++◌, length, take, drop, ◌∙◌, ap, arith, length-append}
use Rattle.std.specs.Int.{w32, from_be_bytes, to_be_bytes}
use Rattle.rnv_journal.specs.File.{four_bytes, body}
use Rattle.rnv_journal.proofs.Spelling.{four_bytes_of, number_of, length_body}

pub number_in_four : (a b c d n : ℕ) → b < 256 → c < 256 → d < 256 → n ≡ from_be_bytes w32 (a ∷ b ∷ c ∷ d ∷ []) → four_bytes n ≡ a ∷ b ∷ c ∷ d ∷ []
number_in_four a b c d n lb lc ld is =
    let e : n ≡ ((a * 256 + b) * 256 + c) * 256 + d = omega arith in
    rw e (four_bytes_of a b c d lb lc ld)

-- an entry's length, where its payload stands
pub entry_length : (bytes payload more : List ℕ) → bytes ≡ 1 ∷ body payload ++ more → 5 + length payload ≤ length bytes
entry_length bytes payload more e =
    let all : length bytes ≡ 1 + (length (body payload) + length more) = ap length e ∙ simp length-append (omega arith) in
    omega (arith, all, length_body payload)

pub entry_number : (bytes payload more : List ℕ) (n : ℕ) → four_bytes n ≡ take 4 (drop 1 bytes) → bytes ≡ 1 ∷ body payload ++ more → n ≡ length payload
unfolding four_bytes
entry_number bytes payload more n four e =
    let same : take 4 (drop 1 bytes) ≡ take 4 (body payload ++ more) = ap (λ (l : List ℕ). take 4 (drop 1 l)) e in
    number_of n (length payload) (four ∙ same)

-- the bytes of a number below 2 ^ 32
pub be_four : (n : ℕ) → n < 2 ^ 32 → to_be_bytes w32 n ≡ four_bytes n
unfolding four_bytes
be_four n less =
    let small : n / 16777216 < 256 = omega (arith, less) in
    let first : n / 16777216 % 256 ≡ n / 16777216 = omega (arith, small) in
    ap (λ (d : ℕ). d ∷ n / 65536 % 256 ∷ n / 256 % 256 ∷ n % 256 ∷ []) first
