-- A text stays one where its control characters become spaces.
use Rattle.std.proofs.Common.{◌≡◌, ℕ, ◌+◌, ◌/◌, ◌%◌, ◌<◌, ◌≤◌, List, [], ◌∷◌, ◌++◌, Bool, true, false, cond, map, refl, ap, subst, inl, inr, arith, append-nil}
use Rattle.std.specs.Prelude.{◌&&◌, nat_lt}
use Rattle.std.specs.Str.{IsUtf8}
use Rattle.std.proofs.Math.Utf8.{encode, encodes, next, scalar, scalars}
use Rattle.std.proofs.lemmas.Bool.{cases_lt}
use Rattle.std.proofs.lemmas.Bool.Decides.{nat_tests}
use Rattle.std.proofs.lemmas.List.{map-append}
use Rattle.std.proofs.lemmas.List.Elements.{All-from_recursion}
use Rattle.std.proofs.lemmas.Str.{IsUtf8-nil, IsUtf8-append, IsUtf8-from_ascii, encode_ascii}
use Rattle.std.proofs.lemmas.Str.Ascii.{IsAscii-from_all}
use Rattle.rnv_desired.specs.Printable.{printable_byte, printable}

-- ---- the bytes of a character

high : (b : ℕ) → 128 ≤ b → printable_byte b ≡ b
high b above = grind (arith, nat_tests)

low : (b : ℕ) → b < 128 → printable_byte b < 128
low b below = grind (arith, nat_tests)

two : (a b : ℕ) → 128 ≤ a → 128 ≤ b → printable (a ∷ b ∷ []) ≡ a ∷ b ∷ []
two a b left right = let first = high a left in let second = high b right in cc

three : (a b c : ℕ) → 128 ≤ a → 128 ≤ b → 128 ≤ c → printable (a ∷ b ∷ c ∷ []) ≡ a ∷ b ∷ c ∷ []
three a b c left right third = let first = high a left in let rest = two b c right third in cc

four : (a b c d : ℕ) → 128 ≤ a → 128 ≤ b → 128 ≤ c → 128 ≤ d → printable (a ∷ b ∷ c ∷ d ∷ []) ≡ a ∷ b ∷ c ∷ d ∷ []
four a b c d left right third last = let first = high a left in let rest = three b c d right third last in cc

one-of : (x y z : Bool) (es bs cs ds : List ℕ) → x ≡ false → printable bs ≡ bs → printable cs ≡ cs → printable ds ≡ ds → printable (cond x es (cond y bs (cond z cs ds))) ≡ cond x es (cond y bs (cond z cs ds))
one-of true y z es bs cs ds other second third fourth = absurd (cc other)
one-of false true z es bs cs ds other second third fourth = second
one-of false false true es bs cs ds other second third fourth = third
one-of false false false es bs cs ds other second third fourth = fourth

no-ascii : (c : ℕ) → 128 ≤ c → nat_lt c 128 ≡ false
no-ascii c above = grind (arith, nat_tests)

lead : (n m : ℕ) → 128 ≤ n → 128 ≤ n + m
lead n m above = omega arith

same-encode : (c : ℕ) → 128 ≤ c → printable (encode c) ≡ encode c
unfolding encode
same-encode c above =
    let cont = λ (n : ℕ). lead 128 (n % 64) (omega arith) in
    one-of (nat_lt c 128) (nat_lt c 2048) (nat_lt c 65536) _ _ _ _ (no-ascii c above)
    (two _ _ (lead 192 (c / 64) (omega arith)) (cont c))
    (three _ _ _ (lead 224 (c / 4096) (omega arith)) (cont (c / 64)) (cont c))
    (four _ _ _ _ (lead 240 (c / 262144) (omega arith)) (cont (c / 4096)) (cont (c / 64)) (cont c))

-- ---- the characters of a text

both : (a b : Bool) → (a && b) ≡ true → (a ≡ true) × (b ≡ true)
both true b h = (refl, h)
both false b h = absurd (cc h)

one-char : (c : ℕ) → scalar c ≡ true → IsUtf8 (printable (encode c))
one-char c valid = elim (cases_lt c 128) [
  | inl below ↦ rw (encode_ascii c below) (IsUtf8-from_ascii (printable_byte c ∷ []) (IsAscii-from_all (printable_byte c ∷ []) (All-from_recursion (λ b. b < 128) (printable_byte c ∷ []) (low c below, tt))))
  | inr above ↦ rw (same-encode c above) (c ∷ [], (ap (λ b. b && true) valid, append-nil (encode c)))
]

all-chars : (cs : List ℕ) → scalars cs ≡ true → IsUtf8 (printable (encodes cs))
all-chars [] valid = IsUtf8-nil
all-chars (c ∷ cs) valid =
    let parts = both (scalar c) (scalars cs) valid in
    rw (map-append printable_byte (encode c) (encodes cs)) (IsUtf8-append (printable (encode c)) (printable (encodes cs)) (one-char c parts.0) (all-chars cs parts.1))

pub printable_utf8 : (text : List ℕ) → IsUtf8 text → IsUtf8 (printable text)
printable_utf8 text utf8 = subst (λ (bs : List ℕ). IsUtf8 (printable bs)) utf8.1.1 (all-chars utf8.0 utf8.1.0)
