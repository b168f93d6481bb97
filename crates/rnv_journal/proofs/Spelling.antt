-- A file is spelled in one way.
use Rattle.std.proofs.Common.{◌≡◌, ◌≢◌, ◌<◌, ℕ, ◌+◌, ◌*◌, ◌/◌, ◌%◌, List, [], ◌∷◌, ◌++◌, length, refl, sym, ◌∙◌, arith, append_assoc, length-append}
use Rattle.rnv_journal.specs.File.{four_bytes, head, body, entries, end_of}

-- four bytes spell this number
pub four_bytes_of : (a b c d : ℕ) → b < 256 → c < 256 → d < 256 → four_bytes (((a * 256 + b) * 256 + c) * 256 + d) ≡ a ∷ b ∷ c ∷ d ∷ []
unfolding four_bytes
four_bytes_of a b c d lb lc ld =
    let n = ((a * 256 + b) * 256 + c) * 256 + d in
    let e1 : n / 16777216 ≡ a = omega arith in
    let e2 : n / 65536 % 256 ≡ b = omega arith in
    let e3 : n / 256 % 256 ≡ c = omega arith in
    let e4 : n % 256 ≡ d = omega arith in
    cc

pub number_of : (n m : ℕ) → four_bytes n ≡ four_bytes m → n ≡ m
unfolding four_bytes
number_of n m same =
    let e1 : n / 16777216 ≡ m / 16777216 = cc in
    let e2 : n / 65536 % 256 ≡ m / 65536 % 256 = cc in
    let e3 : n / 256 % 256 ≡ m / 256 % 256 = cc in
    let e4 : n % 256 ≡ m % 256 = cc in
    omega arith

-- two lists of one length in front of others
pub parted : (p q x y : List ℕ) → length p ≡ length q → p ++ x ≡ q ++ y → (p ≡ q) × (x ≡ y)
parted [] [] x y same e = (refl, e)
parted [] (b ∷ q) x y same e = absurd (cc)
parted (a ∷ p) [] x y same e = absurd (cc)
parted (a ∷ p) (b ∷ q) x y same e =
    let s : length p ≡ length q = cc in
    let t : p ++ x ≡ q ++ y = cc in
    let both = parted p q x y s t in
    let f = both.0 in
    let h : a ≡ b = cc in
    (cc, both.1)

-- one payload stands behind a gate
pub one_body : (p q x y : List ℕ) → body p ++ x ≡ body q ++ y → (p ≡ q) × (x ≡ y)
unfolding four_bytes
one_body p q x y e =
    let whole : four_bytes (length p) ++ (p ++ x) ≡ four_bytes (length q) ++ (q ++ y) = e in
    let front = parted (four_bytes (length p)) (four_bytes (length q)) (p ++ x) (q ++ y) refl whole in
    parted p q x y (number_of (length p) (length q) front.0) front.1

pub length_body : (p : List ℕ) → length (body p) ≡ 4 + length p
unfolding four_bytes
length_body p = omega arith

pub length_entries : (ps : List (List ℕ)) → 13 + length (entries ps) ≡ end_of ps
length_entries [] = refl
length_entries (p ∷ ps) =
    let all : length (1 ∷ body p ++ entries ps) ≡ 1 + (length (body p) + length (entries ps)) = simp length-append (omega arith) in
    omega (arith, all, length_body p, length_entries ps)

pub length_head : length head ≡ 13
unfolding head
length_head = refl

-- the payloads, the gate that ends them and what stands behind it
pub one_list : (ps qs : List (List ℕ)) (g h : ℕ) (r s : List ℕ) → g ≢ 1 → h ≢ 1 → entries ps ++ g ∷ r ≡ entries qs ++ h ∷ s
    → (ps ≡ qs) × (g ≡ h) × (r ≡ s)
one_list [] [] g h r s gn hn e = (refl, cc, cc)
one_list [] (q ∷ qs) g h r s gn hn e =
    let first : g ≡ 1 = cc in
    absurd (gn first)
one_list (p ∷ ps) [] g h r s gn hn e =
    let first : h ≡ 1 = cc in
    absurd (hn first)
one_list (p ∷ ps) (q ∷ qs) g h r s gn hn e =
    let behind : (body p ++ entries ps) ++ g ∷ r ≡ (body q ++ entries qs) ++ h ∷ s = cc in
    let apart : body p ++ (entries ps ++ g ∷ r) ≡ body q ++ (entries qs ++ h ∷ s) = sym (append_assoc (body p) (entries ps) (g ∷ r)) ∙ behind ∙ append_assoc (body q) (entries qs) (h ∷ s) in
    let here = one_body p q _ _ apart in
    let rest = one_list ps qs g h r s gn hn here.1 in
    let f = here.0 in
    let t = rest.0 in
    (cc, rest.1, rest.2)
