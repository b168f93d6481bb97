-- What is read is spelled so, and what is spelled so is read: one law a field, and how the laws join.
use Rattle.std.proofs.Common.{◌≡◌, ℕ, zero, suc, ◌+◌, ◌*◌, ◌/◌, ◌%◌, ◌<◌, ◌≤◌, Bool, true, false, cond, ltb, eqb, List, [], ◌∷◌, ◌++◌, length, get_or, take, drop, Option, Some, None, refl, sym, ap, subst, ◌∙◌, append_assoc, arith, length-append}
use Rattle.std.specs.Prelude.{IfSome}
use Rattle.std.specs.List.{flat_map, AllByRecursion}
use Rattle.std.specs.Str.{IsUtf8, is_utf8}
use Rattle.std.proofs.lemmas.Bool.{ltb-false, le-ltb, eqb-true}
use Rattle.std.proofs.lemmas.List.{take_at, drop_at, take-append-drop, length-take, get_or-drop}
use Rattle.std.proofs.lemmas.Str.{IsUtf8-from_is_utf8, is_utf8-from_IsUtf8}
use Rattle.rnv_spelling.specs.Spelling.{four_bytes, eight_bytes, spelled_bytes, spelled_list, spelled_option}
use Rattle.rnv_spelling.specs.Reading.{Reading, ◌>>=◌, both_at, made_at, parts_at, number_in, number_at, long_at, bytes_at, text_at, list_at, option_at}

abbrev pub IsBytes : List ℕ → Type 0
IsBytes bytes = (i : ℕ) → get_or bytes i 0 < 256

-- the bytes behind a front part
pub behind : (bytes front rest : List ℕ) → IsBytes bytes → bytes ≡ front ++ rest → IsBytes rest
behind bytes front rest h e i =
    let same : drop (length front) bytes ≡ rest = ap (drop (length front)) e ∙ drop_at front rest (length front) refl in
    subst (λ (l : List ℕ). get_or l i 0 < 256) same (rw get_or-drop (h (length front + i)))

-- the value of a step that gave one
pub bind_some : {A B : Type 0} (r : Option A) (f : A → Option B) (y : B) → (r >>= f) ≡ Some y → (x : A) × (r ≡ Some x) × (f x ≡ Some y)
bind_some (Some x) f y e = (x, refl, e)
bind_some None f y e = absurd cc

pub some_is : {A : Type 0} (x y : A) → Some x ≡ Some y → x ≡ y
some_is x y e = cc

-- a test that held, or did not
pub kept : {A : Type 0} (b : Bool) (x : Option A) (y : A) → cond b x None ≡ Some y → (b ≡ true) × (x ≡ Some y)
kept true x y e = (refl, e)
kept false x y e = absurd cc

pub passed : {A : Type 0} (b : Bool) (x : Option A) (y : A) → cond b None x ≡ Some y → (b ≡ false) × (x ≡ Some y)
passed true x y e = absurd cc
passed false x y e = (refl, e)

-- A reading gives exactly what is spelled at the front, of the values that fit.
pub record IsFormat {X : Type 0} (Fits : X → Type 0) (s : X → List ℕ) (r : Reading X) : Type 0 where
  pub takes : (bytes rest : List ℕ) (x : X) → IsBytes bytes → r bytes ≡ Some (x, rest) → Fits x × (bytes ≡ s x ++ rest)
  pub again : (bytes rest : List ℕ) (x : X) → Fits x → bytes ≡ s x ++ rest → r bytes ≡ Some (x, rest)

-- one behind the other

both_takes : {A B : Type 0} (F : A → Type 0) (G : B → Type 0) (s : A → List ℕ) (t : B → List ℕ) (r : Reading A) (q : Reading B) → IsFormat F s r → IsFormat G t q
    → (bytes rest : List ℕ) (x : A × B) → IsBytes bytes → both_at r q bytes ≡ Some (x, rest) → (F x.0 × G x.1) × (bytes ≡ (s x.0 ++ t x.1) ++ rest)
both_takes {A = A} {B = B} F G s t r q f g bytes rest x fits e =
    let a = bind_some (r bytes) (λ y. q y.1 >>= λ z. Some ((y.0, z.0), z.1)) (x, rest) e in
    let b = bind_some (q a.0.1) (λ z. Some ((a.0.0, z.0), z.1)) (x, rest) a.2 in
    let h = f.takes bytes a.0.1 a.0.0 fits a.1 in
    let k = g.takes a.0.1 b.0.1 b.0.0 (behind bytes (s a.0.0) a.0.1 fits h.1) b.1 in
    let whole : bytes ≡ (s a.0.0 ++ t b.0.0) ++ b.0.1 = h.1 ∙ ap (λ (l : List ℕ). s a.0.0 ++ l) k.1 ∙ sym (append_assoc (s a.0.0) (t b.0.0) b.0.1) in
    let made : (A × B) × List ℕ = ((a.0.0, b.0.0), b.0.1) in
    let result : (F a.0.0 × G b.0.0) × (bytes ≡ (s a.0.0 ++ t b.0.0) ++ b.0.1) = ((h.0, k.0), whole) in
    subst (λ (y : (A × B) × List ℕ). (F y.0.0 × G y.0.1) × (bytes ≡ (s y.0.0 ++ t y.0.1) ++ y.1)) (some_is made (x, rest) b.2) result

both_again : {A B : Type 0} (F : A → Type 0) (G : B → Type 0) (s : A → List ℕ) (t : B → List ℕ) (r : Reading A) (q : Reading B) → IsFormat F s r → IsFormat G t q
    → (bytes rest : List ℕ) (x : A × B) → F x.0 × G x.1 → bytes ≡ (s x.0 ++ t x.1) ++ rest → both_at r q bytes ≡ Some (x, rest)
both_again F G s t r q f g bytes rest x h e =
    let e1 : bytes ≡ s x.0 ++ (t x.1 ++ rest) = e ∙ append_assoc (s x.0) (t x.1) rest in
    let first = f.again bytes (t x.1 ++ rest) x.0 h.0 e1 in
    let second = g.again (t x.1 ++ rest) rest x.1 h.1 refl in
    rw (first, second) refl

pub both_format : {A B : Type 0} (F : A → Type 0) (G : B → Type 0) (s : A → List ℕ) (t : B → List ℕ) (r : Reading A) (q : Reading B) → IsFormat F s r → IsFormat G t q
    → IsFormat (λ (p : A × B). F p.0 × G p.1) (λ p. s p.0 ++ t p.1) (both_at r q)
both_format F G s t r q f g = record { takes = both_takes F G s t r q f g; again = both_again F G s t r q f g }

-- a value made of another, and back

pub made_format : {A B : Type 0} (F : A → Type 0) (G : B → Type 0) (s : A → List ℕ) (t : B → List ℕ) (r : Reading A) (make : A → B) (back : B → A) → IsFormat F s r
    → ((b : B) → make (back b) ≡ b) → ((a : A) → t (make a) ≡ s a) → ((a : A) → F a → G (make a)) → ((b : B) → G b → F (back b))
    → IsFormat G t (made_at make r)
made_format {A = A} {B = B} F G s t r make back f there same keep keep-back = record { takes = takes; again = again }
  where
    takes : (bytes rest : List ℕ) (x : B) → IsBytes bytes → made_at make r bytes ≡ Some (x, rest) → G x × (bytes ≡ t x ++ rest)
    takes bytes rest x fits e =
        let a = bind_some (r bytes) (λ y. Some (make y.0, y.1)) (x, rest) e in
        let h = f.takes bytes a.0.1 a.0.0 fits a.1 in
        let made : B × List ℕ = (make a.0.0, a.0.1) in
        let result : G (make a.0.0) × (bytes ≡ t (make a.0.0) ++ a.0.1) = (keep a.0.0 h.0, h.1 ∙ ap (λ (l : List ℕ). l ++ a.0.1) (sym (same a.0.0))) in
        subst (λ (y : B × List ℕ). G y.0 × (bytes ≡ t y.0 ++ y.1)) (some_is made (x, rest) a.2) result

    again : (bytes rest : List ℕ) (x : B) → G x → bytes ≡ t x ++ rest → made_at make r bytes ≡ Some (x, rest)
    again bytes rest x h e =
        let one : t x ≡ s (back x) = sym (ap t (there x)) ∙ same (back x) in
        let first = f.again bytes rest (back x) (keep-back x h) (e ∙ ap (λ (l : List ℕ). l ++ rest) one) in
        rw first (ap (λ (b : B). Some (b, rest)) (there x))

-- numbers

four_bytes_of : (a b c d : ℕ) → b < 256 → c < 256 → d < 256 → four_bytes (number_in a b c d) ≡ a ∷ b ∷ c ∷ d ∷ []
unfolding four_bytes
four_bytes_of a b c d lb lc ld =
    let n = number_in a b c d in
    let e1 : n / 16777216 ≡ a = omega arith in
    let e2 : n / 65536 % 256 ≡ b = omega arith in
    let e3 : n / 256 % 256 ≡ c = omega arith in
    let e4 : n % 256 ≡ d = omega arith in
    cc

number_takes : (bytes rest : List ℕ) (n : ℕ) → IsBytes bytes → number_at bytes ≡ Some (n, rest) → Unit {0} × (bytes ≡ four_bytes n ++ rest)
unfolding number_at
number_takes [] rest n fits e = absurd cc
number_takes (a ∷ []) rest n fits e = absurd cc
number_takes (a ∷ b ∷ []) rest n fits e = absurd cc
number_takes (a ∷ b ∷ c ∷ []) rest n fits e = absurd cc
number_takes (a ∷ b ∷ c ∷ d ∷ more) rest n fits e =
    let made : ℕ × List ℕ = (number_in a b c d, more) in
    let whole : a ∷ b ∷ c ∷ d ∷ more ≡ four_bytes (number_in a b c d) ++ more = rw (four_bytes_of a b c d (fits 1) (fits 2) (fits 3)) refl in
    subst (λ (y : ℕ × List ℕ). Unit {0} × (a ∷ b ∷ c ∷ d ∷ more ≡ four_bytes y.0 ++ y.1)) (some_is made (n, rest) e) (tt, whole)

number_again : (bytes rest : List ℕ) (n : ℕ) → Unit {0} → bytes ≡ four_bytes n ++ rest → number_at bytes ≡ Some (n, rest)
unfolding number_at four_bytes
number_again bytes rest n h e =
    let same : number_in (n / 16777216) (n / 65536 % 256) (n / 256 % 256) (n % 256) ≡ n = omega arith in
    ap number_at e ∙ ap (λ k. Some (k, rest)) same

pub number_format : IsFormat (λ n. Unit {0}) four_bytes number_at
number_format = record { takes = number_takes; again = number_again }

high_low : (h l : ℕ) → l < 4294967296 → eight_bytes (h * 4294967296 + l) ≡ four_bytes h ++ four_bytes l
unfolding eight_bytes
high_low h l lt =
    let e1 : (h * 4294967296 + l) / 4294967296 ≡ h = omega arith in
    let e2 : (h * 4294967296 + l) % 4294967296 ≡ l = omega arith in
    rw (e1, e2) refl

low_below : (h l : ℕ) (bytes rest : List ℕ) → IsBytes bytes → bytes ≡ (four_bytes h ++ four_bytes l) ++ rest → l < 4294967296
unfolding four_bytes
low_below h l bytes rest fits e =
    let at : get_or ((four_bytes h ++ four_bytes l) ++ rest) 4 0 < 256 = subst (λ (b : List ℕ). get_or b 4 0 < 256) e (fits 4) in
    omega arith

long_takes : (bytes rest : List ℕ) (n : ℕ) → IsBytes bytes → long_at bytes ≡ Some (n, rest) → Unit {0} × (bytes ≡ eight_bytes n ++ rest)
unfolding long_at
long_takes bytes rest n fits e =
    let a = bind_some (both_at number_at number_at bytes) (λ y. Some (y.0.0 * 4294967296 + y.0.1, y.1)) (n, rest) e in
    let t = both_takes (λ n. Unit {0}) (λ n. Unit {0}) four_bytes four_bytes number_at number_at number_format number_format bytes a.0.1 a.0.0 fits a.1 in
    let small = low_below a.0.0.0 a.0.0.1 bytes a.0.1 fits t.1 in
    let made : ℕ × List ℕ = (a.0.0.0 * 4294967296 + a.0.0.1, a.0.1) in
    let whole : bytes ≡ eight_bytes (a.0.0.0 * 4294967296 + a.0.0.1) ++ a.0.1 = t.1 ∙ ap (λ (l : List ℕ). l ++ a.0.1) (sym (high_low a.0.0.0 a.0.0.1 small)) in
    subst (λ (y : ℕ × List ℕ). Unit {0} × (bytes ≡ eight_bytes y.0 ++ y.1)) (some_is made (n, rest) a.2) (tt, whole)

long_again : (bytes rest : List ℕ) (n : ℕ) → Unit {0} → bytes ≡ eight_bytes n ++ rest → long_at bytes ≡ Some (n, rest)
unfolding long_at eight_bytes
long_again bytes rest n h e =
    let first = both_again (λ n. Unit {0}) (λ n. Unit {0}) four_bytes four_bytes number_at number_at number_format number_format bytes rest (n / 4294967296, n % 4294967296) (tt, tt) e in
    let same : n / 4294967296 * 4294967296 + n % 4294967296 ≡ n = omega arith in
    rw first (ap (λ k. Some (k, rest)) same)

pub long_format : IsFormat (λ n. Unit {0}) eight_bytes long_at
long_format = record { takes = long_takes; again = long_again }

-- bytes behind their length, and texts

bytes_takes : (bytes rest x : List ℕ) → IsBytes bytes → bytes_at bytes ≡ Some (x, rest) → Unit {0} × (bytes ≡ spelled_bytes x ++ rest)
unfolding bytes_at
bytes_takes bytes rest x fits e =
    let a = bind_some (number_at bytes) (λ n. cond (ltb (length n.1) n.0) None (Some (take n.0 n.1, drop n.0 n.1))) (x, rest) e in
    let n = a.0.0 in
    let more = a.0.1 in
    let g = passed (ltb (length more) n) (Some (take n more, drop n more)) (x, rest) a.2 in
    let long : n ≤ length more = ltb-false _ _ g.0 in
    let len : length (take n more) ≡ n = omega (arith, length-take n more) in
    let t = number_takes bytes more n fits a.1 in
    let parts : more ≡ take n more ++ drop n more = sym (take-append-drop n more) in
    let whole : bytes ≡ spelled_bytes (take n more) ++ drop n more =
    t.1 ∙ ap (λ (l : List ℕ). four_bytes n ++ l) parts ∙ sym (append_assoc (four_bytes n) (take n more) (drop n more))
    ∙ ap (λ (k : ℕ). (four_bytes k ++ take n more) ++ drop n more) (sym len) in
    let made : List ℕ × List ℕ = (take n more, drop n more) in
    subst (λ (y : List ℕ × List ℕ). Unit {0} × (bytes ≡ spelled_bytes y.0 ++ y.1)) (some_is made (x, rest) g.1) (tt, whole)

bytes_again : (bytes rest x : List ℕ) → Unit {0} → bytes ≡ spelled_bytes x ++ rest → bytes_at bytes ≡ Some (x, rest)
unfolding bytes_at
bytes_again bytes rest x h e =
    let first = number_again bytes (x ++ rest) (length x) tt (e ∙ append_assoc (four_bytes (length x)) x rest) in
    let long : ltb (length (x ++ rest)) (length x) ≡ false = le-ltb _ _ (omega (arith, length-append x rest)) in
    rw (first, long, take_at x rest (length x) refl, drop_at x rest (length x) refl) refl

pub bytes_format : IsFormat (λ (x : List ℕ). Unit {0}) spelled_bytes bytes_at
bytes_format = record { takes = bytes_takes; again = bytes_again }

text_takes : (bytes rest x : List ℕ) → IsBytes bytes → text_at bytes ≡ Some (x, rest) → IsUtf8 x × (bytes ≡ spelled_bytes x ++ rest)
unfolding text_at
text_takes bytes rest x fits e =
    let a = bind_some (bytes_at bytes) (λ t. cond (is_utf8 t.0) (Some t) None) (x, rest) e in
    let g = kept (is_utf8 a.0.0) (Some a.0) (x, rest) a.2 in
    let t = bytes_takes bytes a.0.1 a.0.0 fits a.1 in
    subst (λ (y : List ℕ × List ℕ). IsUtf8 y.0 × (bytes ≡ spelled_bytes y.0 ++ y.1)) (some_is a.0 (x, rest) g.1) (IsUtf8-from_is_utf8 a.0.0 g.0, t.1)

text_again : (bytes rest x : List ℕ) → IsUtf8 x → bytes ≡ spelled_bytes x ++ rest → text_at bytes ≡ Some (x, rest)
unfolding text_at
text_again bytes rest x h e = rw (bytes_again bytes rest x tt e, is_utf8-from_IsUtf8 x h) refl

pub text_format : IsFormat IsUtf8 spelled_bytes text_at
text_format = record { takes = text_takes; again = text_again }

-- lists and options

parts_take : {A : Type 0} (F : A → Type 0) (s : A → List ℕ) (r : Reading A) → IsFormat F s r → (n : ℕ) (bytes rest : List ℕ) (xs : List A) → IsBytes bytes → parts_at r n bytes ≡ Some (xs, rest)
    → AllByRecursion F xs × (length xs ≡ n) × (bytes ≡ flat_map s xs ++ rest)
parts_take {A = A} F s r f zero bytes rest xs fits e =
    let none : List A × List ℕ = ([], bytes) in
    subst (λ (y : List A × List ℕ). AllByRecursion F y.0 × (length y.0 ≡ 0) × (bytes ≡ flat_map s y.0 ++ y.1)) (some_is none (xs, rest) e) (tt, refl, refl)
parts_take {A = A} F s r f (suc n) bytes rest xs fits e =
    let a = bind_some (r bytes) (λ x. parts_at r n x.1 >>= λ ys. Some (x.0 ∷ ys.0, ys.1)) (xs, rest) e in
    let b = bind_some (parts_at r n a.0.1) (λ ys. Some (a.0.0 ∷ ys.0, ys.1)) (xs, rest) a.2 in
    let h = f.takes bytes a.0.1 a.0.0 fits a.1 in
    let k = parts_take F s r f n a.0.1 b.0.1 b.0.0 (behind bytes (s a.0.0) a.0.1 fits h.1) b.1 in
    let whole : bytes ≡ (s a.0.0 ++ flat_map s b.0.0) ++ b.0.1 = h.1 ∙ ap (λ (l : List ℕ). s a.0.0 ++ l) k.2 ∙ sym (append_assoc (s a.0.0) (flat_map s b.0.0) b.0.1) in
    let made : List A × List ℕ = (a.0.0 ∷ b.0.0, b.0.1) in
    let result : AllByRecursion F made.0 × (length made.0 ≡ suc n) × (bytes ≡ flat_map s made.0 ++ made.1) = ((h.0, k.0), ap suc k.1, whole) in
    subst (λ (y : List A × List ℕ). AllByRecursion F y.0 × (length y.0 ≡ suc n) × (bytes ≡ flat_map s y.0 ++ y.1)) (some_is made (xs, rest) b.2) result

parts_again : {A : Type 0} (F : A → Type 0) (s : A → List ℕ) (r : Reading A) → IsFormat F s r → (xs : List A) (bytes rest : List ℕ) → AllByRecursion F xs → bytes ≡ flat_map s xs ++ rest
    → parts_at r (length xs) bytes ≡ Some (xs, rest)
parts_again F s r f [] bytes rest h e = ap (λ (b : List ℕ). Some ([], b)) e
parts_again F s r f (x ∷ xs) bytes rest h e =
    let e1 : bytes ≡ s x ++ (flat_map s xs ++ rest) = e ∙ append_assoc (s x) (flat_map s xs) rest in
    let first = f.again bytes (flat_map s xs ++ rest) x h.0 e1 in
    let second = parts_again F s r f xs (flat_map s xs ++ rest) rest h.1 refl in
    rw (first, second) refl

pub list_format : {A : Type 0} (F : A → Type 0) (s : A → List ℕ) (r : Reading A) → IsFormat F s r → IsFormat (AllByRecursion F) (spelled_list s) (list_at r)
unfolding list_at
list_format {A = A} F s r f = record { takes = takes; again = again }
  where
    takes : (bytes rest : List ℕ) (xs : List A) → IsBytes bytes → list_at r bytes ≡ Some (xs, rest) → AllByRecursion F xs × (bytes ≡ spelled_list s xs ++ rest)
    takes bytes rest xs fits e =
        let a = bind_some (number_at bytes) (λ n. parts_at r n.0 n.1) (xs, rest) e in
        let t = number_takes bytes a.0.1 a.0.0 fits a.1 in
        let k = parts_take F s r f a.0.0 a.0.1 rest xs (behind bytes (four_bytes a.0.0) a.0.1 fits t.1) a.2 in
        (k.0, t.1 ∙ ap (λ (l : List ℕ). four_bytes a.0.0 ++ l) k.2 ∙ sym (append_assoc (four_bytes a.0.0) (flat_map s xs) rest) ∙ ap (λ (n : ℕ). (four_bytes n ++ flat_map s xs) ++ rest) (sym k.1))

    again : (bytes rest : List ℕ) (xs : List A) → AllByRecursion F xs → bytes ≡ spelled_list s xs ++ rest → list_at r bytes ≡ Some (xs, rest)
    again bytes rest xs h e =
        let e1 : bytes ≡ four_bytes (length xs) ++ (flat_map s xs ++ rest) = e ∙ append_assoc (four_bytes (length xs)) (flat_map s xs) rest in
        let first = number_again bytes (flat_map s xs ++ rest) (length xs) tt e1 in
        let second = parts_again F s r f xs (flat_map s xs ++ rest) rest h refl in
        rw first second

pub option_format : {A : Type 0} (F : A → Type 0) (s : A → List ℕ) (r : Reading A) → IsFormat F s r → IsFormat (λ o. IfSome o F) (spelled_option s) (option_at r)
unfolding option_at
option_format {A = A} F s r f = record { takes = takes; again = again }
  where
    none : Option A
    none = None

    some_takes : (flag : ℕ) (more rest : List ℕ) (o : Option A) → IsBytes (flag ∷ more) → flag ≡ 1 → made_at Some r more ≡ Some (o, rest) → IfSome o F × (flag ∷ more ≡ spelled_option s o ++ rest)
    some_takes flag more rest o fits is e =
        let a = bind_some (r more) (λ y. Some (Some y.0, y.1)) (o, rest) e in
        let h = f.takes more a.0.1 a.0.0 (λ i. fits (suc i)) a.1 in
        let made : Option A × List ℕ = (Some a.0.0, a.0.1) in
        let whole : flag ∷ more ≡ 1 ∷ (s a.0.0 ++ a.0.1) = ap (λ (b : ℕ). b ∷ more) is ∙ ap (λ (l : List ℕ). 1 ∷ l) h.1 in
        subst (λ (y : Option A × List ℕ). IfSome y.0 F × (flag ∷ more ≡ spelled_option s y.0 ++ y.1)) (some_is made (o, rest) a.2) (h.0, whole)

    takes : (bytes rest : List ℕ) (o : Option A) → IsBytes bytes → option_at r bytes ≡ Some (o, rest) → IfSome o F × (bytes ≡ spelled_option s o ++ rest)
    takes [] rest o fits e = absurd cc
    takes (flag ∷ more) rest o fits e =
        elim (eqb flag 0) as (λ b. eqb flag 0 ≡ b → cond b (Some (none, more)) (cond (eqb flag 1) (made_at Some r more) None) ≡ Some (o, rest) → IfSome o F × (flag ∷ more ≡ spelled_option s o ++ rest)) [
          | true ↦ λ is h.
              let made : Option A × List ℕ = (none, more) in
              let whole : flag ∷ more ≡ 0 ∷ more = ap (λ (b : ℕ). b ∷ more) (eqb-true _ _ is) in
              subst (λ (y : Option A × List ℕ). IfSome y.0 F × (flag ∷ more ≡ spelled_option s y.0 ++ y.1)) (some_is made (o, rest) h) (tt, whole)
          | false ↦ λ is h.
              let k = kept (eqb flag 1) (made_at Some r more) (o, rest) h in
              some_takes flag more rest o fits (eqb-true _ _ k.0) k.1
        ] refl e

    again : (bytes rest : List ℕ) (o : Option A) → IfSome o F → bytes ≡ spelled_option s o ++ rest → option_at r bytes ≡ Some (o, rest)
    again bytes rest None h e = rw e refl
    again bytes rest (Some x) h e =
        let first = f.again (s x ++ rest) rest x h refl in
        rw (e, first) refl
