-- One more turn of a loop over a list.
use Rattle.std.proofs.Common.{◌≡◌, ℕ, ◌+◌, ◌<◌, ◌≤◌, zero, suc, List, [], ◌∷◌, ◌++◌, Bool, true, false, ◌&&◌, length, get_or, take, drop, refl, sym, ap, ap₂, subst, ◌∙◌, add-one, arith, Err}
use Rattle.std.specs.List.{list_all}
use Rattle.std.proofs.Math.Seq.{drop-cons}
use Rattle.std.proofs.lemmas.List.{map-append, take_more}
use Rattle.rnv_pattern.specs.Patterns.{IsWholeExpression, pattern_text}
use Rattle.rnv_pattern.specs.declared.pattern.Pattern.{Pattern}
use Rattle.rnv_options.specs.Customs.{AreWhole, texts_built}
use Rattle.rnv_options.specs.Readings.{Each, IsOneMore, Lists, TellsTest}
use Rattle.rnv_options.specs.declared.error.Wrong.{Wrong}
use Rattle.rnv_options.specs.declared.error.Wrong.TheVariants.{WrongKind, BadValue, Memory}

pub none-dropped : {A : Type 0} (xs : List A) → drop 0 xs ≡ xs
none-dropped [] = refl
none-dropped (x ∷ xs) = refl

pub none-taken : {A : Type 0} (xs : List A) → take 0 xs ≡ []
none-taken [] = refl
none-taken (x ∷ xs) = refl

-- the first of what is left
pub cut : {A : Type 0} (xs : List A) (i : ℕ) (x : A) → x ≡ get_or xs i x → i < length xs → drop i xs ≡ x ∷ drop (i + 1) xs
cut {A} xs i x is lt = rw add-one (drop-cons xs i x lt ∙ ap (λ (y : A). y ∷ drop (suc i) xs) (sym is))

pub each-more : {A : Type 0} (P : A → Type 0) (xs : List A) (x : A) → Each P xs → P x → Each P (xs ++ x ∷ [])
each-more P [] x all one = (one, tt)
each-more P (y ∷ ys) x all one = (all.0, each-more P ys x all.1 one)

pub each-grown : {A : Type 0} (P : A → Type 0) (old new : List A) → Each P old → IsOneMore P old new → Each P new
each-grown P old new all (x, is, one) = subst (Each P) (sym is) (each-more P old x all one)

-- ---- expressions

pub texts-more : (texts : Lists) (i : ℕ) (text : List ℕ) (old new : List Pattern) → text ≡ get_or texts i text → i < length texts → texts_built old ≡ take i texts → IsOneMore (IsWholeExpression text) old new → texts_built new ≡ take (i + 1) texts
texts-more texts i text old new is lt so_far (p, grown, one) =
    ap texts_built grown ∙ map-append pattern_text old (p ∷ []) ∙ ap₂ (λ (a : Lists) (b : Lists). a ++ b) so_far (ap (λ (t : List ℕ). t ∷ []) (one.text_is ∙ is))
    ∙ sym (take_more texts i text lt)

pub whole-more : (text : List ℕ) (old new : List Pattern) → AreWhole old → IsOneMore (IsWholeExpression text) old new → AreWhole new
whole-more text old new all (p, grown, one) =
    each-grown (λ q. IsWholeExpression (pattern_text q) q) old new all (p, grown, subst (λ (t : List ℕ). IsWholeExpression t p) (sym one.text_is) one)

pub passed-more : (test : List ℕ → Bool) (texts : Lists) (i : ℕ) (text : List ℕ) (all : Bool) → text ≡ get_or texts i text → i < length texts → list_all test (drop i texts) ≡ all → test text ≡ true → list_all test (drop (i + 1) texts) ≡ all
passed-more test texts i text all is lt so_far passed =
    sym (ap (λ (b : Bool). b && list_all test (drop (i + 1) texts)) passed) ∙ sym (ap (list_all test) (cut texts i text is lt)) ∙ so_far

pub failed-here : (test : List ℕ → Bool) (texts : Lists) (i : ℕ) (text : List ℕ) (all : Bool) → text ≡ get_or texts i text → i < length texts → list_all test (drop i texts) ≡ all → test text ≡ false → all ≡ false
failed-here test texts i text all is lt so_far failed =
    sym so_far ∙ ap (list_all test) (cut texts i text is lt) ∙ ap (λ (b : Bool). b && list_all test (drop (i + 1) texts)) failed

pub all-dropped : {A : Type 0} (i : ℕ) (xs : List A) → length xs ≤ i → drop i xs ≡ []
all-dropped zero [] le = refl
all-dropped (suc i) [] le = refl
all-dropped zero (x ∷ xs) le = absurd (omega (arith, le))
all-dropped (suc i) (x ∷ xs) le = all-dropped i xs (omega (arith, le))

pub passed-all : (test : List ℕ → Bool) (texts : Lists) (i : ℕ) (all : Bool) → length texts ≤ i → list_all test (drop i texts) ≡ all → all ≡ true
passed-all test texts i all le so_far = sym so_far ∙ ap (list_all test) (all-dropped i texts le)

pub failed-for : (T U : Type 0) (cause : Wrong) (test : List ℕ → Bool) (texts : Lists) (i : ℕ) (text : List ℕ) (all : Bool) → text ≡ get_or texts i text → i < length texts → list_all test (drop i texts) ≡ all → TellsTest {T = T} (Err cause) (test text) → TellsTest {T = U} (Err cause) all
failed-for T U WrongKind test texts i text all is lt so_far h = absurd h
failed-for T U BadValue test texts i text all is lt so_far h = failed-here test texts i text all is lt so_far h
failed-for T U Memory test texts i text all is lt so_far h = tt
