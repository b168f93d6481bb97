-- The glob of a text is what its grammar reads, and nothing else.
use Rattle.std.proofs.Common.{◌≡◌, ◌≢◌, ℕ, zero, suc, ◌+◌, ◌<◌, ◌≤◌, List, [], ◌∷◌, ◌++◌, Option, Some, None, Bool, true, false, cond, refl, sym, ap, subst, ◌∙◌, inl, inr, length, arith, not, ◌&&◌, true≢false}
use Rattle.std.specs.Prelude.{◌==◌, nat_le, ◌⊎◌, ◌↔◌, option_map, option_and_then, is_some}
use Rattle.std.specs.Bool.{Decides}
use Rattle.std.specs.Str.{chars, bytes_eq}
use Rattle.std.proofs.lemmas.Option.{same_Some}
use Rattle.std.proofs.lemmas.Bool.{leb-true, le-leb}
use Rattle.std.proofs.lemmas.Slice.Eq.{bytes_eq-Decides}
use Rattle.rnv_pattern.specs.Laws.{GlobByText}
use Rattle.rnv_pattern.specs.Meaning.{few_globs, glob_of, is_glob, parts_from, parts_in, parts_of, parts_of_all}
use Rattle.rnv_pattern.specs.Reading.{AreParts, AreReadAs, IsGlob, IsReadAs, after_star, after_stars, behind, class_inside, class_of, class_with, globs, part_of, ranges_of}
use Rattle.rnv_pattern.specs.declared.part.Part.{Part}
use Rattle.rnv_pattern.specs.declared.part.Part.TheVariants.{Anything, Folders, Run}
use Rattle.rnv_pattern.specs.declared.part.Range.{Range}

-- ---- what is read is gone

abbrev rest_len : {A : Type 0} → Option (A × List ℕ) → ℕ
rest_len None = 0
rest_len (Some (x, rest)) = length rest

either-short : {A : Type 0} (b : Bool) (x y : Option (A × List ℕ)) (n : ℕ) → rest_len x ≤ n → rest_len y ≤ n → rest_len (cond b x y) ≤ n
either-short true x y n p q = p
either-short false x y n p q = q

behind-short : {A : Type 0} (before : List A) (o : Option (List A × List ℕ)) (n : ℕ) → rest_len o ≤ n → rest_len (behind before o) ≤ n
behind-short before None n p = p
behind-short before (Some (x, rest)) n p = p

ranges-short : (t : List ℕ) → rest_len (ranges_of t) ≤ length t
ranges-short [] = omega arith
ranges-short (c ∷ []) = either-short (c == 93) _ _ 1 (omega arith) (omega arith)
ranges-short (c ∷ d ∷ []) = either-short (c == 93) _ _ 2 (omega arith) (behind-short (record { first = c; last = c } ∷ []) (ranges_of (d ∷ [])) 2 (let h = ranges-short (d ∷ []) in omega arith))
ranges-short (c ∷ d ∷ e ∷ rest) =
    let n = length (c ∷ d ∷ e ∷ rest) in
    either-short (c == 93) _ _ n (omega arith)
    (either-short (d == 45 && not (e == 93)) _ _ n
    (either-short (nat_le c e) _ _ n (behind-short (record { first = c; last = e } ∷ []) (ranges_of rest) n (let h = ranges-short rest in omega arith)) (omega arith))
    (behind-short (record { first = c; last = c } ∷ []) (ranges_of (d ∷ e ∷ rest)) n (let h = ranges-short (d ∷ e ∷ rest) in omega arith)))

with-short : (negated : Bool) (o : Option (List Range × List ℕ)) → rest_len (class_with negated o) ≤ rest_len o
with-short negated None = omega arith
with-short negated (Some ([], rest)) = omega arith
with-short negated (Some (r ∷ rs, rest)) = omega arith

inside-short : (t : List ℕ) → length (class_inside t).1 ≤ length t
inside-short [] = omega arith
inside-short (c ∷ rest) = elim (c == 33) as (λ b. length (cond {A = Bool × List ℕ} b (true, rest) (false, c ∷ rest)).1 ≤ length (c ∷ rest)) [ true ↦ omega arith | false ↦ omega arith ]

class-short : (t : List ℕ) → rest_len (class_of t) ≤ length t
class-short t =
    let a = with-short (class_inside t).0 (ranges_of (class_inside t).1) in
    let b = ranges-short (class_inside t).1 in
    let c = inside-short t in omega arith

stars-short : (t : List ℕ) → length (after_stars t).1 ≤ length t
stars-short [] = omega arith
stars-short (c ∷ rest) = elim (c == 47) as (λ b. length (cond {A = Part × List ℕ} b (Folders, rest) (Anything, c ∷ rest)).1 ≤ length (c ∷ rest)) [ true ↦ omega arith | false ↦ omega arith ]

star-short : (t : List ℕ) → length (after_star t).1 ≤ length t
star-short [] = omega arith
star-short (c ∷ rest) = elim (c == 42) as (λ b. length (cond {A = Part × List ℕ} b (after_stars rest) (Run, c ∷ rest)).1 ≤ length (c ∷ rest)) [ true ↦ (let h = stars-short rest in omega arith) | false ↦ omega arith ]

pair-short : (p : Part × List ℕ) (n : ℕ) → length p.1 ≤ n → rest_len (Some p) ≤ n
pair-short (x, rest) n h = h

part-short : (c : ℕ) (rest : List ℕ) → rest_len (part_of (c ∷ rest)) ≤ length rest
part-short c rest =
    let n = length rest in
    either-short (c == 42) _ _ n (pair-short (after_star rest) n (star-short rest))
    (either-short (c == 63) _ _ n (omega arith) (either-short (c == 91) _ _ n (class-short rest) (omega arith)))

-- ---- options

-- which side a choice gave
pub chosen : {A : Type 0} (b : Bool) (x y : Option A) (v : A) → cond b x y ≡ Some v → ((b ≡ true) × (x ≡ Some v)) ⊎ ((b ≡ false) × (y ≡ Some v))
chosen true x y v e = inl (refl, e)
chosen false x y v e = inr (refl, e)

pub mapped : {A B : Type 0} (f : A → B) (o : Option A) (v : B) → option_map f o ≡ Some v → (x : A) × (o ≡ Some x) × (f x ≡ v)
mapped f None v e = absurd cc
mapped f (Some x) v e = (x, refl, same_Some (f x) v e)

chained : {A B : Type 0} (f : A → Option B) (o : Option A) (v : B) → option_and_then f o ≡ Some v → (x : A) × (o ≡ Some x) × (f x ≡ Some v)
chained f None v e = absurd cc
chained f (Some x) v e = (x, refl, e)

pub bad-false : (b : Bool) → (b ≡ true → ⊥) → b ≡ false
bad-false true h = absurd (h refl)
bad-false false h = refl

-- ---- parts

from-parts : (n : ℕ) (text : List ℕ) (parts : List Part) (o : Option (Part × List ℕ)) → part_of text ≡ o → ((r : List ℕ) (ps : List Part) → parts_in n r ≡ Some ps → AreParts ps r) → parts_from (parts_in n) o ≡ Some parts → AreParts parts text
from-parts n text parts None e next t = absurd cc
from-parts n text parts (Some (p, rest)) e next t =
    let more = mapped (λ (ps : List Part). p ∷ ps) (parts_in n rest) parts t in
    subst (λ (ps : List Part). AreParts ps text) more.2 (rest, e, next rest more.0 more.1)

no-parts : (parts : List Part) → Some [] ≡ Some parts → AreParts parts []
no-parts parts t = let e : [] ≡ parts = same_Some [] parts t in subst (λ (ps : List Part). AreParts ps []) e refl

parts-found : (n : ℕ) (text : List ℕ) (parts : List Part) → parts_in n text ≡ Some parts → AreParts parts text
parts-found zero [] parts t = no-parts parts t
parts-found zero (c ∷ rest) parts t = absurd cc
parts-found (suc n) [] parts t = no-parts parts t
parts-found (suc n) (c ∷ rest) parts t = from-parts n (c ∷ rest) parts (part_of (c ∷ rest)) refl (parts-found n) t

abbrev read_as : Part → List ℕ → Option (Part × List ℕ)
read_as x u = Some (x, u)

none-left : (p : Part) (parts : List Part) → AreParts (p ∷ parts) [] → ⊥
none-left p parts (r, e, more) = let gone : None ≡ read_as p r = e in absurd cc

parts-made : (n : ℕ) (text : List ℕ) (parts : List Part) → AreParts parts text → length text ≤ n → parts_in n text ≡ Some parts
parts-made zero [] [] h l = refl
parts-made zero [] (p ∷ parts) h l = absurd (none-left p parts h)
parts-made zero (c ∷ rest) parts h l = absurd (omega arith)
parts-made (suc n) [] [] h l = refl
parts-made (suc n) [] (p ∷ parts) h l = absurd (none-left p parts h)
parts-made (suc n) (c ∷ rest) [] h l = let gone : (c ∷ rest) ≡ [] = h in absurd cc
parts-made (suc n) (c ∷ rest) (p ∷ parts) (r, e, more) l =
    let short : rest_len (part_of (c ∷ rest)) ≤ length rest = part-short c rest in
    let short : length r ≤ length rest = subst (λ (o : Option (Part × List ℕ)). rest_len o ≤ length rest) e short in
    ap (parts_from (parts_in n)) e ∙ ap (option_map (λ (ps : List Part). p ∷ ps)) (parts-made n r parts more (omega arith))

-- ---- one glob

glob-found : (text : List ℕ) (parts : List Part) → parts_of text ≡ Some parts → IsReadAs text parts
glob-found text parts t =
    let star = bytes_eq-Decides text (42 ∷ []) in
    elim (chosen (bytes_eq text (42 ∷ [])) (Some (Anything ∷ [])) (parts_in (length text) text) parts t) [
      | inl (alone, e) ↦ inl (star.0 alone, sym (same_Some (Anything ∷ []) parts e))
      | inr (other, e) ↦ inr ((λ s. true≢false (sym (star.1 s) ∙ other)), parts-found (length text) text parts e)
    ]

glob-made : (text : List ℕ) (parts : List Part) → IsReadAs text parts → parts_of text ≡ Some parts
glob-made text parts h =
    let star = bytes_eq-Decides text (42 ∷ []) in
    let choice : Bool → Option (List Part) = λ b. cond b (Some (Anything ∷ [])) (parts_in (length text) text) in
    elim h [
      | inl (s, e) ↦ ap choice (star.1 s) ∙ ap Some (sym e)
      | inr (s, e) ↦ ap choice (bad-false (bytes_eq text (42 ∷ [])) (λ t. s (star.0 t))) ∙ parts-made (length text) text parts e (omega arith)
    ]

-- ---- several

all-found : (texts : List (List ℕ)) (all : List (List Part)) → parts_of_all texts ≡ Some all → AreReadAs texts all
all-found [] all t = let e : [] ≡ all = same_Some [] all t in subst (AreReadAs []) e tt
all-found (x ∷ xs) all t =
    let one = chained (λ (parts : List Part). option_map (λ (rest : List (List Part)). parts ∷ rest) (parts_of_all xs)) (parts_of (chars x)) all t in
    let more = mapped (λ (rest : List (List Part)). one.0 ∷ rest) (parts_of_all xs) all one.2 in
    subst (AreReadAs (x ∷ xs)) more.2 (glob-found (chars x) one.0 one.1, all-found xs more.0 more.1)

all-made : (texts : List (List ℕ)) (all : List (List Part)) → AreReadAs texts all → parts_of_all texts ≡ Some all
all-made [] [] h = refl
all-made [] (p ∷ ps) h = absurd h
all-made (x ∷ xs) [] h = absurd h
all-made (x ∷ xs) (p ∷ ps) h =
    ap (option_and_then (λ (parts : List Part). option_map (λ (rest : List (List Part)). parts ∷ rest) (parts_of_all xs))) (glob-made (chars x) p h.0)
    ∙ ap (option_map (λ (rest : List (List Part)). p ∷ rest)) (all-made xs ps h.1)

globs-found : (text : List ℕ) (parts : List (List Part)) → glob_of text ≡ Some parts → IsGlob text parts
globs-found text parts t =
    let one = chained few_globs (globs text) parts t in
    elim (chosen (nat_le (length one.0) 256) (parts_of_all one.0) None parts one.2) [
      | inl (few, e) ↦ (one.0, one.1, leb-true (length one.0) 256 few, all-found one.0 parts e)
      | inr (many, e) ↦ absurd cc
    ]

pub globs-made : (text : List ℕ) (parts : List (List Part)) → IsGlob text parts → glob_of text ≡ Some parts
globs-made text parts (texts, e, few, h) =
    ap (option_and_then few_globs) e ∙ ap (λ (b : Bool). cond b (parts_of_all texts) None) (le-leb (length texts) 256 few) ∙ all-made texts parts h

pub globs-by-text : GlobByText
globs-by-text text parts = (globs-found text parts, globs-made text parts)

some-of : {A : Type 0} (o : Option A) → is_some o ≡ true → (x : A) × (o ≡ Some x)
some-of None e = absurd (true≢false (sym e))
some-of (Some x) e = (x, refl)

-- the test for globs is true exactly of the texts that are globs
pub glob-decides : (text : List ℕ) → Decides (is_glob text) ((parts : List (List Part)) × IsGlob text parts)
glob-decides text = (
  (λ t. let found = some-of (glob_of text) t in (found.0, globs-found text found.0 found.1)),
  (λ (parts, h). ap is_some (globs-made text parts h)),
)
