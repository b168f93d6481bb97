-- Texts compared, and what holds of each element.
use Rattle.std.proofs.Common.{◌≡◌, ℕ, true, false, List, [], ◌∷◌, refl, sym, ap, ◌∙◌, nat_cmp}
use Rattle.std.specs.List.{AllByRecursion}
use Rattle.std.specs.Str.{bytes_eq}
use Rattle.std.specs.declared.cmp.Ordering.{Ordering}
use Rattle.std.specs.declared.cmp.Ordering.TheVariants.{Less, Equal, Greater}
use Rattle.std.specs.Ordering.{is_eq, ordering_reverse}
use Rattle.std.specs.Cmp.Lexicographic.{slice_cmp}
use Rattle.std.proofs.lemmas.Cmp.{nat_list_cmp_total}
use Rattle.std.proofs.lemmas.Map.Text.{is_eq-slice_cmp}
use Rattle.std.proofs.lemmas.Slice.Eq.{bytes_eq-Decides}

abbrev pub cmp : List ℕ → List ℕ → Ordering
cmp = slice_cmp nat_cmp

-- names compared

pub less_other : (a b : List ℕ) → cmp a b ≡ Less → bytes_eq a b ≡ false
less_other a b e = sym (is_eq-slice_cmp a b) ∙ ap is_eq e

pub greater_other : (a b : List ℕ) → cmp a b ≡ Greater → bytes_eq a b ≡ false
greater_other a b e = sym (is_eq-slice_cmp a b) ∙ ap is_eq e

pub less_back : (a b : List ℕ) → cmp a b ≡ Less → cmp b a ≡ Greater
less_back a b e = nat_list_cmp_total.antisymm b a ∙ ap ordering_reverse e

pub greater_back : (a b : List ℕ) → cmp a b ≡ Greater → cmp b a ≡ Less
greater_back a b e = nat_list_cmp_total.antisymm b a ∙ ap ordering_reverse e

pub same_texts : (a b : List ℕ) → cmp a b ≡ Equal → bytes_eq a b ≡ true
same_texts a b e = sym (is_eq-slice_cmp a b) ∙ ap is_eq e

pub bytes_true : (xs ys : List ℕ) → bytes_eq xs ys ≡ true → xs ≡ ys
bytes_true xs ys e = (bytes_eq-Decides xs ys).0 e

pub bytes_refl : (xs : List ℕ) → bytes_eq xs xs ≡ true
bytes_refl xs = (bytes_eq-Decides xs xs).1 refl

eq_is : (o : Ordering) → is_eq o ≡ true → o ≡ Equal
eq_is Less e = cc
eq_is Equal e = refl
eq_is Greater e = cc

pub equal_texts : (a b : List ℕ) → bytes_eq a b ≡ true → cmp a b ≡ Equal
equal_texts a b e = eq_is (cmp a b) (is_eq-slice_cmp a b ∙ e)

pub all_weaker : {X : Type 0} (P Q : X → Type 0) → ((x : X) → P x → Q x) → (xs : List X) → AllByRecursion P xs → AllByRecursion Q xs
all_weaker P Q f [] a = tt
all_weaker P Q f (x ∷ xs) a = (f x a.0, all_weaker P Q f xs a.1)

pub equal_back : (a b : List ℕ) → cmp a b ≡ Equal → cmp b a ≡ Equal
equal_back a b e = nat_list_cmp_total.antisymm b a ∙ ap ordering_reverse e
