-- A test of bytes tells whether two lines are equal.
use Rattle.std.proofs.Common.{◌≡◌, ◌∙◌, ◌↔◌, ℕ, ◌≢◌, ◌==◌, suc, Some, Bool, true, false, List, [], ◌∷◌, length, IsTrue, refl, sym, subst, arith}
use Rattle.std.proofs.lemmas.Bool.{false≢true, eqb-true}
use Rattle.std.specs.Bool.{Decides}
use Rattle.std.specs.Str.{bytes_eq}
use Rattle.std.proofs.lemmas.Slice.Eq.{bytes_eq-Decides}

pub same_lines : (r : Bool) (x y u v : List ℕ) → r ≡ bytes_eq u v → x ≡ u → y ≡ v → IsTrue r ↔ (x ≡ y)
same_lines r x y u v e a b =
    let d = subst (λ (t : Bool). Decides t (u ≡ v)) (sym e) (bytes_eq-Decides u v) in
    ((λ t. a ∙ d.0 t ∙ sym b), (λ s. d.1 (sym a ∙ s ∙ b)))

pub other_texts : (x y : List ℕ) → false ≡ bytes_eq x y → Some x ≢ Some y
other_texts x y e s =
    let same : x ≡ y = cc in
    false≢true ((subst (λ (t : Bool). Decides t (x ≡ y)) (sym e) (bytes_eq-Decides x y)).1 same)

pub no_bytes : (text : List ℕ) → true ≡ (length text == 0) → text ≡ []
no_bytes [] e = refl
no_bytes (b ∷ bs) e = let long : suc (length bs) ≡ 0 = eqb-true (suc (length bs)) 0 (sym e) in absurd (omega arith)
