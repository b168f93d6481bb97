-- What is read of a string, and where it lies.
use Rattle.std.proofs.Common.{◌≡◌, ℕ, suc, ◌+◌, ◌-◌, ◌≤◌, ◌<◌, Bool, true, false, cond, List, [], ◌∷◌, ◌++◌, length, get_or, take, drop, Option, Some, None, refl, sym, ap, subst, ◌∙◌, arith, inl, inr, ◌⊎◌, length-append}
use Rattle.std.specs.Prelude.{nat_eq, ◌&&◌}
use Rattle.std.specs.Str.{IsCharBoundary, IsUtf8}
use Rattle.std.proofs.lemmas.Str.{IsCharBoundary-before_ascii, IsCharBoundary-after_ascii}
use Rattle.std.proofs.lemmas.Bool.{eqb-true}
use Rattle.std.proofs.lemmas.List.{get_or-drop, drop_at}
use Rattle.rnv_package_json.specs.declared.text.Within.{Within}
use Rattle.rnv_package_json.specs.declared.text.Within.TheVariants.{Plain}
use Rattle.rnv_package_json.specs.Rest.{IsRest}
use Rattle.rnv_package_json.specs.Text.{after_text, is_inside, is_plain, next}
use Rattle.rnv_package_json.specs.Read.{expect}
use Rattle.rnv_package_json.proofs.Rests.{IsRest-drop}

pub chosen : {A : Type 0} (b : Bool) (x y z : A) → cond b x y ≡ z → ((b ≡ true) × (x ≡ z)) ⊎ ((b ≡ false) × (y ≡ z))
chosen true x y z e = inl (refl, e)
chosen false x y z e = inr (refl, e)

pub and_true : (a b : Bool) → (a && b) ≡ true → (a ≡ true) × (b ≡ true)
and_true true b e = (refl, e)
and_true false b e = absurd cc

pub expect-takes : (c : ℕ) (xs rest : List ℕ) → expect c xs ≡ Some rest → xs ≡ c ∷ rest
expect-takes c [] rest e = absurd cc
expect-takes c (x ∷ xs) rest e =
    elim (chosen (nat_eq x c) (Some xs) None (Some rest) e) [
      | inl h ↦ let same = eqb-true x c h.0 in cc
      | inr h ↦ absurd cc
    ]

pub after_text-takes : (w : Option Within) (xs rest : List ℕ) → after_text w xs ≡ Some rest → (s : List ℕ) × (xs ≡ s ++ 34 ∷ rest) × (is_inside w s ≡ true)
after_text-takes None xs rest e = absurd cc
after_text-takes (Some w) [] rest e = absurd cc
after_text-takes (Some w) (x ∷ xs) rest e =
    elim (chosen (is_plain w && nat_eq x 34) (Some xs) (after_text (next w x) xs) (Some rest) e) [
      | inl h ↦
          let both = and_true (is_plain w) (nat_eq x 34) h.0 in
          let same = eqb-true x 34 both.1 in
          let rests : xs ≡ rest = cc in
          ([], ap (λ (l : List ℕ). x ∷ l) rests ∙ ap (λ (n : ℕ). n ∷ rest) same, both.0)
      | inr h ↦
          let more = after_text-takes (next w x) xs rest h.1 in
          (x ∷ more.0, ap (λ (l : List ℕ). x ∷ l) more.1, rw (h.0, more.2) refl)
    ]

pub get_or-rest : (file rest : List ℕ) (c : ℕ) → IsRest file (c ∷ rest) → get_or file (length file - length (c ∷ rest)) 0 ≡ c
get_or-rest file rest c h =
    let at : get_or (drop (length file - length (c ∷ rest)) file) 0 0 ≡ c = rw (← h.same) refl in
    let zero_more : length file - length (c ∷ rest) ≡ (length file - length (c ∷ rest)) + 0 = omega arith in
    ap (λ (k : ℕ). get_or file k 0) zero_more ∙ sym (get_or-drop (length file - length (c ∷ rest)) file 0 0) ∙ at

-- the string that lies between two quotes
pub record Quoted (file bytes inside rest : List ℕ) : Type 0 where
  pub opened : bytes ≡ 34 ∷ inside
  pub text : List ℕ
  pub closed : inside ≡ text ++ 34 ∷ rest
  pub valid : is_inside (Some Plain) text ≡ true

pub is_quoted : (file bytes inside rest : List ℕ) → expect 34 bytes ≡ Some inside → after_text (Some Plain) inside ≡ Some rest → Quoted file bytes inside rest
is_quoted file bytes inside rest a b =
    let t = after_text-takes (Some Plain) inside rest b in
    record { opened = expect-takes 34 bytes inside a; text = t.0; closed = t.1; valid = t.2 }

pub starts : (file bytes inside rest : List ℕ) → IsUtf8 file → IsRest file bytes → Quoted file bytes inside rest → IsCharBoundary file (length file - length inside)
starts file bytes inside rest utf8 h q =
    let whole : IsRest file (34 ∷ inside) = subst (λ (b : List ℕ). IsRest file b) q.opened h in
    let within = whole.within in
    let byte = get_or-rest file inside 34 whole in
    let at : (length file - length (34 ∷ inside)) + 1 ≡ length file - length inside = omega arith in
    subst (λ (n : ℕ). IsCharBoundary file n) at (IsCharBoundary-after_ascii file (length file - length (34 ∷ inside)) utf8 (omega arith) (omega arith))

pub closing : (file bytes inside rest : List ℕ) → IsRest file bytes → Quoted file bytes inside rest → IsRest file (34 ∷ rest)
closing file bytes inside rest h q =
    let whole : IsRest file (34 ∷ inside) = subst (λ (b : List ℕ). IsRest file b) q.opened h in
    let len = length-append q.text (34 ∷ rest) ∙ sym refl in
    let long : length inside ≡ length q.text + length (34 ∷ rest) = rw (q.closed) (length-append q.text (34 ∷ rest)) in
    let back : drop (suc (length q.text)) (34 ∷ inside) ≡ 34 ∷ rest = rw (q.closed) (drop_at q.text (34 ∷ rest) (length q.text) refl) in
    subst (λ (b : List ℕ). IsRest file b) back (IsRest-drop file (34 ∷ inside) (suc (length q.text)) whole (omega arith))

pub ends : (file bytes inside rest : List ℕ) → IsRest file bytes → Quoted file bytes inside rest → IsCharBoundary file (length file - length rest - 1)
ends file bytes inside rest h q =
    let end = closing file bytes inside rest h q in
    let within = end.within in
    let byte = get_or-rest file rest 34 end in
    let at : length file - length (34 ∷ rest) ≡ length file - length rest - 1 = omega arith in
    subst (λ (n : ℕ). IsCharBoundary file n) at (IsCharBoundary-before_ascii file (length file - length (34 ∷ rest)) (omega arith) (omega arith))

pub in_order : (file bytes inside rest : List ℕ) → IsRest file bytes → Quoted file bytes inside rest → length file - length inside ≤ length file - length rest - 1
in_order file bytes inside rest h q =
    let long : length inside ≡ length q.text + length (34 ∷ rest) = rw (q.closed) (length-append q.text (34 ∷ rest)) in
    let end = (closing file bytes inside rest h q).within in
    omega arith

pub between : (file bytes inside rest : List ℕ) → IsRest file bytes → Quoted file bytes inside rest → take ((length file - length rest - 1) - (length file - length inside)) (drop (length file - length inside) file) ≡ take (length inside - length rest - 1) inside
between file bytes inside rest h q =
    let whole : IsRest file (34 ∷ inside) = subst (λ (b : List ℕ). IsRest file b) q.opened h in
    let inner = IsRest-drop file (34 ∷ inside) 1 whole (omega arith) in
    let within = whole.within in
    let long : length inside ≡ length q.text + length (34 ∷ rest) = rw (q.closed) (length-append q.text (34 ∷ rest)) in
    let n : (length file - length rest - 1) - (length file - length inside) ≡ length inside - length rest - 1 = omega arith in
    ap (λ (k : ℕ). take k (drop (length file - length inside) file)) n ∙ ap (λ (l : List ℕ). take (length inside - length rest - 1) l) (sym inner.same)

pub has_room : (file bytes inside rest : List ℕ) → IsRest file bytes → Quoted file bytes inside rest → ((length file - length rest - 1) - (length file - length inside)) + length rest < length file
has_room file bytes inside rest h q =
    let whole : IsRest file (34 ∷ inside) = subst (λ (b : List ℕ). IsRest file b) q.opened h in
    let within = whole.within in
    let long : length inside ≡ length q.text + length (34 ∷ rest) = rw (q.closed) (length-append q.text (34 ∷ rest)) in
    omega arith
