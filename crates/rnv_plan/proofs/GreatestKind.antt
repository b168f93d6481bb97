-- The greatest kind of a list of updates.
use Rattle.std.proofs.Common.{◌≡◌, ℕ, suc, ◌≤◌, ◌⊎◌, List, [], ◌∷◌, false, get_or, refl, sym, ◌∙◌, ap, subst, inl, inr, arith}
use Rattle.std.specs.Prelude.{◌≢◌, fold}
use Rattle.std.specs.List.{All, Any}
use Rattle.std.specs.Ordering.{nat_cmp, is_gt}
use Rattle.std.proofs.lemmas.Bool.Decides.{nat_tests}
use Rattle.std.proofs.lemmas.List.Elements.{All-cons, All-nil, All-weaker}
use Rattle.rnv_base.specs.Kinds.{rank}
use Rattle.rnv_base.specs.declared.kinds.UpdateKind.{UpdateKind}
use Rattle.rnv_base.specs.declared.kinds.UpdateKind.TheVariants as kind
use Rattle.rnv_pick.specs.declared.update.Update.{Update}
use Rattle.rnv_plan.specs.Items.{IsGreatestKind}
use Rattle.rnv_plan.specs.Groups.{higher, greatest_kind}

-- ---- an element of a list

any-head : {X : Type 0} (P : X → Type 0) (x : X) (xs : List X) → P x → Any P (x ∷ xs)
any-head P x xs here = (0, x, omega arith, refl, here)

any-tail : {X : Type 0} (P : X → Type 0) (x : X) (xs : List X) → Any P xs → Any P (x ∷ xs)
any-tail P x xs there = (suc there.0, there.1, omega (arith, there.2), there.3, there.4)

-- ---- the higher of two kinds

above-left : (a b : UpdateKind) → rank a ≤ rank (higher a b)
above-left a b = grind (arith, nat_tests)

above-right : (a b : UpdateKind) → rank b ≤ rank (higher a b)
above-right a b = grind (arith, nat_tests)

either : (a b : UpdateKind) → (higher a b ≡ a) ⊎ (higher a b ≡ b)
either a b = grind (arith, nat_tests)

-- ---- the greatest from a kind on

abbrev from : UpdateKind → List Update → UpdateKind
from k us = fold (λ kind u. higher kind u.kind) k us

above-start : (k : UpdateKind) (us : List Update) → rank k ≤ rank (from k us)
above-start k [] = omega arith
above-start k (u ∷ us) = omega (arith, above-left k u.kind, above-start (higher k u.kind) us)

above-each : (k : UpdateKind) (us : List Update) → All (λ u. rank u.kind ≤ rank (from k us)) us
above-each k [] = All-nil (λ (u : Update). rank u.kind ≤ rank k)
above-each k (u ∷ us) = All-cons (λ (v : Update). rank v.kind ≤ rank (from (higher k u.kind) us)) u us
    (omega (arith, above-right k u.kind, above-start (higher k u.kind) us)) (above-each (higher k u.kind) us)

among : (k : UpdateKind) (us : List Update) → (from k us ≡ k) ⊎ Any (λ u. u.kind ≡ from k us) us
among k [] = inl refl
among k (u ∷ us) =
    let P : Update → Type 0 = λ v. v.kind ≡ from (higher k u.kind) us in
    elim (among (higher k u.kind) us) [
      | inl start ↦ elim (either k u.kind) [
        | inl left ↦ inl (start ∙ left)
        | inr right ↦ inr (any-head P u us (sym right ∙ sym start))
      ]
      | inr some ↦ inr (any-tail P u us some)
    ]

higher-pin : (k : UpdateKind) → higher kind.Pin k ≡ k
higher-pin kind.Pin = refl
higher-pin kind.Patch = refl
higher-pin kind.Minor = refl
higher-pin kind.Major = refl

not-above : (m n : ℕ) → m ≤ n → is_gt (nat_cmp m n) ≡ false
not-above m n below = grind (arith, nat_tests)

pub is_greatest_kind : (us : List Update) → us ≢ [] → IsGreatestKind (greatest_kind us) us
is_greatest_kind [] some = absurd (some refl)
is_greatest_kind (u ∷ us) some =
    let P : Update → Type 0 = λ v. v.kind ≡ greatest_kind (u ∷ us) in
    record {
      among = elim (among (higher kind.Pin u.kind) us) [
        | inl start ↦ any-head P u us (sym (start ∙ higher-pin u.kind))
        | inr there ↦ any-tail P u us there
      ];
      greatest = All-weaker (λ (v : Update). rank v.kind ≤ rank (greatest_kind (u ∷ us))) (λ (v : Update). is_gt (nat_cmp (rank v.kind) (rank (greatest_kind (u ∷ us)))) ≡ false)
          (λ v below. not-above _ _ below) (u ∷ us) (above-each kind.Pin (u ∷ us));
    }

-- ---- two greatest kinds of one list are one

rank-apart : (a b : UpdateKind) → rank a ≡ rank b → a ≡ b
rank-apart a b same = grind arith

below : (m n : ℕ) → is_gt (nat_cmp m n) ≡ false → m ≤ n
below m n not = grind (arith, nat_tests)

not-higher : (us : List Update) (a b : UpdateKind) → IsGreatestKind a us → IsGreatestKind b us → rank a ≤ rank b
not-higher us a b left right =
    let some = left.among in
    let is : (get_or us some.0 some.1).kind ≡ a = ap (λ (v : Update). v.kind) some.3 ∙ some.4 in
    subst (λ (k : UpdateKind). rank k ≤ rank b) is (below _ _ (right.greatest some.0 some.1 some.2))

pub one_greatest_kind : (us : List Update) (a b : UpdateKind) → IsGreatestKind a us → IsGreatestKind b us → a ≡ b
one_greatest_kind us a b left right = rank-apart a b (omega (arith, not-higher us a b left right, not-higher us b a right left))
