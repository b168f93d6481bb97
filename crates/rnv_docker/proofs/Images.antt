-- The last colon of an image.
use Rattle.std.proofs.Common.{◌≡◌, ℕ, suc, ◌+◌, ◌<◌, get_or, IsUtf8, IsCharBoundary, length-take, true, false, List, [], ◌∷◌, ◌++◌, length, take, drop, Option, Some, None, refl, sym, ap, subst, ◌∙◌, arith, inl, inr, length-append, append_assoc}
use Rattle.std.specs.Prelude.{nat_eq, not, ◌&&◌, ◌||◌, Bool, codes, option_and_then}
use Rattle.std.specs.Str.{bytes_eq}
use Rattle.std.specs.List.{list_all}
use Rattle.std.proofs.lemmas.Bool.{cases_Bool}
use Rattle.std.proofs.lemmas.Bool.Decides.{nat_tests}
use Rattle.std.proofs.lemmas.Str.{IsCharBoundary-after_ascii}
use Rattle.std.proofs.lemmas.List.{append-nil, take_at, get_or_at}
use Rattle.std.proofs.lemmas.Option.{same_Some}
use Rattle.rnv_docker.specs.Images.{parted, at_colon, is_plain_byte, is_passed, is_tag, if_tag, tagged}
use Rattle.rnv_docker.specs.Read.{IsColon, IsTagged}
use Rattle.rnv_docker.proofs.Bools.{if-true, if-false, and_true, both, neither, not_true, some_or_none}

-- behind a colon stands none
pub at_colon-at : (front behind : List ℕ) → at_colon behind ≡ None → at_colon (front ++ 58 ∷ behind) ≡ Some (front, behind)
at_colon-at [] behind e = rw e refl
at_colon-at (x ∷ front) behind e = ap (parted x (front ++ 58 ∷ behind)) (at_colon-at front behind e)

parted-here : (x : ℕ) (xs : List ℕ) (p : List ℕ × List ℕ) → parted x xs None ≡ Some p → x ∷ xs ≡ p.0 ++ 58 ∷ p.1
parted-here x xs p e =
    elim (cases_Bool (nat_eq x 58)) [
      | inl c ↦
          let q : List ℕ × List ℕ = ([], xs) in
          let same = same_Some q p (sym (if-true (nat_eq x 58) (Some q) None c) ∙ e) in
          let colon : x ≡ 58 = grind (arith, nat_tests) in
          ap (λ (y : ℕ). y ∷ xs) colon ∙ ap (λ (r : List ℕ × List ℕ). r.0 ++ 58 ∷ r.1) same
      | inr c ↦ absurd (let wrong : None ≡ Some p = sym (if-false (nat_eq x 58) (Some ([], xs)) None c) ∙ e in cc)
    ]

pub at_colon-whole : (xs : List ℕ) (p : List ℕ × List ℕ) → at_colon xs ≡ Some p → xs ≡ p.0 ++ 58 ∷ p.1
at_colon-whole [] p e = absurd cc
at_colon-whole (x ∷ xs) p e =
    elim (some_or_none (at_colon xs)) [
      | inl none ↦ parted-here x xs p (ap (parted x xs) (sym none) ∙ e)
      | inr some ↦
          let q : List ℕ × List ℕ = (x ∷ some.0.0, some.0.1) in
          let same = same_Some q p (ap (parted x xs) (sym some.1) ∙ e) in
          ap (λ (l : List ℕ). x ∷ l) (at_colon-whole xs some.0 some.1) ∙ ap (λ (r : List ℕ × List ℕ). r.0 ++ 58 ∷ r.1) same
    ]

-- where no colon stands
pub at_colon-none : (xs : List ℕ) → list_all (λ x. not (nat_eq x 58)) xs ≡ true → at_colon xs ≡ None
at_colon-none [] e = refl
at_colon-none (x ∷ xs) e =
    let h = and_true (not (nat_eq x 58)) (list_all (λ x. not (nat_eq x 58)) xs) e in
    ap (parted x xs) (at_colon-none xs h.1) ∙ if-false (nat_eq x 58) (Some ([], xs)) None (not_true (nat_eq x 58) h.0)

-- what stands behind the rest has no colon
pub record IsLeft (bytes rest : List ℕ) : Type 0 where
  pub behind : List ℕ
  pub whole : bytes ≡ rest ++ behind
  pub none : at_colon behind ≡ None

pub left-all : (bytes : List ℕ) → IsLeft bytes bytes
left-all bytes = record { behind = []; whole = sym (append-nil bytes); none = refl }

pub left-none : (bytes rest : List ℕ) → IsLeft bytes rest → rest ≡ [] → at_colon bytes ≡ None
left-none bytes rest h e = ap at_colon (h.whole ∙ ap (λ (l : List ℕ). l ++ h.behind) e) ∙ h.none

pub left-less : (bytes rest front : List ℕ) (x : ℕ) → IsLeft bytes rest → rest ≡ front ++ x ∷ [] → nat_eq x 58 ≡ false → IsLeft bytes front
left-less bytes rest front x h e c = record {
  behind = x ∷ h.behind;
  whole = h.whole ∙ (ap (λ (l : List ℕ). l ++ h.behind) e ∙ append_assoc front (x ∷ []) h.behind);
  none = ap (parted x h.behind) h.none ∙ if-false (nat_eq x 58) (Some ([], h.behind)) None c;
}

pub left-colon : (bytes rest front : List ℕ) (x : ℕ) → IsLeft bytes rest → rest ≡ front ++ x ∷ [] → nat_eq x 58 ≡ true → IsColon bytes (length front)
left-colon bytes rest front x h e c =
    let colon : x ≡ 58 = grind (arith, nat_tests) in
    let whole : bytes ≡ front ++ 58 ∷ h.behind = h.whole ∙ (ap (λ (l : List ℕ). l ++ h.behind) e ∙ (append_assoc front (x ∷ []) h.behind ∙ ap (λ (y : ℕ). front ++ y ∷ h.behind) colon)) in
    let long = ap length whole in
    let front-is : take (length front) bytes ≡ front = ap (λ (l : List ℕ). take (length front) l) whole ∙ take_at front (58 ∷ h.behind) (length front) refl in
    let back-is : drop (suc (length front)) bytes ≡ h.behind = ap (λ (l : List ℕ). drop (suc (length front)) l) whole ∙ drop-colon front h.behind in
    record {
      within = omega (arith, length-append front (58 ∷ h.behind));
      whole = whole ∙ (ap (λ (l : List ℕ). l ++ 58 ∷ h.behind) (sym front-is) ∙ ap (λ (l : List ℕ). take (length front) bytes ++ 58 ∷ l) (sym back-is));
      is = ap at_colon whole ∙ (at_colon-at front h.behind h.none ∙ (ap (λ (l : List ℕ). halves l h.behind) (sym front-is) ∙ ap (λ (l : List ℕ). halves (take (length front) bytes) l) (sym back-is)));
    } where
      halves : List ℕ → List ℕ → Option (List ℕ × List ℕ)
      halves a b = Some (a, b)

      drop-colon : (a b : List ℕ) → drop (suc (length a)) (a ++ 58 ∷ b) ≡ b
      drop-colon [] b = refl
      drop-colon (y ∷ a) b = drop-colon a b

-- ---- the tag

and-false : (a b : Bool) → b ≡ false → (a && b) ≡ false
and-false true b h = h
and-false false b h = refl

-- a text without a colon is another one
pub other-text : (front behind wanted : List ℕ) → list_all (λ x. not (nat_eq x 58)) wanted ≡ true → bytes_eq (front ++ 58 ∷ behind) wanted ≡ false
other-text [] behind [] e = refl
other-text (x ∷ front) behind [] e = refl
other-text [] behind (c ∷ wanted) e =
    let h = and_true (not (nat_eq c 58)) (list_all (λ x. not (nat_eq x 58)) wanted) e in
    let no : nat_eq 58 c ≡ false = grind (arith, nat_tests) in
    rw no refl
other-text (x ∷ front) behind (c ∷ wanted) e =
    let h = and_true (not (nat_eq c 58)) (list_all (λ x. not (nat_eq x 58)) wanted) e in
    and-false (nat_eq x c) (bytes_eq (front ++ 58 ∷ behind) wanted) (other-text front behind wanted h.1)

-- an image with a colon there, its tag and what is tested of it
pub tagged-some : (image name tag : List ℕ) (at : ℕ) → IsColon image at → name ≡ take at image → tag ≡ drop (suc at) image → list_all is_plain_byte image ≡ true → is_tag tag ≡ true → IsTagged image name tag
tagged-some image name tag at h n t plain good =
    let p : List ℕ × List ℕ = (take at image, drop (suc at) image) in
    let q : List ℕ × List ℕ = (name, tag) in
    let no-scratch : bytes_eq image (codes "scratch") ≡ false = ap (λ (l : List ℕ). bytes_eq l (codes "scratch")) h.whole ∙ other-text (take at image) (drop (suc at) image) (codes "scratch") refl in
    let passed : is_passed [] image ≡ false = neither (bytes_eq image (codes "scratch") || false) (not (list_all is_plain_byte image)) (neither (bytes_eq image (codes "scratch")) false no-scratch refl) (ap not plain) in
    let good-too : is_tag (drop (suc at) image) ≡ true = ap is_tag (sym t) ∙ good in
    let given : if_tag [] image p ≡ Some p = if-true (not (is_passed [] image) && is_tag (drop (suc at) image)) (Some p) None (both (not (is_passed [] image)) (is_tag (drop (suc at) image)) (ap not passed) good-too) in
    let first : p ≡ q = ap (λ (l : List ℕ). halved l (drop (suc at) image)) (sym n) ∙ ap (λ (l : List ℕ). halved name l) (sym t) in
    record { is = ap (option_and_then (if_tag [] image)) h.is ∙ (given ∙ ap (λ (r : List ℕ × List ℕ). Some r) first) } where
      halved : List ℕ → List ℕ → List ℕ × List ℕ
      halved a b = (a, b)

pub tagged-unplain : (image : List ℕ) → list_all is_plain_byte image ≡ false → tagged [] image ≡ None
tagged-unplain image e =
    elim (some_or_none (at_colon image)) [
      | inl none ↦ ap (option_and_then (if_tag [] image)) none
      | inr some ↦
          let passed : is_passed [] image ≡ true = or-true (bytes_eq image (codes "scratch") || false) (not (list_all is_plain_byte image)) (ap not e) in
          let failed : (not (is_passed [] image) && is_tag some.0.1) ≡ false = ap (λ (b : Bool). not b && is_tag some.0.1) passed in
          ap (option_and_then (if_tag [] image)) some.1 ∙ if-false (not (is_passed [] image) && is_tag some.0.1) (Some some.0) None failed
    ] where
      or-true : (a b : Bool) → b ≡ true → (a || b) ≡ true
      or-true true b h = refl
      or-true false b h = h

pub tagged-untagged : (image tag : List ℕ) (at : ℕ) → IsColon image at → tag ≡ drop (suc at) image → is_tag tag ≡ false → tagged [] image ≡ None
tagged-untagged image tag at h t bad =
    let p : List ℕ × List ℕ = (take at image, drop (suc at) image) in
    let failed : (not (is_passed [] image) && is_tag (drop (suc at) image)) ≡ false = and-false (not (is_passed [] image)) (is_tag (drop (suc at) image)) (ap is_tag (sym t) ∙ bad) in
    ap (option_and_then (if_tag [] image)) h.is ∙ if-false (not (is_passed [] image) && is_tag (drop (suc at) image)) (Some p) None failed

-- A text can be cut behind a colon.
pub behind-colon : (text : List ℕ) (at : ℕ) → IsUtf8 text → IsColon text at → IsCharBoundary text (at + 1)
behind-colon text at utf8 h =
    let w = h.within in
    let byte : get_or text at 0 ≡ 58 = ap (λ (l : List ℕ). get_or l at 0) h.whole ∙ get_or_at (take at text) 58 (drop (suc at) text) 0 at (omega (arith, length-take at text)) in
    IsCharBoundary-after_ascii text at utf8 w (omega arith)

pub drop-suc : (image tag : List ℕ) (at : ℕ) → tag ≡ drop (at + 1) image → tag ≡ drop (suc at) image
drop-suc image tag at e = let n : at + 1 ≡ suc at = omega arith in e ∙ ap (λ (k : ℕ). drop k image) n
