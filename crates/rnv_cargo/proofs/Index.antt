-- The first package with each text, and that a look into it does not miss one.
use Rattle.std.proofs.Common.{◌≡◌, ℕ, zero, suc, ◌<◌, ◌≤◌, Bool, true, false, cond, List, [], ◌∷◌, ◌++◌, length, drop, get_or, Option, Some, None, refl, sym, ap, subst, ◌∙◌, arith, inl, inr, drop-cons}
use Rattle.std.specs.Prelude.{◌&&◌, slice_get}
use Rattle.std.specs.List.{find}
use Rattle.std.specs.Option.{option_map_or}
use Rattle.std.specs.Str.{bytes_eq}
use Rattle.std.proofs.lemmas.Bool.{cases_Bool}
use Rattle.std.proofs.lemmas.Option.{same_Some}
use Rattle.std.proofs.lemmas.Slice.Eq.{bytes_eq-Decides}
use Rattle.rnv_cargo.specs.declared.role.Spot.{Spot}
use Rattle.rnv_cargo.specs.Roles.{Table, Standing, standing, top, target, target_of, workspace, among, entry, version, «package», other}
use Rattle.rnv_cargo.specs.Grammar.{same_target, is_same, is_package_of}
use Rattle.rnv_cargo.specs.Read.{spots_view, package_at}
use Rattle.rnv_cargo.specs.Named.{lines_of, key_of, package_key, has_key}
use Rattle.rnv_cargo.proofs.Strings.{if-true, if-false, and_true}

step : (p : Spot → Bool) (xs : List Spot) (i j : ℕ) (x : Spot) → i ≡ suc j → i ≤ length xs → x ≡ get_or xs j x → find p (drop j xs) ≡ cond (p x) (Some x) (find p (drop i xs))
step p xs i j x e h is =
    ap (find p) (drop-cons xs j x (let k : j < length xs = omega arith in k))
    ∙ (λ k. cond (p (sym is k)) (Some (sym is k)) (find p (drop (sym e k) xs)))

key-is : (s : Spot) (n key : List ℕ) → package_key (standing s.role) ≡ Some key → has_key n s ≡ bytes_eq key n
key-is s n key e = ap (λ (o : Option (List ℕ)). option_map_or (λ k. bytes_eq k n) o false) e

no-key : (s : Spot) (n : List ℕ) → package_key (standing s.role) ≡ None → has_key n s ≡ false
no-key s n e = ap (λ (o : Option (List ℕ)). option_map_or (λ k. bytes_eq k n) o false) e

pub place-is : (xs : List Spot) (j : ℕ) (x : Spot) → slice_get xs j ≡ Some x → x ≡ get_or xs j x
place-is [] j x e = absurd cc
place-is (y ∷ xs) zero x e = sym (same_Some y x e)
place-is (y ∷ xs) (suc j) x e = place-is xs j x e

pub set_first : (xs : List Spot) (n key : List ℕ) (i j : ℕ) (x : Spot) (old new : Option Spot) → i ≡ suc j → i ≤ length xs → x ≡ get_or xs j x → package_key (standing x.role) ≡ Some key
    → new ≡ cond (bytes_eq key n) (Some x) old → old ≡ find (has_key n) (drop i xs) → new ≡ find (has_key n) (drop j xs)
set_first xs n key i j x old new e h is named set told =
    set ∙ (ap (λ (o : Option Spot). cond (bytes_eq key n) (Some x) o) told
    ∙ (ap (λ (b : Bool). cond b (Some x) (find (has_key n) (drop i xs))) (sym (key-is x n key named)) ∙ sym (step (has_key n) xs i j x e h is)))

pub skip_first : (xs : List Spot) (n : List ℕ) (i j : ℕ) (x : Spot) (had : Option Spot) → i ≡ suc j → i ≤ length xs → x ≡ get_or xs j x → package_key (standing x.role) ≡ None → had ≡ find (has_key n) (drop i xs) → had ≡ find (has_key n) (drop j xs)
skip_first xs n i j x had e h is none told =
    told ∙ (sym (if-false (has_key n x) (Some x) (find (has_key n) (drop i xs)) (no-key x n none)) ∙ sym (step (has_key n) xs i j x e h is))

same-target : (a b : Option (List ℕ)) → same_target a b ≡ true → b ≡ a
same-target None None e = refl
same-target None (Some y) e = absurd cc
same-target (Some x) None e = absurd cc
same-target (Some x) (Some y) e = ap Some (sym ((bytes_eq-Decides x y).0 e))

-- a name of the same table has the same text
same-key : (t : Table) (n : List ℕ) (u : Table) (k : List ℕ) → is_same t n u k ≡ true → key_of u k ≡ key_of t n
same-key t n u k e =
    let outer = and_true (same_target t.target u.target && bytes_eq t.place u.place) (bytes_eq n k) e in
    let inner = and_true (same_target t.target u.target) (bytes_eq t.place u.place) outer.0 in
    let targets = same-target t.target u.target inner.0 in
    let places = sym ((bytes_eq-Decides t.place u.place).0 inner.1) in
    let names = sym ((bytes_eq-Decides n k).0 outer.1) in
    ap (λ (x : Option (List ℕ)). lines_of u.place x ++ 10 ∷ k) targets
    ∙ (ap (λ (p : List ℕ). lines_of p t.target ++ 10 ∷ k) places ∙ ap (λ (m : List ℕ). lines_of t.place t.target ++ 10 ∷ m) names)

equal : (a b : List ℕ) → a ≡ b → bytes_eq a b ≡ true
equal a b e = (bytes_eq-Decides a b).1 e

-- a package of the name in the table has its text
package-key : (t : Table) (n : List ℕ) (st : Standing) → is_package_of t n st ≡ true → option_map_or (λ k. bytes_eq k (key_of t n)) (package_key st) false ≡ true
package-key t n top e = e
package-key t n target e = e
package-key t n (target_of x) e = e
package-key t n workspace e = e
package-key t n (among u) e = e
package-key t n (entry u k) e = e
package-key t n (version u k) e = e
package-key t n («package» u k) e = equal (key_of u k) (key_of t n) (same-key t n u k e)
package-key t n other e = e

no-package : (t : Table) (n : List ℕ) (s : Spot) → has_key (key_of t n) s ≡ false → is_package_of t n (standing s.role) ≡ false
no-package t n s e =
    elim (cases_Bool (is_package_of t n (standing s.role))) [
      | inl h ↦ absurd (let wrong = package-key t n (standing s.role) h in cc)
      | inr h ↦ h
    ]

package-none : (ss : List Spot) (t : Table) (n : List ℕ) → find (has_key (key_of t n)) ss ≡ None → package_at (spots_view ss) t n ≡ n
package-none [] t n e = refl
package-none (s ∷ ss) t n e =
    elim (cases_Bool (has_key (key_of t n) s)) [
      | inl h ↦ absurd (let wrong : Some s ≡ None = sym (if-true (has_key (key_of t n) s) (Some s) (find (has_key (key_of t n)) ss) h) ∙ e in cc)
      | inr h ↦ if-false (is_package_of t n (standing s.role)) s.value.now (package_at (spots_view ss) t n) (no-package t n s h) ∙ package-none ss t n (sym (if-false (has_key (key_of t n) s) (Some s) (find (has_key (key_of t n)) ss) h) ∙ e)
    ]

package-some : (ss : List Spot) (t : Table) (n : List ℕ) (x : Spot) → find (has_key (key_of t n)) ss ≡ Some x → is_package_of t n (standing x.role) ≡ true → package_at (spots_view ss) t n ≡ x.value.now
package-some [] t n x e p = absurd cc
package-some (s ∷ ss) t n x e p =
    elim (cases_Bool (has_key (key_of t n) s)) [
      | inl h ↦
          let same = same_Some s x (sym (if-true (has_key (key_of t n) s) (Some s) (find (has_key (key_of t n)) ss) h) ∙ e) in
          if-true (is_package_of t n (standing s.role)) s.value.now (package_at (spots_view ss) t n) (subst (λ (y : Spot). is_package_of t n (standing y.role) ≡ true) (sym same) p) ∙ ap (λ (y : Spot). y.value.now) same
      | inr h ↦ if-false (is_package_of t n (standing s.role)) s.value.now (package_at (spots_view ss) t n) (no-package t n s h) ∙ package-some ss t n x (sym (if-false (has_key (key_of t n) s) (Some s) (find (has_key (key_of t n)) ss) h) ∙ e) p
    ]

-- the same, by a text that is that of the name in the table
pub none-there : (ss : List Spot) (t : Table) (n key : List ℕ) → key ≡ key_of t n → find (has_key key) ss ≡ None → package_at (spots_view ss) t n ≡ n
none-there ss t n key is e = package-none ss t n (subst (λ (k : List ℕ). find (has_key k) ss ≡ None) is e)

pub first-there : (ss : List Spot) (t : Table) (n key : List ℕ) (x : Spot) → key ≡ key_of t n → find (has_key key) ss ≡ Some x → is_package_of t n (standing x.role) ≡ true → package_at (spots_view ss) t n ≡ x.value.now
first-there ss t n key x is e p = package-some ss t n x (subst (λ (k : List ℕ). find (has_key k) ss ≡ Some x) is e) p
