-- The file of a base at a path.
use Rattle.std.specs.Option.{option_map}
use Rattle.rnv_repo.specs.Base.{path_of}
use Rattle.rnv_repo.specs.Files.{MarkedFile}
use Rattle.rnv_patch.specs.Patch.{text_at}
use Rattle.std.proofs.Common.{◌≡◌, ◌∙◌, ℕ, suc, ◌+◌, ◌<◌, ◌≤◌, true, false, cond, List, [], ◌∷◌, length, get_or, Option, None, Some, refl, sym, ap, arith}
use Rattle.std.specs.Prelude.{is_some}
use Rattle.std.specs.List.{prefix_len}
use Rattle.std.specs.Str.{bytes_eq}
use Rattle.std.specs.declared.cmp.Ordering.TheVariants.{Less, Equal, Greater}
use Rattle.std.specs.Ordering.{is_lt}
use Rattle.rnv_repo.specs.Named.{IsRisingBy, at}
use Rattle.rnv_repo.proofs.Places.{found_at}
use Rattle.rnv_repo.proofs.Texts.{cmp, less_other, same_texts}

-- the one of a name is the one behind those below it
pub there : {X : Type 0} (key : X → List ℕ) (name : List ℕ) (xs : List X) (n : ℕ) (d : X) → n ≡ prefix_len (λ y. is_lt (cmp (key y) name)) xs → n < length xs
    → bytes_eq (key (get_or xs n d)) name ≡ true → at key name xs ≡ Some (get_or xs n d)
there key name [] n d count within same = absurd (omega arith)
there key name (y ∷ ys) n d count within same =
    elim (cmp (key y) name) as (λ o. cmp (key y) name ≡ o → n ≡ cond (is_lt o) (1 + prefix_len (λ z. is_lt (cmp (key z) name)) ys) 0 → at key name (y ∷ ys) ≡ Some (get_or (y ∷ ys) n d)) [
      | Less ↦ λ is e.
          let m = prefix_len (λ z. is_lt (cmp (key z) name)) ys in
          let next : n ≡ suc m = omega arith in
          let more = there key name ys m d refl (omega arith) (rw next at same) in
          ap (λ t. cond t (Some y) (at key name ys)) (less_other (key y) name is) ∙ more ∙ ap (λ k. Some (get_or (y ∷ ys) k d)) (sym next)
      | Equal ↦ λ is e. ap (λ t. cond t (Some y) (at key name ys)) (same_texts (key y) name is) ∙ ap (λ k. Some (get_or (y ∷ ys) k d)) (sym e)
      | Greater ↦ λ is e.
          let here : bytes_eq (key y) name ≡ true = rw e at same in
          ap (λ t. cond t (Some y) (at key name ys)) here ∙ ap (λ k. Some (get_or (y ∷ ys) k d)) (sym e)
    ] refl count

nothing : {X : Type 0} (o : Option X) → false ≡ is_some o → o ≡ None
nothing None e = refl
nothing (Some x) e = cc

pub missing : {X : Type 0} (key : X → List ℕ) (name : List ℕ) (xs : List X) (n : ℕ) → IsRisingBy key xs → n ≡ prefix_len (λ y. is_lt (cmp (key y) name)) xs
    → ((d : X) → n < length xs → bytes_eq (key (get_or xs n d)) name ≡ false) → at key name xs ≡ None
missing key name xs n rising count other = nothing (at key name xs) (found_at key name xs n false rising count (λ t. cc) other)

pub here : (base : List MarkedFile) (path : List ℕ) (n : ℕ) (f : MarkedFile) (p b : List ℕ) → n ≡ prefix_len (λ g. is_lt (cmp g.path path)) base → n < length base
    → f ≡ get_or base n f → f.path ≡ p → f.bytes ≡ b → true ≡ bytes_eq p path → Some b ≡ text_at path base
here base path n f p b count within got path_is bytes_are same =
    let test : bytes_eq (get_or base n f).path path ≡ true = ap (λ (g : MarkedFile). bytes_eq g.path path) (sym got) ∙ ap (λ q. bytes_eq q path) path_is ∙ sym same in
    ap Some (sym bytes_are) ∙ ap (λ (g : MarkedFile). Some g.bytes) got ∙ sym (ap (λ o. option_map (λ (g : MarkedFile). g.bytes) o) (there path_of path base n f count within test))

pub elsewhere : (base : List MarkedFile) (path : List ℕ) (n : ℕ) (f : MarkedFile) (p : List ℕ) → IsRisingBy path_of base → n ≡ prefix_len (λ g. is_lt (cmp g.path path)) base
    → ((d : MarkedFile) → f ≡ get_or base n d) → f.path ≡ p → false ≡ bytes_eq p path → None ≡ text_at path base
elsewhere base path n f p rising count got path_is other =
    sym (ap (λ o. option_map (λ (g : MarkedFile). g.bytes) o) (missing path_of path base n rising count
    (λ d h. ap (λ (g : MarkedFile). bytes_eq g.path path) (sym (got d)) ∙ ap (λ q. bytes_eq q path) path_is ∙ sym other)))

pub nowhere : (base : List MarkedFile) (path : List ℕ) (n : ℕ) → IsRisingBy path_of base → n ≡ prefix_len (λ g. is_lt (cmp g.path path)) base → length base ≤ n → None ≡ text_at path base
nowhere base path n rising count past =
    sym (ap (λ o. option_map (λ (g : MarkedFile). g.bytes) o) (missing path_of path base n rising count (λ d h. absurd (omega arith))))
