-- Lists in the order of a text: files by path, branches and repositories by name.
use Rattle.std.specs.Prelude.{ℕ, not, List, [], ◌∷◌, Option}
use Rattle.std.specs.List.{filter, find}
use Rattle.std.specs.declared.cmp.Ordering.{Ordering}
use Rattle.std.specs.declared.cmp.Ordering.TheVariants.{Less, Equal, Greater}
use Rattle.std.specs.Ordering.{nat_cmp}
use Rattle.std.specs.Cmp.Lexicographic.{slice_cmp}
use Rattle.std.specs.Str.{bytes_eq}
pub use Rattle.rnv_base.specs.Files.{AreInOrder, IsRisingBy}

-- the one of this name
abbrev pub at : {X : Type 0} → (X → List ℕ) → List ℕ → List X → Option X
at key name xs = find (λ x. bytes_eq (key x) name) xs

-- x, which stands so to y, put before y and the others, in place of y, or behind it
abbrev pub put_beside : {X : Type 0} → Ordering → X → X → List X → List X → List X
put_beside Less x y ys more = x ∷ y ∷ ys
put_beside Equal x y ys more = x ∷ ys
put_beside Greater x y ys more = y ∷ more

-- the list with x in its place, and no other one of its name
abbrev pub put : {X : Type 0} → (X → List ℕ) → X → List X → List X
put key x [] = x ∷ []
put key x (y ∷ ys) = put_beside (slice_cmp nat_cmp (key x) (key y)) x y ys (put key x ys)

abbrev pub without : {X : Type 0} → (X → List ℕ) → List ℕ → List X → List X
without key name xs = filter (λ x. not (bytes_eq (key x) name)) xs
