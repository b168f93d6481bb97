-- Packages by the text of the table and the name that they belong to.
use Rattle.std.specs.Prelude.{ℕ, List, ◌∷◌, ◌++◌, Bool, false, Option, Some, None}
use Rattle.std.specs.Option.{option_map_or}
use Rattle.std.specs.Str.{bytes_eq}
use Rattle.rnv_cargo.specs.declared.role.Spot.{Spot}
use Rattle.rnv_cargo.specs.Roles.{Table, Standing, standing, top, target, target_of, workspace, among, entry, version, «package», other}

-- the place, and what stands behind `target`, each on a line
abbrev pub lines_of : List ℕ → Option (List ℕ) → List ℕ
lines_of place None = place
lines_of place (Some x) = place ++ 10 ∷ x

-- The lines of the table, and the name on a line. No key of a file has a line end, so two names have one text
-- only where they are the same name of the same table.
abbrev pub key_of : Table → List ℕ → List ℕ
key_of t n = lines_of t.place t.target ++ 10 ∷ n

abbrev pub package_key : Standing → Option (List ℕ)
package_key top = None
package_key target = None
package_key (target_of x) = None
package_key workspace = None
package_key (among t) = None
package_key (entry t n) = None
package_key (version t n) = None
package_key («package» t n) = Some (key_of t n)
package_key other = None

-- a package with that text
abbrev pub has_key : List ℕ → Spot → Bool
has_key key s = option_map_or (λ k. bytes_eq k key) (package_key (standing s.role)) false
