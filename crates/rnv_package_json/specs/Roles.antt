-- Which texts of a package.json are finds.
use Rattle.std.specs.Prelude.{ℕ, List, Bool, ◌&&◌, ◌||◌, ◌==◌, not, nat_le, if◌then◌else◌, codes}
use Rattle.std.specs.List.{list_all}
use Rattle.std.specs.Str.{bytes_eq}
use Rattle.rnv_base.specs.declared.kinds.SourceKind.TheVariants.{Npm}
use Rattle.rnv_manager.specs.Marks.{Slot}
use Rattle.rnv_package_json.specs.declared.role.Role.{Role}
use Rattle.rnv_package_json.specs.declared.role.Role.TheVariants as role

-- What a value is to the finds: the file's object, the value of a place, the value of a place's member with
-- its name, or another one.
pub data Standing : Type 0 where
  top : Standing
  among : List ℕ → Standing
  entry : List ℕ → List ℕ → Standing
  other : Standing

abbrev pub standing : Role → Standing
standing role.Top = top
standing (role.Place p) = among p.now
standing (role.Entry p n) = entry p.now n.now
standing role.Other = other

abbrev pub is_place : List ℕ → Bool
is_place name = bytes_eq name (codes "dependencies") || bytes_eq name (codes "devDependencies") || bytes_eq name (codes "optionalDependencies") || bytes_eq name (codes "peerDependencies")

-- what a member's value is, by the member's name
abbrev pub named : Standing → List ℕ → Standing
named top name = if is_place name then among name else other
named (among place) name = entry place name
named (entry place name) inner = other
named other name = other

abbrev pub is_clean_byte : ℕ → Bool
is_clean_byte x = nat_le 32 x && not (x == 92) && not (x == 127)

-- no control character and no backslash
abbrev pub is_clean : List ℕ → Bool
is_clean s = list_all is_clean_byte s

-- the package of a find is its name
abbrev pub slot : List ℕ → List ℕ → Slot
slot place name = record { name = name; «package» = name; place = place; source = Npm }
