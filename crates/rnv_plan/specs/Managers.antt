-- Which manager takes a file, by the last part of its path, and how it reads one.
use Rattle.std.specs.Prelude.{ℕ, List, Bool, ◌==◌, ◌||◌, if◌then◌else◌, Option, Some, None, codes}
use Rattle.std.specs.List.{after_last, starts_with}
use Rattle.std.specs.Cmp.Lexicographic.{pointwise}
use Rattle.rnv_base.specs.declared.kinds.ManagerKind.{ManagerKind}
use Rattle.rnv_base.specs.declared.kinds.ManagerKind.TheVariants.{Cargo, Npm, Dockerfile, Regex}
use Rattle.rnv_manager.specs.Marks.{Mark}
use Rattle.rnv_cargo.specs.Grammar as cargo
use Rattle.rnv_docker.specs.Grammar as docker
use Rattle.rnv_package_json.specs.Grammar as npm

-- what stands behind the last slash, or all where there is none
abbrev pub last_segment : List ℕ → List ℕ
last_segment path = after_last (λ b. b == 47) path

abbrev pub is_dockerfile : List ℕ → Bool
is_dockerfile name = pointwise ◌==◌ name (codes "Dockerfile") || pointwise ◌==◌ name (codes "Containerfile") || starts_with ◌==◌ name (codes "Dockerfile.")

abbrev pub manager_named : List ℕ → Option ManagerKind
manager_named name =
    if pointwise ◌==◌ name (codes "package.json") then Some Npm
    else (if pointwise ◌==◌ name (codes "Cargo.toml") then Some Cargo
    else (if is_dockerfile name then Some Dockerfile else None))

-- the manager that takes the file at this path, if one does
unfoldable pub manager_of : List ℕ → Option ManagerKind
manager_of path = manager_named (last_segment path)

-- these are the gaps and finds that the manager reads in a text, by its grammar: that of a `Cargo.toml`, of a
-- `package.json`, of a Dockerfile; no file is taken by an expression, and none is read by one
abbrev pub IsReadBy : ManagerKind → List ℕ → List Mark → Type 0
IsReadBy Cargo text marks = cargo.IsRead text marks
IsReadBy Npm text marks = npm.IsRead text marks
IsReadBy Dockerfile text marks = docker.IsRead text marks
IsReadBy Regex text marks = ⊥
