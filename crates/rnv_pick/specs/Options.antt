-- What a configuration says of dependencies and updates.
use Rattle.std.specs.Prelude.{ℕ, Bool, List, Option}
use Rattle.rnv_base.specs.declared.kinds.UpdateKind.{UpdateKind}
use Rattle.rnv_pick.specs.declared.dep.Dep.{Dep}
use Rattle.rnv_pick.specs.declared.options.DepOptions.{DepOptions}
use Rattle.rnv_pick.specs.declared.options.UpdateOptions.{UpdateOptions}

-- of a dependency with its current version: whether it is ignored, its options, and those of its
-- update of a kind to a value
pub record Options : Type 0 where
  pub is_ignored : Dep → Bool
  pub at_dep : Dep → DepOptions
  pub at_update : Dep → UpdateKind → List ℕ → UpdateOptions

-- a dependency with this current version
abbrev pub with_current : Dep → Option (List ℕ) → Dep
with_current dep current = record dep { current = current }
