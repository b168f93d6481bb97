-- The packages of dependencies, by their names.
use Rattle.std.specs.Prelude.{◌≡◌, ℕ, List, true, false}
use Rattle.std.specs.List.{All, Any, Contains}
use Rattle.std.specs.BTreeSet.{BTreeSet, contains, keys, IsOrdered}
use Rattle.std.specs.Ordering.{nat_cmp}
use Rattle.std.specs.Cmp.Lexicographic.{slice_cmp}
use Rattle.std.specs.declared.cmp.Ordering.TheVariants.{Less}
use Rattle.rnv_base.specs.declared.kinds.SourceKind.{SourceKind}
use Rattle.rnv_base.specs.Files.{NamedFile}
use Rattle.rnv_pick.specs.declared.dep.Dep.{Dep}
use Rattle.rnv_plan.specs.declared.error.RunError.{RunError}
use Rattle.rnv_plan.specs.Gather.{index_for, is_sound, IsSound}
use Rattle.rnv_plan.specs.Refusal.{IsIndexRefusal}

-- the names of the packages of dependencies
pub record AreNames (deps : List Dep) (names : BTreeSet (List ℕ)) : Type 0 where
  pub each : All (λ name. Any (λ d. d.«package» ≡ name) deps) (keys names)
  pub every : All (λ d. contains (slice_cmp nat_cmp) names d.«package» ≡ true) deps
  pub rising : IsOrdered (slice_cmp nat_cmp) names

-- the first of these names whose document is refused
pub record IsFirstUnsoundName (files : List NamedFile) (source : SourceKind) (names : List (List ℕ)) (name : List ℕ) : Type 0 where
  pub among : Contains names name
  pub unsound : is_sound (index_for files source name) ≡ false
  pub before : All (λ n. slice_cmp nat_cmp n name ≡ Less → IsSound files source n) names

-- and why it is refused
pub record HasUnsoundName (files : List NamedFile) (source : SourceKind) (names : List (List ℕ)) (error : RunError) : Type 0 where
  pub name : List ℕ
  pub first : IsFirstUnsoundName files source names name
  pub cause : IsIndexRefusal source name (index_for files source name) error
