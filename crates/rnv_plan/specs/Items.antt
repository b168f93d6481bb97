-- The branches of a list of updates.
use Rattle.std.specs.Prelude.{◌≡◌, ◌==◌, ℕ, ℤ, pos, List, [], ◌≢◌, Bool, codes, false, filter, option_map, unwrap_or}
use Rattle.std.specs.List.{All, Any}
use Rattle.std.specs.List.Sorted.{IsStrictlySortedBy}
use Rattle.std.specs.Ordering.{int_cmp, nat_cmp, on, then_cmp, flip_args, is_gt}
use Rattle.std.specs.Cmp.Lexicographic.{pointwise, slice_cmp}
use Rattle.std.specs.declared.cmp.Ordering.{Ordering}
use Rattle.rnv_base.specs.Kinds.{rank}
use Rattle.rnv_base.specs.declared.kinds.UpdateKind.{UpdateKind}
use Rattle.rnv_base.specs.declared.kinds.UpdateKind.TheVariants as kind
use Rattle.rnv_base.specs.declared.kinds.SourceKind.{SourceKind}
use Rattle.rnv_base.specs.declared.kinds.SourceKind.TheVariants as source
use Rattle.rnv_npm.specs.Version.{npm_version}
use Rattle.rnv_version.specs.Cargo.{cargo_version}
use Rattle.rnv_version.specs.Docker.{docker_tag}
use Rattle.rnv_pick.specs.declared.update.Update.{Update}
use Rattle.rnv_plan.specs.declared.group.Group.{Group}
use Rattle.rnv_plan.specs.Branch.{branch_of}

-- the first number of a version of the source, 0 for a text that is none
abbrev pub major_of : SourceKind → List ℕ → ℕ
major_of source.Crates text = unwrap_or (option_map (λ v. v.major) (cargo_version text)) 0
major_of source.Npm text = unwrap_or (option_map (λ v. v.major) (npm_version text)) 0
major_of source.Docker text = unwrap_or (option_map (λ t. t.numbers.major) (docker_tag text)) 0

-- all pins have one branch; another update has that of its package and its new first number
abbrev pub branch_for : UpdateKind → Update → List ℕ
branch_for kind.Pin u = codes "renovate/pin-dependencies"
branch_for _ u = branch_of u.dep.package (major_of u.dep.source u.new_version)

-- the branch that an update belongs to
abbrev pub branch_name : Update → List ℕ
branch_name u = branch_for u.kind u

abbrev pub is_on : List ℕ → Update → Bool
is_on branch u = pointwise ◌==◌ (branch_name u) branch

-- the kind of some update, and no update's is above it
pub record IsGreatestKind (k : UpdateKind) (updates : List Update) : Type 0 where
  pub among : Any (λ u. u.kind ≡ k) updates
  pub greatest : All (λ u. is_gt (nat_cmp (rank u.kind) (rank k)) ≡ false) updates

-- the greatest priority of updates: no option gives one another than 0
abbrev pub priority_of : List Update → ℤ
priority_of updates = pos 0

-- the item of a branch: all its updates in their order, at least one, and the greatest of their kinds and of their
-- priorities
pub record IsGroup (updates : List Update) (item : Group) : Type 0 where
  pub some : item.updates ≢ []
  pub all : item.updates ≡ filter (is_on item.branch) updates
  pub greatest : IsGreatestKind item.kind item.updates
  pub priority : item.priority ≡ priority_of item.updates

-- item order: by priority, the highest first, then by kind, then by name
abbrev pub item_cmp : Group → Group → Ordering
item_cmp = then_cmp (then_cmp (on (λ i. i.priority) (flip_args int_cmp)) (on (λ i. rank i.kind) nat_cmp)) (on (λ i. i.branch) (slice_cmp nat_cmp))

-- the items of a list of updates, in item order
pub record AreGroups (updates : List Update) (items : List Group) : Type 0 where
  pub rising : IsStrictlySortedBy item_cmp items
  pub each : All (IsGroup updates) items
  pub every : All (λ u. Any (λ i. i.branch ≡ branch_name u) items) updates
