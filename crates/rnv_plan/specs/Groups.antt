-- The updates of a branch, and the item that they make.
use Rattle.std.specs.Prelude.{ℕ, List, [], ◌∷◌, Option, None, Some, if◌then◌else◌, nat_lt, filter, fold, map}
use Rattle.rnv_base.specs.Kinds.{rank}
use Rattle.rnv_base.specs.declared.kinds.UpdateKind.{UpdateKind}
use Rattle.rnv_base.specs.declared.kinds.UpdateKind.TheVariants as kind
use Rattle.rnv_pick.specs.declared.update.Update.{Update}
use Rattle.rnv_plan.specs.declared.group.Group.{Group}
use Rattle.rnv_plan.specs.declared.named.NamedUpdate.{NamedUpdate}
use Rattle.rnv_plan.specs.Items.{is_on, priority_of}
use Rattle.rnv_plan.specs.Named.{is_named}

-- a list with an element in it
abbrev pub not_empty : {X : Type 0} → List X → Option (List X)
not_empty [] = None
not_empty (x ∷ xs) = Some (x ∷ xs)

-- the updates on a branch in their order, if there are any
abbrev pub group_of : List ℕ → List Update → Option (List Update)
group_of branch updates = not_empty (filter (is_on branch) updates)

-- the same of updates with the names of their branches
abbrev pub group_in : List ℕ → List NamedUpdate → Option (List Update)
group_in branch updates = not_empty (map (λ n. n.update) (filter (is_named branch) updates))

abbrev pub higher : UpdateKind → UpdateKind → UpdateKind
higher a b = if nat_lt (rank a) (rank b) then b else a

-- the greatest of the updates' kinds, a pin if there are no updates
abbrev pub greatest_kind : List Update → UpdateKind
greatest_kind updates = fold (λ kind u. higher kind u.kind) kind.Pin updates

-- the item of a branch and its updates
abbrev pub item_of : List ℕ × List Update → Group
item_of e = record { branch = e.0; kind = greatest_kind e.1; priority = priority_of e.1; updates = e.1 }
