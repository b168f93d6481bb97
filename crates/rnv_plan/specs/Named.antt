-- Updates with the names of their branches.
use Rattle.std.specs.Prelude.{ℕ, List, ◌==◌, Bool, [], ◌∷◌, if◌then◌else◌, map}
use Rattle.std.specs.Cmp.Lexicographic.{pointwise}
use Rattle.std.specs.List.{flat_map, list_any}
use Rattle.rnv_pick.specs.declared.update.Update.{Update}
use Rattle.rnv_plan.specs.declared.inputs.PickedDep.{PickedDep}
use Rattle.rnv_plan.specs.declared.inputs.PickedFile.{PickedFile}
use Rattle.rnv_plan.specs.declared.named.KeptDep.{KeptDep}
use Rattle.rnv_plan.specs.declared.named.KeptFile.{KeptFile}
use Rattle.rnv_plan.specs.declared.named.NamedUpdate.{NamedUpdate}
use Rattle.rnv_plan.specs.Items.{branch_name}
use Rattle.rnv_plan.specs.Kept.{kept_of}

abbrev pub with_name : Update → NamedUpdate
with_name u = record { branch = branch_name u; update = u }

abbrev pub is_named : List ℕ → NamedUpdate → Bool
is_named branch n = pointwise ◌==◌ n.branch branch

-- those that no later one follows on their branch
abbrev pub last_named : List NamedUpdate → List NamedUpdate
last_named [] = []
last_named (n ∷ ns) = if list_any (is_named n.branch) ns then last_named ns else n ∷ last_named ns

-- the kept updates of a dependency, and those of a file's dependencies in turn
abbrev pub kept_dep : PickedDep → KeptDep
kept_dep d = record { updates = map with_name (kept_of d) }

abbrev pub kept_file : PickedFile → KeptFile
kept_file p = record { deps = map kept_dep p.deps }

-- all of them in turn
abbrev pub named_in : KeptFile → List NamedUpdate
named_in f = flat_map (λ d. d.updates) f.deps

abbrev pub all_named : List KeptFile → List NamedUpdate
all_named files = flat_map named_in files
