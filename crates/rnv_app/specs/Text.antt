-- What a plan prints.
use Rattle.std.specs.Prelude.{ℕ, List, ◌++◌, length, sum_by, codes}
use Rattle.std.specs.List.{flat_map}
use Rattle.std.specs.Fmt.{decimal}
use Rattle.rnv_base.specs.declared.kinds.UpdateKind.{UpdateKind}
use Rattle.rnv_base.specs.declared.kinds.UpdateKind.TheVariants as kind
use Rattle.rnv_commands.specs.Printing.{line_end, shown}
use Rattle.rnv_pick.specs.declared.update.Update.{Update}
use Rattle.rnv_plan.specs.declared.group.Group.{Group}

abbrev pub kind_word : UpdateKind → List ℕ
kind_word kind.Pin = codes "pin"
kind_word kind.Patch = codes "patch"
kind_word kind.Minor = codes "minor"
kind_word kind.Major = codes "major"

-- `PATH PACKAGE `
abbrev pub subject : Update → List ℕ
subject u = shown u.dep.file ++ (codes " " ++ (shown u.dep.«package» ++ codes " "))

-- `OLD -> NEW (`
abbrev pub change : Update → List ℕ
change u = shown u.dep.value ++ (codes " -> " ++ (shown u.new_value ++ codes " ("))

-- `KIND) BRANCH`
abbrev pub target : List ℕ → Update → List ℕ
target branch u = kind_word u.kind ++ (codes ") " ++ (shown branch ++ line_end))

-- `PATH PACKAGE OLD -> NEW (KIND) BRANCH`
unfoldable pub line : List ℕ → Update → List ℕ
line branch u = subject u ++ (change u ++ target branch u)

-- the lines of an item, one for each of its updates
abbrev pub item_lines : Group → List ℕ
item_lines item = flat_map (line item.branch) item.updates

-- how many updates there are
abbrev pub count : List Group → ℕ
count items = sum_by (λ item. length item.updates) items

-- `N updates, M branches`
abbrev pub summary : List Group → List ℕ
summary items = decimal (count items) ++ (codes " updates, " ++ (decimal (length items) ++ (codes " branches" ++ line_end)))

-- the whole text of the plan of a moment
abbrev pub plan_text : List ℕ → List Group → List ℕ
plan_text time items = codes "now " ++ (time ++ (line_end ++ (flat_map item_lines items ++ summary items)))
