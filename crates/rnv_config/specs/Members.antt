-- What members and items say one after another.
use Rattle.std.specs.Prelude.{ℕ, ◌+◌, List, Result, Ok, Err}
use Rattle.serde_json.specs.Data.{Data, Items, no_items, item, Members, no_members, member}

abbrev pub result_map : {A B E : Type 0} → (A → B) → Result A E → Result B E
result_map make (Ok x) = Ok (make x)
result_map make (Err why) = Err why

-- what the first says, and then the others; the first that is wrong refuses all
abbrev pub and_then : {A E : Type 0} → (A → A → A) → Result A E → Result A E → Result A E
and_then join (Err why) others = Err why
and_then join (Ok first) (Err why) = Err why
and_then join (Ok first) (Ok others) = Ok (join first others)

-- members, in the order of their names
abbrev pub members_say : {A E : Type 0} → (A → A → A) → A → (List ℕ → Data → Result A E) → Members → Result A E
members_say join nothing says no_members = Ok nothing
members_say join nothing says (member name value rest) = and_then join (says name value) (members_say join nothing says rest)

-- items, of which the first has this number
abbrev pub items_say : {A E : Type 0} → (A → A → A) → A → (ℕ → Data → Result A E) → ℕ → Items → Result A E
items_say join nothing says n no_items = Ok nothing
items_say join nothing says n (item value rest) = and_then join (says n value) (items_say join nothing says (n + 1) rest)
