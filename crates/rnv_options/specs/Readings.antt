-- What the value of an option is read as: one line for each kind of values.
use Rattle.std.specs.Prelude.{◌≡◌, ⊤, ℕ, ℤ, List, [], ◌∷◌, ◌++◌, codes, Bool, true, false, ◌&&◌, ◌==◌, is_some, if◌then◌else◌, int_le, Option, Some, None, option_map, option_and_then, Result, Ok, Err}
use Rattle.std.specs.List.{list_all}
use Rattle.serde_json.specs.Data.{Data, Items, no_items, item}
use Rattle.serde_json.specs.Find.{as_array, as_bool, as_i64, as_null, as_number, as_object, as_str, get}
use Rattle.rnv_pattern.specs.Meaning.{is_pattern}
use Rattle.rnv_pattern.specs.Patterns.{ArePatterns, rule_text}
use Rattle.rnv_options.specs.Fits.{fits}
use Rattle.rnv_options.specs.declared.error.Wrong.{Wrong}
use Rattle.rnv_options.specs.declared.error.Wrong.TheVariants.{WrongKind, BadValue, Memory}
use Rattle.rnv_options.specs.declared.kind.Values.{Values}
use Rattle.rnv_options.specs.declared.kind.Values.TheVariants as of_kind
use Rattle.rnv_options.specs.declared.opt.Opt.{Opt}
use Rattle.rnv_options.specs.declared.plain.Plain.{Plain}
use Rattle.rnv_options.specs.declared.plain.Plain.TheVariants as is_a
use Rattle.rnv_options.specs.declared.plain.Allowed.TheVariants as allows
use Rattle.rnv_options.specs.declared.plain.RuleSetting.{RuleSetting}

abbrev pub Lists : Type 0
Lists = List (List ℕ)

-- ---- what is read, without what was built

pub data Told : Type 0 where
  flag : Bool → Told
  figure : ℤ → Told
  word : List ℕ → Told
  nothing : Told
  words : Lists → Told
  patterns : Lists → Told
  allowed : List ℕ → Told
  tasks : Option Lists → Option Lists → Told

-- ---- the parts of a value

-- the texts of a list, none where something else is in it
abbrev pub texts_in : Items → Option Lists
texts_in no_items = Some []
texts_in (item d ds) = option_and_then (λ text. option_map (λ texts. text ∷ texts) (texts_in ds)) (as_str d)

-- one text as a list of one, or the texts of a list
abbrev pub texts_with : Option (List ℕ) → Option Items → Option Lists
texts_with (Some text) items = Some (text ∷ [])
texts_with None (Some items) = texts_in items
texts_with None None = None

abbrev pub texts_of : Data → Option Lists
texts_of value = texts_with (as_str value) (as_array value)

-- a text that begins with `/` or `!/` is a pattern
abbrev pub begins_slash : List ℕ → Bool
begins_slash [] = false
begins_slash (x ∷ rest) = x == 47

abbrev pub is_allowed : (List ℕ → Bool) → List ℕ → Bool
is_allowed wrong text = if begins_slash (rule_text text) then is_pattern wrong text else true

-- a value of the kind, if it is among those that the option takes
abbrev pub checked : {A T : Type 0} → (A → Bool) → (A → T) → Option A → Result T Wrong
checked test make None = Err WrongKind
checked test make (Some x) = if test x then Ok (make x) else Err BadValue

-- the same where a value of another kind is one that the option does not take
abbrev pub valued : {A T : Type 0} → (A → Bool) → (A → T) → Option A → Result T Wrong
valued test make None = Err BadValue
valued test make (Some x) = if test x then Ok (make x) else Err BadValue

-- ---- tasks

-- the texts of a member, which is not set where it is missing or `null`
abbrev pub texts_at : Option Data → Result (Option Lists) Wrong
texts_at None = Ok None
texts_at (Some value) = if is_some (as_null value) then Ok None else valued (λ _. true) Some (texts_of value)

-- filters are patterns
abbrev pub filters_from : (List ℕ → Bool) → Result (Option Lists) Wrong → Result (Option Lists) Wrong
filters_from wrong (Ok None) = Ok None
filters_from wrong (Ok (Some texts)) = if list_all (is_pattern wrong) texts then Ok (Some texts) else Err BadValue
filters_from wrong (Err why) = Err why

abbrev pub tasks_from : Result (Option Lists) Wrong → Result (Option Lists) Wrong → Result Told Wrong
tasks_from (Ok commands) (Ok filters) = Ok (tasks commands filters)
tasks_from (Ok commands) (Err why) = Err why
tasks_from (Err why) filters = Err why

abbrev pub tasks_of : (List ℕ → Bool) → Data → Result Told Wrong
tasks_of wrong value =
    if is_some (as_object value)
    then tasks_from (texts_at (get (codes "commands") value)) (filters_from wrong (texts_at (get (codes "fileFilters") value)))
    else Err WrongKind

-- ---- values by kind

-- `wrong` are the expressions that the engines refuse
abbrev pub value_of : (List ℕ → Bool) → Values → Data → Result Told Wrong
value_of wrong of_kind.Flag value = checked (λ _. true) flag (as_bool value)
value_of wrong (of_kind.Number least greatest) value = checked (λ z. int_le least z && int_le z greatest) figure (option_and_then as_i64 (as_number value))
value_of wrong (of_kind.Word of_) value = checked (fits of_) word (as_str value)
value_of wrong (of_kind.Words of_ joined) value = checked (list_all (fits of_)) words (texts_of value)
value_of wrong of_kind.Patterns value = checked (list_all (is_pattern wrong)) patterns (texts_of value)
value_of wrong of_kind.Allowed value = checked (is_allowed wrong) allowed (as_str value)
value_of wrong of_kind.Tasks value = tasks_of wrong value

-- What `null` sets: nothing, but the empty list where lists are joined, and no commands and filters for tasks.
abbrev pub null_of : Values → Told
null_of of_kind.Flag = nothing
null_of (of_kind.Number least greatest) = nothing
null_of (of_kind.Word of_) = nothing
null_of (of_kind.Words of_ joined) = if joined then words [] else nothing
null_of of_kind.Patterns = nothing
null_of of_kind.Allowed = nothing
null_of of_kind.Tasks = tasks (Some []) (Some [])

abbrev pub plain_of : (List ℕ → Bool) → Values → Data → Result Told Wrong
plain_of wrong values value = if is_some (as_null value) then Ok (null_of values) else value_of wrong values value

-- ---- what was read

abbrev pub told : Plain → Told
told (is_a.Flag b) = flag b
told (is_a.Number z) = figure z
told (is_a.Word text) = word text
told is_a.Nothing = nothing
told (is_a.Words texts) = words texts
told (is_a.Patterns p) = patterns p.texts
told (is_a.Allowed (allows.Patterns text list)) = allowed text
told (is_a.Allowed (allows.Range text)) = allowed text
told (is_a.Tasks t) = tasks t.commands t.filters

pub record ToldRuleSetting : Type 0 where
  pub opt : Opt
  pub value : Told

abbrev pub told_rule_setting : RuleSetting → ToldRuleSetting
told_rule_setting s = record { opt = s.opt; value = told s.value }

-- the texts of what is set, none where it is not
abbrev pub texts_set : Option Lists → Lists
texts_set None = []
texts_set (Some texts) = texts

-- the patterns are built from their texts
abbrev pub IsBuilt : Plain → Type 0
IsBuilt (is_a.Flag b) = ⊤
IsBuilt (is_a.Number z) = ⊤
IsBuilt (is_a.Word text) = ⊤
IsBuilt is_a.Nothing = ⊤
IsBuilt (is_a.Words texts) = ⊤
IsBuilt (is_a.Patterns p) = ArePatterns p.texts p.list
IsBuilt (is_a.Allowed (allows.Patterns text list)) = ArePatterns (text ∷ []) list
IsBuilt (is_a.Allowed (allows.Range text)) = ⊤
IsBuilt (is_a.Tasks t) = ArePatterns (texts_set t.filters) t.list

-- a result that tells the reading, as far as memory allows
abbrev pub Tells : {T U : Type 0} → (T → U) → Result T Wrong → Result U Wrong → Type 0
Tells view (Ok x) reading = reading ≡ Ok (view x)
Tells view (Err WrongKind) reading = reading ≡ Err WrongKind
Tells view (Err BadValue) reading = reading ≡ Err BadValue
Tells view (Err Memory) reading = ⊤

-- the same of a test that no other kind meets
abbrev pub TellsTest : {T : Type 0} → Result T Wrong → Bool → Type 0
TellsTest (Ok x) passed = passed ≡ true
TellsTest (Err WrongKind) passed = ⊥
TellsTest (Err BadValue) passed = passed ≡ false
TellsTest (Err Memory) passed = ⊤

-- ---- lists

abbrev pub Each : {A : Type 0} → (A → Type 0) → List A → Type 0
Each P [] = ⊤
Each P (x ∷ xs) = P x × Each P xs

-- the list has one more at its end, of which P holds
abbrev pub IsOneMore : {A : Type 0} → (A → Type 0) → List A → List A → Type 0
IsOneMore {A} P old new = (x : A) × (new ≡ old ++ x ∷ []) × P x
