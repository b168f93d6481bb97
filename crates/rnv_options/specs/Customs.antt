-- What custom managers are read as.
use Rattle.std.specs.Prelude.{◌≡◌, ⊤, ℕ, List, [], ◌∷◌, ◌++◌, map, codes, Bool, true, false, not, ◌&&◌, is_some, if◌then◌else◌, Option, Some, None, option_map, option_and_then, Result, Ok, Err}
use Rattle.std.specs.Str.{bytes_eq}
use Rattle.std.specs.List.{list_all}
use Rattle.serde_json.specs.Data.{Data, Items, no_items, item}
use Rattle.serde_json.specs.Find.{as_array, as_null, as_object, as_str, get}
use Rattle.rnv_base.specs.declared.kinds.SourceKind.{SourceKind}
use Rattle.rnv_base.specs.declared.kinds.SourceKind.TheVariants.{Crates, Npm, Docker}
use Rattle.rnv_pattern.specs.Patterns.{IsWholeExpression, pattern_text}
use Rattle.rnv_pattern.specs.declared.pattern.Pattern.{Pattern}
use Rattle.rnv_options.specs.Readings.{Each, Lists, texts_of}
use Rattle.rnv_options.specs.declared.error.Wrong.{Wrong}
use Rattle.rnv_options.specs.declared.error.Wrong.TheVariants.{WrongKind, BadValue, Memory}
use Rattle.rnv_options.specs.declared.plain.Custom.{Custom}

pub record ToldCustom : Type 0 where
  pub files : Lists
  pub strings : Lists
  pub source : Option SourceKind
  pub name : Option (List ℕ)

-- ---- the members of one

abbrev pub is_regex : Option (List ℕ) → Bool
is_regex None = false
is_regex (Some text) = bytes_eq text (codes "regex")

-- one text or more, each an expression that the engines take
abbrev pub are_expressions : (List ℕ → Bool) → Lists → Bool
are_expressions wrong [] = false
are_expressions wrong (text ∷ texts) = list_all (λ t. not (wrong t)) (text ∷ texts)

abbrev pub expressions_if : (List ℕ → Bool) → Option Lists → Option Lists
expressions_if wrong None = None
expressions_if wrong (Some texts) = if are_expressions wrong texts then Some texts else None

abbrev pub expressions_at : (List ℕ → Bool) → Option Data → Option Lists
expressions_at wrong value = expressions_if wrong (option_and_then texts_of value)

abbrev pub source_named : List ℕ → Option SourceKind
source_named text =
    if bytes_eq text (codes "crate") then Some Crates
    else (if bytes_eq text (codes "npm") then Some Npm
    else (if bytes_eq text (codes "docker") then Some Docker else None))

-- where releases are listed, not set where the member is missing
abbrev pub source_at : Option Data → Option (Option SourceKind)
source_at None = Some None
source_at (Some value) = option_map Some (option_and_then source_named (as_str value))

-- the name of each dependency, not set where the member is missing
abbrev pub name_at : Option Data → Option (Option (List ℕ))
name_at None = Some None
name_at (Some value) = option_map Some (as_str value)

-- ---- one custom manager, none where a member is wrong

abbrev pub custom_with : Option Lists → Option Lists → Option (Option SourceKind) → Option (Option (List ℕ)) → Option ToldCustom
custom_with None strings source name = None
custom_with (Some files) None source name = None
custom_with (Some files) (Some strings) None name = None
custom_with (Some files) (Some strings) (Some source) None = None
custom_with (Some files) (Some strings) (Some source) (Some name) = Some (record { files = files; strings = strings; source = source; name = name })

abbrev pub custom_of : (List ℕ → Bool) → Data → Option ToldCustom
custom_of wrong value =
    if is_regex (option_and_then as_str (get (codes "customType") value))
    then custom_with (expressions_at wrong (get (codes "fileMatch") value)) (expressions_at wrong (get (codes "matchStrings") value))
    (source_at (get (codes "datasourceTemplate") value)) (name_at (get (codes "depNameTemplate") value))
    else None

-- ---- the list

-- a list of objects
abbrev pub are_objects : Items → Bool
are_objects no_items = true
are_objects (item value rest) = is_some (as_object value) && are_objects rest

abbrev pub put_first : Option ToldCustom → Result (List ToldCustom) Wrong → Result (List ToldCustom) Wrong
put_first None rest = Err BadValue
put_first (Some custom) (Ok rest) = Ok (custom ∷ rest)
put_first (Some custom) (Err why) = Err why

abbrev pub customs_in : (List ℕ → Bool) → Items → Result (List ToldCustom) Wrong
customs_in wrong no_items = Ok []
customs_in wrong (item value rest) = put_first (custom_of wrong value) (customs_in wrong rest)

abbrev pub customs_with : (List ℕ → Bool) → Option Items → Result (List ToldCustom) Wrong
customs_with wrong None = Err WrongKind
customs_with wrong (Some items) = if are_objects items then customs_in wrong items else Err WrongKind

-- the empty list for `null`
abbrev pub customs_of : (List ℕ → Bool) → Data → Result (List ToldCustom) Wrong
customs_of wrong value = if is_some (as_null value) then Ok [] else customs_with wrong (as_array value)

-- ---- what was read

abbrev pub texts_built : List Pattern → Lists
texts_built patterns = map pattern_text patterns

abbrev pub told_custom : Custom → ToldCustom
told_custom c = record { files = texts_built c.files; strings = texts_built c.strings; source = c.source; name = c.name }

-- each pattern is the expression of its text as a whole
abbrev pub AreWhole : List Pattern → Type 0
AreWhole patterns = Each (λ p. IsWholeExpression (pattern_text p) p) patterns

abbrev pub IsCustomBuilt : Custom → Type 0
IsCustomBuilt c = AreWhole c.files × AreWhole c.strings

-- a result that tells an optional reading, as far as memory allows
abbrev pub Gives : {T U : Type 0} → (T → U) → Result T Wrong → Option U → Type 0
Gives view (Ok x) reading = reading ≡ Some (view x)
Gives view (Err WrongKind) reading = ⊥
Gives view (Err BadValue) reading = reading ≡ None
Gives view (Err Memory) reading = ⊤

-- the list grows by the custom manager that is read
abbrev pub AddsCustom : Result (Unit {0}) Wrong → List Custom → List Custom → Option ToldCustom → Type 0
AddsCustom (Ok done) old new reading = (one : Custom) × (new ≡ old ++ one ∷ []) × (reading ≡ Some (told_custom one))
AddsCustom (Err WrongKind) old new reading = ⊥
AddsCustom (Err BadValue) old new reading = reading ≡ None
AddsCustom (Err Memory) old new reading = ⊤
