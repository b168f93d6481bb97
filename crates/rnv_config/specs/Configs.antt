-- What a configuration is read as: JSON (RFC 8259, as `serde_json` reads it).
use Rattle.std.specs.Prelude.{◌≡◌, ⊤, ℕ, List, [], ◌∷◌, ◌++◌, map, codes, Bool, true, is_some, if◌then◌else◌, Option, Some, None, Result, Ok, Err}
use Rattle.std.specs.Str.{is_utf8}
use Rattle.serde_json.specs.Data.{Data, Members}
use Rattle.serde_json.specs.Find.{as_null, as_object}
use Rattle.serde_json.specs.Read.{read}
use Rattle.rnv_options.specs.Customs.{ToldCustom, customs_of}
use Rattle.rnv_options.specs.Readings.{Each, Lists, Told, checked, plain_of, texts_of}
use Rattle.rnv_options.specs.Table.{kind_of, opt_named}
use Rattle.rnv_options.specs.declared.error.Wrong.{Wrong}
use Rattle.rnv_options.specs.declared.error.Wrong.TheVariants as is_of
use Rattle.rnv_options.specs.declared.kind.Kind.{Kind}
use Rattle.rnv_options.specs.declared.kind.Kind.TheVariants.{Plain, Rules, Customs}
use Rattle.rnv_options.specs.declared.opt.Opt.{Opt}
use Rattle.rnv_config.specs.Members.{members_say, result_map}
use Rattle.rnv_config.specs.Roles.{role_of, unknown_option}
use Rattle.rnv_config.specs.Rules.{RulesRead, rules_of}
use Rattle.rnv_config.specs.Settings.{IsSettingBuilt, ToldSetting, ToldValue, customs, plain, rules, told_setting}
use Rattle.rnv_config.specs.declared.error.ConfigError.{ConfigError}
use Rattle.rnv_config.specs.declared.error.ConfigError.TheVariants.{NotJson, NotObject, WrongKind, BadValue, Memory}
use Rattle.rnv_config.specs.declared.read_config.ReadConfig.{ReadConfig}
use Rattle.rnv_config.specs.declared.role.Role.{Role}
use Rattle.rnv_config.specs.declared.role.Role.TheVariants.{Extends, Ignored, Silent, Named}

pub record ToldRead : Type 0 where
  pub settings : List ToldSetting
  pub extends : Lists
  pub ignored : Lists
  pub warnings : Lists

abbrev pub nothing_read : ToldRead
nothing_read = record { settings = []; extends = []; ignored = []; warnings = [] }

-- what one reading has, and then what another has
abbrev pub joined : ToldRead → ToldRead → ToldRead
joined a b = record { settings = a.settings ++ b.settings; extends = a.extends ++ b.extends; ignored = a.ignored ++ b.ignored; warnings = a.warnings ++ b.warnings }

abbrev pub extended : Lists → ToldRead
extended texts = record { settings = []; extends = texts; ignored = []; warnings = [] }

abbrev pub ignoring : Lists → ToldRead
ignoring texts = record { settings = []; extends = []; ignored = texts; warnings = [] }

abbrev pub warned : List ℕ → ToldRead
warned text = record { settings = []; extends = []; ignored = []; warnings = text ∷ [] }

-- an option's value, with warnings of what is in it
abbrev pub settled : Opt → Lists → ToldValue → ToldRead
settled opt warnings value = record { settings = (record { opt = opt; value = value }) ∷ []; extends = []; ignored = []; warnings = warnings }

-- ---- one member

-- texts, none for `null`
abbrev pub list_of : Data → Result Lists Wrong
list_of value = if is_some (as_null value) then Ok [] else checked (λ _. true) (λ texts. texts) (texts_of value)

abbrev pub plain_read : Opt → Result Told Wrong → Result ToldRead Wrong
plain_read opt value = result_map (λ v. settled opt [] (plain v)) value

abbrev pub rules_read : Opt → Result RulesRead Wrong → Result ToldRead Wrong
rules_read opt value = result_map (λ r. settled opt r.warnings (rules r.rules)) value

abbrev pub customs_read : Opt → Result (List ToldCustom) Wrong → Result ToldRead Wrong
customs_read opt value = result_map (λ cs. settled opt [] (customs cs)) value

abbrev pub value_read : (List ℕ → Bool) → Opt → Kind → Data → Result ToldRead Wrong
value_read wrong opt (Plain values) value = plain_read opt (plain_of wrong values value)
value_read wrong opt Rules value = rules_read opt (rules_of wrong value)
value_read wrong opt Customs value = customs_read opt (customs_of wrong value)

abbrev pub option_read : (List ℕ → Bool) → List ℕ → Data → Option Opt → Result ToldRead Wrong
option_read wrong name value None = Ok (warned (unknown_option name))
option_read wrong name value (Some opt) = value_read wrong opt (kind_of opt) value

abbrev pub read_as : Role → (List ℕ → Bool) → List ℕ → Data → Result ToldRead Wrong
read_as Extends wrong name value = result_map extended (list_of value)
read_as Ignored wrong name value = result_map ignoring (list_of value)
read_as Silent wrong name value = Ok nothing_read
read_as Named wrong name value = option_read wrong name value (opt_named name)

-- ---- a configuration

abbrev pub error_of : List ℕ → Wrong → ConfigError
error_of name is_of.WrongKind = WrongKind name
error_of name is_of.BadValue = BadValue name
error_of name is_of.Memory = Memory

-- what is wrong is told with the option's name
abbrev pub named : List ℕ → Result ToldRead Wrong → Result ToldRead ConfigError
named name (Ok r) = Ok r
named name (Err wrong) = Err (error_of name wrong)

abbrev pub member_read : (List ℕ → Bool) → List ℕ → Data → Result ToldRead ConfigError
member_read wrong name value = named name (read_as (role_of name) wrong name value)

-- all members in the order of their names: the first that is wrong refuses the configuration
abbrev pub members_read : (List ℕ → Bool) → Members → Result ToldRead ConfigError
members_read wrong members = members_say joined nothing_read (member_read wrong) members

abbrev pub object_read : (List ℕ → Bool) → Option Members → Result ToldRead ConfigError
object_read wrong None = Err NotObject
object_read wrong (Some members) = members_read wrong members

abbrev pub json_read : (List ℕ → Bool) → Option Data → Result ToldRead ConfigError
json_read wrong None = Err NotJson
json_read wrong (Some value) = object_read wrong (as_object value)

-- the JSON value of bytes
abbrev pub json_of : List ℕ → Option Data
json_of bytes = if is_utf8 bytes then read bytes else None

-- what bytes are read as, where these expressions are wrong
abbrev pub reading_of : (List ℕ → Bool) → List ℕ → Result ToldRead ConfigError
reading_of wrong bytes = json_read wrong (json_of bytes)

-- ---- what was read

abbrev pub told_read : ReadConfig → ToldRead
told_read r = record { settings = map told_setting r.config.settings; extends = r.extends; ignored = r.ignored; warnings = r.warnings }

abbrev pub AreBuilt : ReadConfig → Type 0
AreBuilt r = Each IsSettingBuilt r.config.settings

-- what is wrong, with the option's name, unless memory is wanting
abbrev pub IsErrorOf : ConfigError → List ℕ → Wrong → Type 0
IsErrorOf Memory name wrong = ⊤
IsErrorOf error name wrong = error ≡ error_of name wrong

-- the result tells the reading, as far as memory allows
abbrev pub TellsConfig : Result ReadConfig ConfigError → Result ToldRead ConfigError → Type 0
TellsConfig (Ok r) reading = reading ≡ Ok (told_read r)
TellsConfig (Err NotJson) reading = reading ≡ Err NotJson
TellsConfig (Err NotObject) reading = reading ≡ Err NotObject
TellsConfig (Err (WrongKind option)) reading = reading ≡ Err (WrongKind option)
TellsConfig (Err (BadValue option)) reading = reading ≡ Err (BadValue option)
TellsConfig (Err Memory) reading = ⊤
