-- What an option is set to, and two configurations as one, option by option.
use Rattle.std.specs.Prelude.{ℕ, List, [], ◌∷◌, ◌++◌, Bool, true, false, if◌then◌else◌, Option, Some, None, option_map}
use Rattle.std.specs.Str.{bytes_eq}
use Rattle.rnv_options.specs.Readings.{Lists, Told, tasks, words}
use Rattle.rnv_options.specs.Table.{all_opts, kind_of, name_of}
use Rattle.rnv_options.specs.declared.kind.Kind.{Kind}
use Rattle.rnv_options.specs.declared.kind.Kind.TheVariants.{Plain, Rules, Customs}
use Rattle.rnv_options.specs.declared.kind.Values.{Values}
use Rattle.rnv_options.specs.declared.kind.Values.TheVariants as of_kind
use Rattle.rnv_options.specs.declared.opt.Opt.{Opt}
use Rattle.rnv_options.specs.declared.setting.OptValue.{OptValue}
use Rattle.rnv_options.specs.declared.setting.Setting.{Setting}
use Rattle.rnv_config.specs.Settings.{ToldSetting, ToldValue, customs, plain, rules, told_value}

abbrev pub same_opt : Opt → Opt → Bool
same_opt a b = bytes_eq (name_of a) (name_of b)

-- what the option is set to: the first that is
abbrev pub value_in : Opt → List Setting → Option OptValue
value_in opt [] = None
value_in opt (s ∷ rest) = if same_opt opt s.opt then Some s.value else value_in opt rest

-- the same, without what was built
abbrev pub told_in : Opt → List Setting → Option ToldValue
told_in opt settings = option_map told_value (value_in opt settings)

-- ---- both set the option

-- whether both values count: where lists are put together, and where each member of an object stands for itself
abbrev pub are_joined : Values → Bool
are_joined of_kind.Flag = false
are_joined (of_kind.Number least greatest) = false
are_joined (of_kind.Word of_) = false
are_joined (of_kind.Words of_ joined) = joined
are_joined of_kind.Patterns = false
are_joined of_kind.Allowed = false
are_joined of_kind.Tasks = true

abbrev pub is_joined : Kind → Bool
is_joined (Plain values) = are_joined values
is_joined Rules = true
is_joined Customs = true

-- the child's texts where they are set, else the parent's
abbrev pub later : Option Lists → Option Lists → Option Lists
later parent (Some texts) = Some texts
later parent None = parent

-- the parent's list and then the child's; of tasks each member by itself
abbrev pub joined_plain : Told → Told → Told
joined_plain (words first) (words then_) = words (first ++ then_)
joined_plain (tasks commands filters) (tasks next_commands next_filters) = tasks (later commands next_commands) (later filters next_filters)
joined_plain _ child = child

abbrev pub joined_value : ToldValue → ToldValue → ToldValue
joined_value (plain parent) (plain child) = plain (joined_plain parent child)
joined_value (rules first) (rules then_) = rules (first ++ then_)
joined_value (customs first) (customs then_) = customs (first ++ then_)
joined_value _ child = child

-- ---- option by option

-- the child's value where it sets the option, else the parent's; both where they are joined
abbrev pub merged_value : Bool → Option ToldValue → Option ToldValue → Option ToldValue
merged_value joined parent None = parent
merged_value joined None (Some child) = Some child
merged_value joined (Some parent) (Some child) = Some (if joined then joined_value parent child else child)

abbrev pub merged : Opt → List Setting → List Setting → Option ToldValue
merged opt parent child = merged_value (is_joined (kind_of opt)) (told_in opt parent) (told_in opt child)

abbrev pub setting_for : Opt → Option ToldValue → List ToldSetting
setting_for opt None = []
setting_for opt (Some value) = (record { opt = opt; value = value }) ∷ []

-- each of these options that has a value by this, in their order
abbrev pub settings_by : (Opt → Option ToldValue) → List Opt → List ToldSetting
settings_by value [] = []
settings_by value (opt ∷ opts) = setting_for opt (value opt) ++ settings_by value opts

-- in the order of names
abbrev pub merged_settings : List Setting → List Setting → List ToldSetting
merged_settings parent child = settings_by (λ opt. merged opt parent child) all_opts
