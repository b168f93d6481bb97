-- The text of a configuration, as compact JSON (RFC 8259) with the names in order at every level.
use Rattle.std.specs.Prelude.{ℕ, List, [], ◌∷◌, codes, map, Option, Some, None}
use Rattle.serde_json.specs.Data.{Data, Items, Members, array, boolean, no_members, null, number, object, put, string}
use Rattle.serde_json.specs.Find.{of_integer}
use Rattle.serde_json.specs.View.{items_of}
use Rattle.serde_json.specs.Written.{compact_text}
use Rattle.rnv_base.specs.declared.kinds.SourceKind.{SourceKind}
use Rattle.rnv_base.specs.declared.kinds.SourceKind.TheVariants.{Crates, Npm, Docker}
use Rattle.rnv_options.specs.Customs.{ToldCustom}
use Rattle.rnv_options.specs.Matchers.{ToldMatcher, match_kind, match_name}
use Rattle.rnv_options.specs.Readings.{Lists, Told, ToldRuleSetting, allowed, figure, flag, nothing, patterns, tasks, word, words}
use Rattle.rnv_options.specs.Table.{name_of}
use Rattle.rnv_options.specs.declared.matcher.MatchKind.{MatchKind}
use Rattle.rnv_options.specs.declared.matcher.MatchKind.TheVariants.{PatternTexts, OnePattern, Version, PlainTexts}
use Rattle.rnv_config.specs.Settings.{ToldRule, ToldSetting, ToldValue, customs, plain, rules}

abbrev pub strings : Lists → Data
strings texts = array (items_of (map string texts))

-- ---- values

-- texts at a name, where they are set
abbrev pub put_texts : List ℕ → Option Lists → Members → Members
put_texts name None members = members
put_texts name (Some texts) members = put name (strings texts) members

abbrev pub shown_tasks : Option Lists → Option Lists → Data
shown_tasks commands filters = object (put_texts (codes "fileFilters") filters (put_texts (codes "commands") commands no_members))

-- A value as it was read. One text of a list of texts is a list of one.
abbrev pub shown : Told → Data
shown (flag b) = boolean b
shown (figure z) = number (of_integer z)
shown (word text) = string text
shown nothing = null
shown (words texts) = strings texts
shown (patterns texts) = strings texts
shown (allowed text) = string text
shown (tasks commands filters) = shown_tasks commands filters

-- ---- rules

-- the one text
abbrev pub one_shown : Lists → Data
one_shown [] = strings []
one_shown (text ∷ []) = string text
one_shown (text ∷ other ∷ others) = strings (text ∷ other ∷ others)

abbrev pub shown_texts : MatchKind → Lists → Data
shown_texts PatternTexts texts = strings texts
shown_texts OnePattern texts = one_shown texts
shown_texts Version texts = one_shown texts
shown_texts PlainTexts texts = strings texts

abbrev pub with_matchers : Members → List ToldMatcher → Members
with_matchers members [] = members
with_matchers members (m ∷ rest) = with_matchers (put (match_name m.on) (shown_texts (match_kind m.on) m.texts) members) rest

abbrev pub with_sets : Members → List ToldRuleSetting → Members
with_sets members [] = members
with_sets members (s ∷ rest) = with_sets (put (name_of s.opt) (shown s.value) members) rest

-- a rule is its matchers and what it sets
abbrev pub shown_rule : ToldRule → Data
shown_rule rule = object (with_sets (with_matchers no_members rule.matchers) rule.sets)

-- ---- custom managers

abbrev pub source_name : SourceKind → List ℕ
source_name Crates = codes "crate"
source_name Npm = codes "npm"
source_name Docker = codes "docker"

-- a text at a name, where it is set
abbrev pub put_text : List ℕ → Option (List ℕ) → Members → Members
put_text name None members = members
put_text name (Some text) members = put name (string text) members

abbrev pub put_source : Option SourceKind → Members → Members
put_source None members = members
put_source (Some source) members = put (codes "datasourceTemplate") (string (source_name source)) members

abbrev pub shown_custom : ToldCustom → Data
shown_custom custom =
    object (put_text (codes "depNameTemplate") custom.name (put_source custom.source
    (put (codes "matchStrings") (strings custom.strings) (put (codes "fileMatch") (strings custom.files)
    (put (codes "customType") (string (codes "regex")) no_members)))))

-- ---- the whole

abbrev pub shown_value : ToldValue → Data
shown_value (plain value) = shown value
shown_value (rules list) = array (items_of (map shown_rule list))
shown_value (customs list) = array (items_of (map shown_custom list))

-- the members, each put in the order of names
abbrev pub with_settings : Members → List ToldSetting → Members
with_settings members [] = members
with_settings members (s ∷ rest) = with_settings (put (name_of s.opt) (shown_value s.value) members) rest

-- one compact JSON object
abbrev pub config_text : List ToldSetting → List ℕ
config_text settings = compact_text (object (with_settings no_members settings))
