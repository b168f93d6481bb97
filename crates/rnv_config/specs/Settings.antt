-- What a configuration sets, told without what was built.
use Rattle.std.specs.Prelude.{List, map}
use Rattle.rnv_options.specs.Customs.{IsCustomBuilt, ToldCustom, told_custom}
use Rattle.rnv_options.specs.Matchers.{IsMatcherBuilt, ToldMatcher, told_matcher}
use Rattle.rnv_options.specs.Readings.{Each, IsBuilt, Told, ToldRuleSetting, told, told_rule_setting}
use Rattle.rnv_options.specs.declared.opt.Opt.{Opt}
use Rattle.rnv_options.specs.declared.plain.RuleSetting.{RuleSetting}
use Rattle.rnv_options.specs.declared.setting.OptValue.{OptValue}
use Rattle.rnv_options.specs.declared.setting.OptValue.TheVariants.{Plain, Rules, Customs}
use Rattle.rnv_options.specs.declared.setting.Rule.{Rule}
use Rattle.rnv_options.specs.declared.setting.Setting.{Setting}

pub record ToldRule : Type 0 where
  pub matchers : List ToldMatcher
  pub sets : List ToldRuleSetting

pub data ToldValue : Type 0 where
  plain : Told → ToldValue
  rules : List ToldRule → ToldValue
  customs : List ToldCustom → ToldValue

pub record ToldSetting : Type 0 where
  pub opt : Opt
  pub value : ToldValue

abbrev pub told_rule : Rule → ToldRule
told_rule r = record { matchers = map told_matcher r.matchers; sets = map told_rule_setting r.sets }

abbrev pub told_value : OptValue → ToldValue
told_value (Plain value) = plain (told value)
told_value (Rules list) = rules (map told_rule list)
told_value (Customs list) = customs (map told_custom list)

abbrev pub told_setting : Setting → ToldSetting
told_setting s = record { opt = s.opt; value = told_value s.value }

-- ---- each pattern is built from its text

abbrev pub IsRuleSettingBuilt : RuleSetting → Type 0
IsRuleSettingBuilt s = IsBuilt s.value

abbrev pub IsRuleBuilt : Rule → Type 0
IsRuleBuilt r = Each IsMatcherBuilt r.matchers × Each IsRuleSettingBuilt r.sets

abbrev pub IsValueBuilt : OptValue → Type 0
IsValueBuilt (Plain value) = IsBuilt value
IsValueBuilt (Rules list) = Each IsRuleBuilt list
IsValueBuilt (Customs list) = Each IsCustomBuilt list

abbrev pub IsSettingBuilt : Setting → Type 0
IsSettingBuilt s = IsValueBuilt s.value
