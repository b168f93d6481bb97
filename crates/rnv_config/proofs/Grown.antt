-- What is read after one more part.
use Rattle.std.proofs.Common.{◌≡◌, List, ◌++◌, map, sym, ap, subst, ◌∙◌}
use Rattle.std.proofs.lemmas.List.{map-append}
use Rattle.rnv_options.specs.Matchers.{IsMatcherBuilt, told_matcher}
use Rattle.rnv_options.specs.Readings.{Each, Lists, told_rule_setting}
use Rattle.rnv_options.specs.declared.matcher.Matcher.{Matcher}
use Rattle.rnv_options.specs.declared.plain.RuleSetting.{RuleSetting}
use Rattle.rnv_options.specs.declared.setting.Rule.{Rule}
use Rattle.rnv_options.specs.declared.setting.Setting.{Setting}
use Rattle.rnv_config.specs.Configs.{joined, told_read}
use Rattle.rnv_config.specs.Rules.{joined_rule, joined_rules, told_rule_read, told_rules_read}
use Rattle.rnv_config.specs.Settings.{IsRuleBuilt, IsRuleSettingBuilt, IsSettingBuilt, told_rule, told_setting}
use Rattle.rnv_config.specs.declared.read_config.ReadConfig.{ReadConfig}
use Rattle.rnv_config.specs.declared.rule.ReadRule.{ReadRule}
use Rattle.rnv_config.specs.declared.rules.ReadRules.{ReadRules}
use Rattle.rnv_config.proofs.Told.{each-append, same-read, same-rule, same-rules}

pub grown-rule : (old more : ReadRule) (m : List Matcher) (s : List RuleSetting) (w : Lists) → m ≡ old.rule.matchers ++ more.rule.matchers → s ≡ old.rule.sets ++ more.rule.sets → w ≡ old.warnings ++ more.warnings
    → told_rule_read (record { rule = record { matchers = m; sets = s }; warnings = w }) ≡ joined_rule (told_rule_read old) (told_rule_read more)
grown-rule old more m s w a b c =
    same-rule (ap (map told_matcher) a ∙ map-append told_matcher old.rule.matchers more.rule.matchers) (ap (map told_rule_setting) b ∙ map-append told_rule_setting old.rule.sets more.rule.sets) c

pub grown-rules : (old more : ReadRules) (r : List Rule) (w : Lists) → r ≡ old.rules ++ more.rules → w ≡ old.warnings ++ more.warnings
    → told_rules_read (record { rules = r; warnings = w }) ≡ joined_rules (told_rules_read old) (told_rules_read more)
grown-rules old more r w a b = same-rules (ap (map told_rule) a ∙ map-append told_rule old.rules more.rules) b

pub grown-read : (old more : ReadConfig) (s : List Setting) (e i w : Lists) → s ≡ old.config.settings ++ more.config.settings → e ≡ old.extends ++ more.extends → i ≡ old.ignored ++ more.ignored → w ≡ old.warnings ++ more.warnings
    → told_read (record { config = record { settings = s }; extends = e; ignored = i; warnings = w }) ≡ joined (told_read old) (told_read more)
grown-read old more s e i w a b c d = same-read (ap (map told_setting) a ∙ map-append told_setting old.config.settings more.config.settings) b c d

pub built-both : {A : Type 0} (P : A → Type 0) (old more new : List A) → new ≡ old ++ more → Each P old → Each P more → Each P new
built-both P old more new e a b = subst (Each P) (sym e) (each-append P old more a b)
