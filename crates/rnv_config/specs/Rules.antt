-- What rules are read as.
use Rattle.std.specs.Prelude.{◌≡◌, ℕ, List, [], ◌∷◌, ◌++◌, map, codes, Bool, true, false, ◌||◌, ◌&&◌, ◌==◌, not, is_some, if◌then◌else◌, Option, Some, None, Result, Ok, Err}
use Rattle.std.specs.Fmt.{decimal}
use Rattle.std.specs.List.{starts_with}
use Rattle.serde_json.specs.Data.{Data, Items, Members, no_members, member}
use Rattle.serde_json.specs.Find.{as_array, as_null, as_object}
use Rattle.rnv_options.specs.Customs.{are_objects}
use Rattle.rnv_options.specs.Matchers.{ToldMatcher, match_named, matcher_of, told_matcher}
use Rattle.rnv_options.specs.Readings.{Each, Lists, ToldRuleSetting, plain_of, told_rule_setting}
use Rattle.rnv_options.specs.Table.{opt_named, values_in_rules}
use Rattle.rnv_options.specs.declared.error.Wrong.{Wrong}
use Rattle.rnv_options.specs.declared.error.Wrong.TheVariants.{WrongKind, BadValue, Memory}
use Rattle.rnv_options.specs.declared.kind.Values.{Values}
use Rattle.rnv_options.specs.declared.matcher.MatchOn.{MatchOn}
use Rattle.rnv_options.specs.declared.opt.Opt.{Opt}
use Rattle.rnv_config.specs.Members.{and_then, items_say, members_say, result_map}
use Rattle.rnv_config.specs.Roles.{role_of, unknown_option}
use Rattle.rnv_config.specs.Settings.{IsRuleBuilt, ToldRule, told_rule}
use Rattle.rnv_config.specs.declared.role.Role.{Role}
use Rattle.rnv_config.specs.declared.role.Role.TheVariants.{Extends, Ignored, Silent, Named}
use Rattle.rnv_config.specs.declared.rule.ReadRule.{ReadRule}
use Rattle.rnv_config.specs.declared.rules.ReadRules.{ReadRules}

-- ---- what one rule says

pub record RuleRead : Type 0 where
  pub matchers : List ToldMatcher
  pub sets : List ToldRuleSetting
  pub warnings : Lists

abbrev pub empty_rule : RuleRead
empty_rule = record { matchers = []; sets = []; warnings = [] }

abbrev pub joined_rule : RuleRead → RuleRead → RuleRead
joined_rule a b = record { matchers = a.matchers ++ b.matchers; sets = a.sets ++ b.sets; warnings = a.warnings ++ b.warnings }

abbrev pub matched : ToldMatcher → RuleRead
matched matcher = record { matchers = matcher ∷ []; sets = []; warnings = [] }

abbrev pub set_to : ToldRuleSetting → RuleRead
set_to setting = record { matchers = []; sets = setting ∷ []; warnings = [] }

abbrev pub warned : List ℕ → RuleRead
warned text = record { matchers = []; sets = []; warnings = text ∷ [] }

-- the warning of an option of the repository
abbrev pub not_in_rules : List ℕ → List ℕ
not_in_rules name = codes "option " ++ (name ++ codes " is not read in a rule")

-- ---- one member of a rule

-- whatever is wrong in a rule is a bad value of the rules
abbrev pub bad_of : Wrong → Wrong
bad_of WrongKind = BadValue
bad_of BadValue = BadValue
bad_of Memory = Memory

abbrev pub in_rule : {A : Type 0} → (A → RuleRead) → Result A Wrong → Result RuleRead Wrong
in_rule make (Ok x) = Ok (make x)
in_rule make (Err wrong) = Err (bad_of wrong)

-- a matcher that is `null` is absent
abbrev pub rule_matcher : (List ℕ → Bool) → MatchOn → Data → Result RuleRead Wrong
rule_matcher wrong on value = if is_some (as_null value) then Ok empty_rule else in_rule matched (matcher_of wrong on value)

abbrev pub rule_value : (List ℕ → Bool) → Opt → Values → Data → Result RuleRead Wrong
rule_value wrong opt values value = in_rule (λ v. set_to (record { opt = opt; value = v })) (plain_of wrong values value)

-- what is not read in a rule is warned of, whatever its value
abbrev pub rule_setting : (List ℕ → Bool) → List ℕ → Data → Opt → Option Values → Result RuleRead Wrong
rule_setting wrong name value opt None = Ok (warned (not_in_rules name))
rule_setting wrong name value opt (Some values) = rule_value wrong opt values value

abbrev pub rule_option : (List ℕ → Bool) → List ℕ → Data → Option Opt → Result RuleRead Wrong
rule_option wrong name value None = Ok (warned (unknown_option name))
rule_option wrong name value (Some opt) = rule_setting wrong name value opt (values_in_rules opt)

-- a member that is no matcher
abbrev pub rule_as : Role → (List ℕ → Bool) → List ℕ → Data → Result RuleRead Wrong
rule_as Extends wrong name value = Err BadValue
rule_as Ignored wrong name value = Ok (warned (not_in_rules name))
rule_as Silent wrong name value = Ok empty_rule
rule_as Named wrong name value = rule_option wrong name value (opt_named name)

abbrev pub rule_with : (List ℕ → Bool) → List ℕ → Data → Option MatchOn → Result RuleRead Wrong
rule_with wrong name value (Some on) = rule_matcher wrong on value
rule_with wrong name value None = rule_as (role_of name) wrong name value

abbrev pub rule_member : (List ℕ → Bool) → List ℕ → Data → Result RuleRead Wrong
rule_member wrong name value = rule_with wrong name value (match_named name)

-- all members of a rule, in the order of their names
abbrev pub rule_members : (List ℕ → Bool) → Members → Result RuleRead Wrong
rule_members wrong members = members_say joined_rule empty_rule (rule_member wrong) members

-- ---- unknown matchers

-- begins as the name of a matcher, and is none
abbrev pub is_unknown_matcher : List ℕ → Bool
is_unknown_matcher name = (starts_with ◌==◌ name (codes "match") || starts_with ◌==◌ name (codes "exclude")) && not (is_some (match_named name))

-- the first by name
abbrev pub unknown_matcher : Members → Option (List ℕ)
unknown_matcher no_members = None
unknown_matcher (member name value rest) = if is_unknown_matcher name then Some name else unknown_matcher rest

abbrev pub has_unknown : ℕ → List ℕ → List ℕ
has_unknown n name = codes "rule " ++ (decimal n ++ (codes " has unknown matcher " ++ name))

-- ---- the list of rules

pub record RulesRead : Type 0 where
  pub rules : List ToldRule
  pub warnings : Lists

abbrev pub no_rules : RulesRead
no_rules = record { rules = []; warnings = [] }

abbrev pub joined_rules : RulesRead → RulesRead → RulesRead
joined_rules a b = record { rules = a.rules ++ b.rules; warnings = a.warnings ++ b.warnings }

abbrev pub one_rule : RuleRead → RulesRead
one_rule r = record { rules = (record { matchers = r.matchers; sets = r.sets }) ∷ []; warnings = r.warnings }

abbrev pub passed_over : ℕ → List ℕ → RulesRead
passed_over n name = record { rules = []; warnings = has_unknown n name ∷ [] }

-- a rule with an unknown matcher is passed over, whatever else is in it
abbrev pub rule_unless : (List ℕ → Bool) → ℕ → Members → Option (List ℕ) → Result RulesRead Wrong
rule_unless wrong n all (Some name) = Ok (passed_over n name)
rule_unless wrong n all None = result_map one_rule (rule_members wrong all)

abbrev pub rule_in : (List ℕ → Bool) → ℕ → Option Members → Result RulesRead Wrong
rule_in wrong n None = Err WrongKind
rule_in wrong n (Some members) = rule_unless wrong n members (unknown_matcher members)

-- the rule with this number
abbrev pub rule_of : (List ℕ → Bool) → ℕ → Data → Result RulesRead Wrong
rule_of wrong n value = rule_in wrong n (as_object value)

-- rules have numbers from 1
abbrev pub rules_in : (List ℕ → Bool) → Items → Result RulesRead Wrong
rules_in wrong items = items_say joined_rules no_rules (rule_of wrong) 1 items

abbrev pub rules_with : (List ℕ → Bool) → Option Items → Result RulesRead Wrong
rules_with wrong None = Err WrongKind
rules_with wrong (Some items) = if are_objects items then rules_in wrong items else Err WrongKind

-- none for `null`
abbrev pub rules_of : (List ℕ → Bool) → Data → Result RulesRead Wrong
rules_of wrong value = if is_some (as_null value) then Ok no_rules else rules_with wrong (as_array value)

-- ---- what was read

abbrev pub told_rule_read : ReadRule → RuleRead
told_rule_read r = record { matchers = (told_rule r.rule).matchers; sets = (told_rule r.rule).sets; warnings = r.warnings }

abbrev pub told_rules_read : ReadRules → RulesRead
told_rules_read r = record { rules = map told_rule r.rules; warnings = r.warnings }

abbrev pub AreRulesBuilt : ReadRules → Type 0
AreRulesBuilt r = Each IsRuleBuilt r.rules
