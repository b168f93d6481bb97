-- How sayings are joined, and what is told of one that is wrong.
use Rattle.std.proofs.Common.{◌≡◌, ℕ, List, [], ◌∷◌, ◌++◌, Ok, Err, Result, refl, sym, ap, ◌∙◌, append-nil, append_assoc}
use Rattle.rnv_options.specs.Matchers.{ToldMatcher}
use Rattle.rnv_options.specs.Readings.{Each, Lists, Tells, ToldRuleSetting}
use Rattle.rnv_options.specs.declared.error.Wrong.{Wrong}
use Rattle.rnv_options.specs.declared.error.Wrong.TheVariants as is_of
use Rattle.rnv_config.specs.Configs.{TellsConfig, ToldRead, joined, nothing_read}
use Rattle.rnv_config.specs.Rules.{RuleRead, RulesRead, empty_rule, joined_rule, joined_rules, no_rules}
use Rattle.rnv_config.specs.Settings.{ToldRule, ToldSetting}
use Rattle.rnv_config.specs.declared.error.ConfigError.{ConfigError}
use Rattle.rnv_config.specs.declared.error.ConfigError.TheVariants.{NotJson, NotObject, WrongKind, BadValue, Memory}
use Rattle.rnv_config.proofs.Joined.{Joins}

abbrev rule : List ToldMatcher → List ToldRuleSetting → Lists → RuleRead
rule m s w = record { matchers = m; sets = s; warnings = w }

pub same-rule : {m m2 : List ToldMatcher} {s s2 : List ToldRuleSetting} {w w2 : Lists} → m ≡ m2 → s ≡ s2 → w ≡ w2 → rule m s w ≡ rule m2 s2 w2
same-rule a b c = cc

abbrev rules : List ToldRule → Lists → RulesRead
rules r w = record { rules = r; warnings = w }

pub same-rules : {r r2 : List ToldRule} {w w2 : Lists} → r ≡ r2 → w ≡ w2 → rules r w ≡ rules r2 w2
same-rules a b = cc

abbrev reading : List ToldSetting → Lists → Lists → Lists → ToldRead
reading s e i w = record { settings = s; extends = e; ignored = i; warnings = w }

pub same-read : {s s2 : List ToldSetting} {e e2 i i2 w w2 : Lists} → s ≡ s2 → e ≡ e2 → i ≡ i2 → w ≡ w2 → reading s e i w ≡ reading s2 e2 i2 w2
same-read a b c d = cc

pub rule_joins : Joins joined_rule empty_rule
rule_joins = record {
  assoc = λ a b c. same-rule (sym (append_assoc a.matchers b.matchers c.matchers)) (sym (append_assoc a.sets b.sets c.sets)) (sym (append_assoc a.warnings b.warnings c.warnings));
  before = λ a. refl;
  behind = λ a. same-rule (append-nil a.matchers) (append-nil a.sets) (append-nil a.warnings);
}

pub rules_join : Joins joined_rules no_rules
rules_join = record {
  assoc = λ a b c. same-rules (sym (append_assoc a.rules b.rules c.rules)) (sym (append_assoc a.warnings b.warnings c.warnings));
  before = λ a. refl;
  behind = λ a. same-rules (append-nil a.rules) (append-nil a.warnings);
}

pub readings_join : Joins joined nothing_read
readings_join = record {
  assoc = λ a b c. same-read (sym (append_assoc a.settings b.settings c.settings)) (sym (append_assoc a.extends b.extends c.extends)) (sym (append_assoc a.ignored b.ignored c.ignored)) (sym (append_assoc a.warnings b.warnings c.warnings));
  before = λ a. refl;
  behind = λ a. same-read (append-nil a.settings) (append-nil a.extends) (append-nil a.ignored) (append-nil a.warnings);
}

-- a part that is wrong makes the whole wrong
pub stop-told : {T U : Type 0} (view : T → U) (cause : Wrong) (part whole : Result U Wrong) → ((why : Wrong) → part ≡ Err why → whole ≡ Err why) → Tells view (Err cause) part → Tells view (Err cause) whole
stop-told view is_of.WrongKind part whole spreads h = spreads is_of.WrongKind h
stop-told view is_of.BadValue part whole spreads h = spreads is_of.BadValue h
stop-told view is_of.Memory part whole spreads h = tt

pub stop-config : (error : ConfigError) (part whole : Result ToldRead ConfigError) → ((why : ConfigError) → part ≡ Err why → whole ≡ Err why) → TellsConfig (Err error) part → TellsConfig (Err error) whole
stop-config NotJson part whole spreads h = spreads NotJson h
stop-config NotObject part whole spreads h = spreads NotObject h
stop-config (WrongKind option) part whole spreads h = spreads (WrongKind option) h
stop-config (BadValue option) part whole spreads h = spreads (BadValue option) h
stop-config Memory part whole spreads h = tt

pub each-append : {A : Type 0} (P : A → Type 0) (xs ys : List A) → Each P xs → Each P ys → Each P (xs ++ ys)
each-append P [] ys all more = more
each-append P (x ∷ xs) ys all more = (all.0, each-append P xs ys all.1 more)
