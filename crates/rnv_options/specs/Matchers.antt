-- The matchers of rules: the name of each, and what its value is read as.
use Rattle.std.specs.Prelude.{ℕ, List, [], ◌∷◌, codes, Bool, true, is_some, if◌then◌else◌, Option, Some, None, Result, Ok, Err}
use Rattle.std.specs.Str.{bytes_eq}
use Rattle.std.specs.List.{filter, list_all}
use Rattle.serde_json.specs.Data.{Data}
use Rattle.serde_json.specs.Find.{as_str}
use Rattle.rnv_pattern.specs.Meaning.{expression_in, is_pattern}
use Rattle.rnv_pattern.specs.Patterns.{ArePatterns, rule_text}
use Rattle.rnv_options.specs.Readings.{Lists, checked, texts_of}
use Rattle.rnv_options.specs.declared.error.Wrong.{Wrong}
use Rattle.rnv_options.specs.declared.matcher.Matcher.{Matcher}
use Rattle.rnv_options.specs.declared.matcher.MatchOn.{MatchOn}
use Rattle.rnv_options.specs.declared.matcher.MatchOn.TheVariants.{CurrentValue, CurrentVersion, Datasources, DepNames, DepTypes, FileNames, Managers, NewValue, PackageNames, UpdateTypes}
use Rattle.rnv_options.specs.declared.matcher.MatchKind.{MatchKind}
use Rattle.rnv_options.specs.declared.matcher.MatchKind.TheVariants.{PatternTexts, OnePattern, Version, PlainTexts}

pub record MatcherRow : Type 0 where
  pub name : List ℕ
  pub kind : MatchKind

abbrev pub match_row : MatchOn → MatcherRow
match_row CurrentValue = record { name = codes "matchCurrentValue"; kind = OnePattern }
match_row CurrentVersion = record { name = codes "matchCurrentVersion"; kind = Version }
match_row Datasources = record { name = codes "matchDatasources"; kind = PatternTexts }
match_row DepNames = record { name = codes "matchDepNames"; kind = PatternTexts }
match_row DepTypes = record { name = codes "matchDepTypes"; kind = PatternTexts }
match_row FileNames = record { name = codes "matchFileNames"; kind = PatternTexts }
match_row Managers = record { name = codes "matchManagers"; kind = PatternTexts }
match_row NewValue = record { name = codes "matchNewValue"; kind = OnePattern }
match_row PackageNames = record { name = codes "matchPackageNames"; kind = PatternTexts }
match_row UpdateTypes = record { name = codes "matchUpdateTypes"; kind = PlainTexts }

abbrev pub match_name : MatchOn → List ℕ
match_name on = (match_row on).name

abbrev pub match_kind : MatchOn → MatchKind
match_kind on = (match_row on).kind

-- all, in the order of names
abbrev pub all_matchers : List MatchOn
all_matchers = CurrentValue ∷ CurrentVersion ∷ Datasources ∷ DepNames ∷ DepTypes ∷ FileNames ∷ Managers ∷ NewValue ∷ PackageNames ∷ UpdateTypes ∷ []

-- the first of these that has the name
abbrev pub match_in : List ℕ → List MatchOn → Option MatchOn
match_in name [] = None
match_in name (on ∷ rest) = if bytes_eq name (match_name on) then Some on else match_in name rest

abbrev pub match_named : List ℕ → Option MatchOn
match_named name = match_in name all_matchers

-- ---- values

-- a version is matched by an expression between slashes, or lies in a range
abbrev pub is_expression_text : List ℕ → Bool
is_expression_text text = is_some (expression_in (rule_text text))

abbrev pub is_version_match : (List ℕ → Bool) → List ℕ → Bool
is_version_match wrong text = if is_expression_text text then is_pattern wrong text else true

abbrev pub one_text : List ℕ → Lists
one_text text = text ∷ []

abbrev pub same_texts : Lists → Lists
same_texts texts = texts

abbrev pub match_texts : (List ℕ → Bool) → MatchKind → Data → Result Lists Wrong
match_texts wrong PatternTexts value = checked (list_all (is_pattern wrong)) same_texts (texts_of value)
match_texts wrong OnePattern value = checked (is_pattern wrong) one_text (as_str value)
match_texts wrong Version value = checked (is_version_match wrong) one_text (as_str value)
match_texts wrong PlainTexts value = checked (λ _. true) same_texts (texts_of value)

-- the patterns of a matcher; a range and plain texts have none
abbrev pub pattern_texts : MatchKind → Lists → Lists
pattern_texts PatternTexts texts = texts
pattern_texts OnePattern texts = texts
pattern_texts Version texts = filter is_expression_text texts
pattern_texts PlainTexts texts = []

pub record ToldMatcher : Type 0 where
  pub on : MatchOn
  pub texts : Lists

abbrev pub told_matcher : Matcher → ToldMatcher
told_matcher m = record { on = m.on; texts = m.texts }

abbrev pub matched : MatchOn → Result Lists Wrong → Result ToldMatcher Wrong
matched on (Ok texts) = Ok (record { on = on; texts = texts })
matched on (Err wrong) = Err wrong

-- what a matcher's value is read as
abbrev pub matcher_of : (List ℕ → Bool) → MatchOn → Data → Result ToldMatcher Wrong
matcher_of wrong on value = matched on (match_texts wrong (match_kind on) value)

-- the patterns of a matcher are built from its texts
abbrev pub IsMatcherBuilt : Matcher → Type 0
IsMatcherBuilt m = ArePatterns (pattern_texts (match_kind m.on) m.texts) m.list
