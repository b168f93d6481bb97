-- What a matcher that is kept looks for.
use Rattle.std.specs.Prelude.{◌≡◌, ℕ, List, Bool, is_some}
use Rattle.std.specs.Str.{chars}
use Rattle.regex.specs.Patterns.{find_str}
use Rattle.regex.specs.Strings.{matcher_pattern, regex_pattern}
use Rattle.rnv_pattern.specs.Meaning.{globs_match}
use Rattle.rnv_pattern.specs.declared.rule.Rule.{Rule}
use Rattle.rnv_pattern.specs.declared.rule.Rule.TheVariants.{Glob, Expression}
use Rattle.rnv_pattern.specs.declared.matcher.Search.{Search}
use Rattle.rnv_pattern.specs.declared.matcher.Search.TheVariants as looks

-- it looks for the rule
abbrev pub IsFor : Rule → Search → Type 0
IsFor (Glob globs) (looks.Glob glob) = glob.now ≡ globs
IsFor (Glob globs) (looks.Expression matcher) = ⊥
IsFor (Expression regex) (looks.Glob glob) = ⊥
IsFor (Expression regex) (looks.Expression matcher) = matcher_pattern matcher ≡ regex_pattern regex

-- what it looks for is in the text
abbrev pub is_seen : Search → List ℕ → Bool
is_seen (looks.Glob glob) text = globs_match glob.now (chars text)
is_seen (looks.Expression matcher) text = is_some (find_str (matcher_pattern matcher) text 0)
