-- That what a text is read as, matches and captures is a function of the text alone, whichever call read it.
use Rattle.std.specs.Prelude.{◌≡◌, ℕ, ◌<◌, List, All, Option, Some, is_some, IsSomeAnd, ◌↔◌}
use Rattle.regex.specs.declared.string.regex.Regex.{Regex}
use Rattle.regex.specs.Patterns.{SameCaptures, find_str}
use Rattle.regex.specs.Strings.{regex_names, regex_pattern}
use Rattle.rnv_pattern.specs.Building.{IsExpression}
use Rattle.rnv_pattern.specs.Meaning.{glob_of, is_found, matches_list, matches_text, matches_texts, pattern_holds, tree_of}
use Rattle.rnv_pattern.specs.Patterns.{ArePatterns, IsPattern, IsWholeExpression}
use Rattle.rnv_pattern.specs.Reading.{IsGlob}
use Rattle.rnv_pattern.specs.declared.part.Part.{Part}
use Rattle.rnv_pattern.specs.declared.pattern.Pattern.{Pattern}

-- numbers that are bytes, as those of each `str` are
abbrev pub AreBytes : List ℕ → Type 0
AreBytes text = All (λ b. b < 256) text

-- a text stands for these globs, and for no others
abbrev pub GlobByText : Type 0
GlobByText = (text : List ℕ) (globs : List (List Part)) → (glob_of text ≡ Some globs) ↔ IsGlob text globs

-- a pattern matches what its text says
abbrev pub MatchByText : Type 0
MatchByText = (text : List ℕ) (p : Pattern) → IsPattern text p → (on : List ℕ) → AreBytes on → pattern_holds p on ≡ matches_text text on

-- a whole expression does
abbrev pub FindByText : Type 0
FindByText = (text : List ℕ) (p : Pattern) → IsWholeExpression text p → (on : List ℕ) → AreBytes on → pattern_holds p on ≡ is_found text on

-- a list of patterns does
abbrev pub MatchByTexts : Type 0
MatchByTexts = (texts : List (List ℕ)) (ps : List Pattern) → ArePatterns texts ps → (on : List ℕ) → AreBytes on → matches_list ps on ≡ matches_texts texts on

-- an expression captures what the tree does that its text is read as, and its groups have the names in there
abbrev pub CaptureByText : Type 0
CaptureByText = (text : List ℕ) (r : Regex) → IsExpression text r → IsSomeAnd (tree_of text) (λ tree. SameCaptures (regex_pattern r) tree.0.value × (regex_names r ≡ tree.1))
