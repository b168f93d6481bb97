-- What the versioning of npm means.
use Rattle.std.specs.Prelude.{ℕ, true, List, [], ◌∷◌, Option, Some, None, option_and_then, if◌then◌else◌}
use Rattle.rnv_base.specs.Values.{is_quotable}
use Rattle.rnv_version.specs.Kind.{kind_between}
use Rattle.rnv_version.specs.Numbering.{Numbering}
use Rattle.rnv_version.specs.Plain.{is_letter_v, named_text, past_one}
use Rattle.rnv_version.specs.SemVer.{Version, first_numbers, has_no_pre, version_cmp}
use Rattle.rnv_npm.specs.Version.{npm_version}
use Rattle.rnv_npm.specs.Comparators.{Comparator}
use Rattle.rnv_npm.specs.Partials.{signed}
use Rattle.rnv_npm.specs.Ranges.{is_exact, is_satisfied, npm_range, words_of}
use Rattle.rnv_npm.specs.NewTexts.{npm_new_text}

-- a version behind its operator, which may be a word by itself
abbrev pub signed_word : List (List ℕ) → List ℕ
signed_word (word ∷ []) = (signed word).1
signed_word (operator ∷ word ∷ []) = word
signed_word _ = []

abbrev pub exact_word : List ℕ → Option (List (List Comparator)) → Option (List ℕ)
exact_word value None = None
exact_word value (Some range) = if is_exact range then Some (past_one is_letter_v (signed_word (words_of value))) else None

-- the text of the version that an exact value names: without spaces, operator and `v`
abbrev pub npm_exact_text : List ℕ → Option (List ℕ)
npm_exact_text value = exact_word value (npm_range value)

abbrev pub npm : Numbering Version (List (List Comparator))
npm = record {
  version_of = npm_version;
  range_of = npm_range;
  is_spelled = is_quotable;
  order = version_cmp;
  are_comparable = λ a b. true;
  is_satisfied = is_satisfied;
  is_exact = is_exact;
  is_stable = has_no_pre;
  kind_between = λ from to. kind_between (first_numbers from) (first_numbers to);
  numbers_of = first_numbers;
  exact_text = npm_exact_text;
  bump_start = λ value. option_and_then npm_version (named_text value);
  new_text = npm_new_text;
}
