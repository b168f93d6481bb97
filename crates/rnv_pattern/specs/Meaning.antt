-- What the text of a pattern is read as, and matches, as functions of the text: no call and no engine stands in them.
use Rattle.std.specs.Prelude.{ℕ, zero, suc, List, [], ◌∷◌, ◌++◌, Bool, true, false, not, ◌&&◌, ◌||◌, ◌==◌, nat_le, length, reverse, is_some, if◌then◌else◌, Option, Some, None, option_map, option_and_then}
use Rattle.std.specs.List.{list_all, list_any}
use Rattle.std.specs.Str.{chars, bytes_eq}
use Rattle.regex.specs.Patterns.{Re, default_config, find_str}
use Rattle.regex.specs.Strings.{regex_pattern}
use Rattle.regex_syntax.specs.Brackets.{Nested}
use Rattle.regex_syntax.specs.Grammar.{Names, read}
use Rattle.rnv_pattern.specs.Building.{fold_flag}
use Rattle.rnv_pattern.specs.Globs.{fits}
use Rattle.rnv_pattern.specs.Patterns.{is_negated, rule_text}
use Rattle.rnv_pattern.specs.Reading.{globs, part_of}
use Rattle.rnv_pattern.specs.declared.part.Part.{Part}
use Rattle.rnv_pattern.specs.declared.part.Part.TheVariants.{Folders, Anything, Run, Single as One}
use Rattle.rnv_pattern.specs.declared.pattern.Pattern.{Pattern}
use Rattle.rnv_pattern.specs.declared.rule.Rule.{Rule}
use Rattle.rnv_pattern.specs.declared.rule.Rule.TheVariants.{Glob, Expression}

-- ---- the glob in a text

-- a part, and those that are read behind it
abbrev pub parts_from : (List ℕ → Option (List Part)) → Option (Part × List ℕ) → Option (List Part)
parts_from rest_of None = None
parts_from rest_of (Some (part, rest)) = option_map (λ parts. part ∷ parts) (rest_of rest)

-- the parts of a text that has so many at most
abbrev pub parts_in : ℕ → List ℕ → Option (List Part)
parts_in zero [] = Some []
parts_in zero (c ∷ rest) = None
parts_in (suc n) [] = Some []
parts_in (suc n) (c ∷ rest) = parts_from (parts_in n) (part_of (c ∷ rest))

-- `*` alone stands for every text
abbrev pub parts_of : List ℕ → Option (List Part)
parts_of text = if bytes_eq text (42 ∷ []) then Some (Anything ∷ []) else parts_in (length text) text

abbrev pub parts_of_all : List (List ℕ) → Option (List (List Part))
parts_of_all [] = Some []
parts_of_all (text ∷ texts) = option_and_then (λ parts. option_map (λ all. parts ∷ all) (parts_of_all texts)) (parts_of (chars text))

-- 256 globs at most
abbrev pub few_globs : List (List ℕ) → Option (List (List Part))
few_globs texts = if nat_le (length texts) 256 then parts_of_all texts else None

-- the globs that a text stands for, with its braces multiplied out; None where it is outside the grammar
abbrev pub glob_of : List ℕ → Option (List (List Part))
glob_of text = option_and_then few_globs (globs text)

abbrev pub is_glob : List ℕ → Bool
is_glob text = is_some (glob_of text)

-- ---- the expression in a text

-- what follows a `/`, or `i/`: of a text from its end
abbrev pub past_end : List ℕ → Option (List ℕ)
past_end [] = None
past_end (x ∷ []) = if x == 47 then Some [] else None
past_end (x ∷ y ∷ rest) = if x == 47 then Some (y ∷ rest) else (if x == 105 && y == 47 then Some rest else None)

-- the expression between slashes
abbrev pub expression_in : List ℕ → Option (List ℕ)
expression_in [] = None
expression_in (x ∷ rest) = if x == 47 then option_map reverse (past_end (reverse rest)) else None

abbrev pub begins_in_i : List ℕ → Bool
begins_in_i [] = false
begins_in_i (x ∷ rest) = x == 105

-- whether an `i` behind the slashes folds case
abbrev pub is_folded : List ℕ → Bool
is_folded text = begins_in_i (reverse text)

-- what the grammar of `regex` reads in an expression, with the names of its groups
abbrev pub tree_of : List ℕ → Option (Nested Re × Names)
tree_of expression = read default_config (chars expression)

abbrev pub tree_found : Option (Nested Re × Names) → List ℕ → Bool
tree_found None on = false
tree_found (Some tree) on = is_some (find_str tree.0.value on 0)

-- whether an expression is found somewhere in a text
abbrev pub is_found : List ℕ → List ℕ → Bool
is_found expression on = tree_found (tree_of expression) on

-- ---- what parts match

abbrev pub is_nothing : List ℕ → Bool
is_nothing [] = true
is_nothing (c ∷ cs) = false

abbrev pub ends_in_slash : List ℕ → Bool
ends_in_slash [] = false
ends_in_slash (c ∷ []) = c == 47
ends_in_slash (c ∷ d ∷ cs) = ends_in_slash (d ∷ cs)

abbrev pub fits_alone : (ℕ → Bool) → List ℕ → Bool
fits_alone test [] = false
fits_alone test (c ∷ []) = test c
fits_alone test (c ∷ d ∷ cs) = false

-- the part takes this piece of a text
abbrev pub takes : Part → List ℕ → Bool
takes Folders piece = is_nothing piece || ends_in_slash piece
takes Anything piece = true
takes Run piece = list_all (λ c. not (c == 47)) piece
takes (One single) piece = fits_alone (fits single) piece

-- the test holds of some cut of the text behind front
unfoldable pub some_cut : (List ℕ → List ℕ → Bool) → List ℕ → List ℕ → Bool
some_cut test front [] = test front []
some_cut test front (c ∷ cs) = test front (c ∷ cs) || some_cut test (front ++ c ∷ []) cs

-- the text is a piece for each part, one behind the other
unfoldable pub parts_match : List Part → List ℕ → Bool
parts_match [] text = is_nothing text
parts_match (part ∷ parts) text = some_cut (λ piece rest. takes part piece && parts_match parts rest) [] text

abbrev pub globs_match : List (List Part) → List ℕ → Bool
globs_match globs text = list_any (λ parts. parts_match parts text) globs

abbrev pub glob_matches : Option (List (List Part)) → List ℕ → Bool
glob_matches None on = false
glob_matches (Some globs) on = globs_match globs (chars on)

-- ---- what a pattern matches, by its text

abbrev pub rule_matches : List ℕ → Option (List ℕ) → List ℕ → Bool
rule_matches text None on = glob_matches (glob_of text) on
rule_matches text (Some inner) on = is_found (fold_flag (is_folded text) ++ inner) on

-- whether the pattern of a text matches, before negation
abbrev pub matches_text : List ℕ → List ℕ → Bool
matches_text text on = rule_matches (rule_text text) (expression_in (rule_text text)) on

-- some positive pattern matches, or there is none, and no negated one matches
abbrev pub matches_texts : List (List ℕ) → List ℕ → Bool
matches_texts texts on =
    (list_any (λ t. not (is_negated t) && matches_text t on) texts || not (list_any (λ t. not (is_negated t)) texts))
    && not (list_any (λ t. is_negated t && matches_text t on) texts)

-- ---- the same of patterns that were built

abbrev pub rule_holds : Rule → List ℕ → Bool
rule_holds (Glob globs) on = globs_match globs (chars on)
rule_holds (Expression regex) on = is_some (find_str (regex_pattern regex) on 0)

abbrev pub pattern_holds : Pattern → List ℕ → Bool
pattern_holds pattern on = rule_holds pattern.rule on

-- negated, or not
abbrev pub is_as : Bool → Bool → Bool
is_as true negated = negated
is_as false negated = not negated

-- some pattern that is negated, or that is not, matches
abbrev pub some_match : Bool → List Pattern → List ℕ → Bool
some_match negated patterns on = list_any (λ p. is_as negated p.negated && pattern_holds p on) patterns

abbrev pub matches_list : List Pattern → List ℕ → Bool
matches_list patterns on = (some_match false patterns on || not (list_any (λ p. not p.negated) patterns)) && not (some_match true patterns on)

-- ---- which texts are patterns, where engines refuse these expressions

abbrev pub is_rule_with : (List ℕ → Bool) → List ℕ → Option (List ℕ) → Bool
is_rule_with wrong text None = is_glob text
is_rule_with wrong text (Some inner) = not (wrong inner)

-- an expression that is not wrong, or a glob
abbrev pub is_pattern : (List ℕ → Bool) → List ℕ → Bool
is_pattern wrong text = is_rule_with wrong (rule_text text) (expression_in (rule_text text))
