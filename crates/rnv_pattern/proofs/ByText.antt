-- What is read of a text matches, and captures, what the text says.
use Rattle.std.proofs.Common.{◌≡◌, ℕ, ◌<◌, ◌≤◌, List, [], ◌∷◌, ◌++◌, Option, Some, None, Bool, true, false, cond, not, ◌&&◌, ◌||◌, refl, sym, ap, ap₂, subst, ◌∙◌, inl, inr, get_or, length, IsSomeAnd, lit<}
use Rattle.std.specs.Prelude.{◌==◌, ◌⊎◌, MatchOption, is_some, option_map, reverse}
use Rattle.std.specs.List.{AllZip, list_any}
use Rattle.std.specs.Str.{chars}
use Rattle.std.proofs.lemmas.Bool.{and_parts, eqb-true, cases_lt}
use Rattle.std.proofs.lemmas.List.{get_or_past, reverse-append, reverse-reverse}
use Rattle.std.proofs.lemmas.Option.{same_Some}
use Rattle.regex.specs.declared.string.regex.Regex.{Regex}
use Rattle.regex.specs.Patterns.{Re, SameCaptures, Reads, default_config, find_str}
use Rattle.regex.specs.Strings.{regex_names, regex_pattern}
use Rattle.regex.specs.Names.{names_of}
use Rattle.regex.proofs.ForCallers.{is_match_alike}
use Rattle.regex_syntax.specs.Brackets.{Nested}
use Rattle.regex_syntax.specs.Grammar.{Names, read}
use Rattle.regex_syntax.proofs.CapturesLemmas as seen
use Rattle.rnv_pattern.specs.Building.{IsExpression, fold_flag}
use Rattle.rnv_pattern.specs.Laws.{AreBytes, CaptureByText, FindByText, MatchByText, MatchByTexts}
use Rattle.rnv_pattern.specs.Meaning.{expression_in, glob_matches, is_folded, begins_in_i, is_found, matches_list, matches_text, matches_texts, past_end, pattern_holds, rule_holds, rule_matches, tree_found, tree_of}
use Rattle.rnv_pattern.specs.Patterns.{ArePatterns, IsPattern, IsRule, IsSlashed, IsWholeExpression, is_negated, rule_text, slashed}
use Rattle.rnv_pattern.specs.declared.pattern.Pattern.{Pattern}
use Rattle.rnv_pattern.specs.declared.rule.Rule.{Rule}
use Rattle.rnv_pattern.specs.declared.rule.Rule.TheVariants.{Glob, Expression}
use Rattle.rnv_pattern.proofs.GlobTexts.{chosen, globs-made, mapped}

-- ---- the expression in a text

past-end : (front : List ℕ) (fold : Bool) → option_map reverse (past_end (reverse (front ++ cond fold (47 ∷ 105 ∷ []) (47 ∷ [])))) ≡ Some front
past-end front true = ap (λ (t : List ℕ). option_map reverse (past_end t)) (reverse-append front (47 ∷ 105 ∷ [])) ∙ ap Some (reverse-reverse front)
past-end front false = ap (λ (t : List ℕ). option_map reverse (past_end t)) (reverse-append front (47 ∷ [])) ∙ last (reverse front) ∙ ap Some (reverse-reverse front)
  where
    last : (back : List ℕ) → option_map reverse (past_end (47 ∷ back)) ≡ Some (reverse back)
    last [] = refl
    last (x ∷ back) = refl

pub expression-of : (inner : List ℕ) (fold : Bool) → expression_in (slashed inner fold) ≡ Some inner
expression-of inner true = past-end inner true
expression-of inner false = past-end inner false

ending : Bool → List ℕ → List ℕ
ending fold front = cond fold (105 ∷ 47 ∷ front) (47 ∷ front)

-- a text from its end begins with what ends an expression
ends : (t front : List ℕ) → past_end t ≡ Some front → (t ≡ 105 ∷ 47 ∷ front) ⊎ (t ≡ 47 ∷ front)
ends [] front e = absurd cc
ends (x ∷ []) front e = elim (chosen (x == 47) (Some []) None front e) [
  | inl (t, s) ↦ let a : x ≡ 47 = eqb-true x 47 t in let b : [] ≡ front = same_Some [] front s in inr (cc)
  | inr (f, s) ↦ absurd cc
]
ends (x ∷ y ∷ rest) front e = elim (chosen (x == 47) (Some (y ∷ rest)) _ front e) [
  | inl (t, s) ↦ let a : x ≡ 47 = eqb-true x 47 t in let b : (y ∷ rest) ≡ front = same_Some (y ∷ rest) front s in inr (cc)
  | inr (f, s) ↦ elim (chosen (x == 105 && y == 47) (Some rest) None front s) [
    | inl (t, r) ↦
        let two = and_parts (x == 105) (y == 47) t in
        let a : x ≡ 105 = eqb-true x 105 two.0 in
        let b : y ≡ 47 = eqb-true y 47 two.1 in
        let d : rest ≡ front = same_Some rest front r in inl (cc)
    | inr (t, r) ↦ absurd cc
  ]
]

turned : (rest front : List ℕ) → (reverse rest ≡ 105 ∷ 47 ∷ front) ⊎ (reverse rest ≡ 47 ∷ front) → (fold : Bool) × (47 ∷ rest ≡ slashed (reverse front) fold)
turned rest front h = elim h [
  | inl e ↦ (true, ap (λ (t : List ℕ). 47 ∷ t) (sym (reverse-reverse rest) ∙ ap reverse e ∙ reverse-append (105 ∷ 47 ∷ []) front))
  | inr e ↦ (false, ap (λ (t : List ℕ). 47 ∷ t) (sym (reverse-reverse rest) ∙ ap reverse e ∙ reverse-append (47 ∷ []) front))
]

pub slashed-of : (text inner : List ℕ) → expression_in text ≡ Some inner → (fold : Bool) × (text ≡ slashed inner fold)
slashed-of [] inner e = absurd cc
slashed-of (x ∷ rest) inner e = elim (chosen (x == 47) (option_map reverse (past_end (reverse rest))) None inner e) [
  | inl (t, s) ↦
      let first : x ≡ 47 = eqb-true x 47 t in
      let front = mapped reverse (past_end (reverse rest)) inner s in
      let back = turned rest front.0 (ends (reverse rest) front.0 front.1) in
      (back.0, ap (λ (y : ℕ). y ∷ rest) first ∙ back.1 ∙ ap (λ (i : List ℕ). slashed i back.0) front.2)
  | inr (f, s) ↦ absurd cc
]

pub none-in : (text : List ℕ) (o : Option (List ℕ)) → expression_in text ≡ o → (¬ IsSlashed text) → o ≡ None
none-in text None e h = refl
none-in text (Some inner) e h = let s = slashed-of text inner e in absurd (h (inner, s.0, s.1))

-- whether case is folded
folded-of : (inner : List ℕ) (fold : Bool) → is_folded (slashed inner fold) ≡ fold
folded-of inner true = ap begins_in_i (reverse-append (47 ∷ inner) (47 ∷ 105 ∷ []))
folded-of inner false = ap begins_in_i (reverse-append (47 ∷ inner) (47 ∷ []))

-- ---- expressions

weaker : {A : Type 0} (o : Option A) (P Q : A → Type 0) → ((x : A) → P x → Q x) → IsSomeAnd o P → IsSomeAnd o Q
weaker None P Q f p = absurd p
weaker (Some x) P Q f p = f x p

pub captures-by-text : CaptureByText
unfolding Reads
captures-by-text text r p =
    let here : Reads default_config text r.pattern.program.hir (names_of r.pattern.names.items) = rw (p.source, p.options) at p.read in
    weaker (read default_config (chars text)) _ (λ tree. SameCaptures (regex_pattern r) tree.0.value × (regex_names r ≡ tree.1)) (λ x h. (h.1, h.2)) here

bytes_at : (x : List ℕ) → AreBytes x → (k : ℕ) → get_or x k 0 < 256
bytes_at x bytes k = elim (cases_lt k (length x)) [
  | inl below ↦ bytes k 0 below
  | inr past ↦ rw (get_or_past x k 0 past) (lit< tt)
]

found-alike : (tree : Option (Nested Re × Names)) (r : Regex) (on : List ℕ) → AreBytes on → IsSomeAnd tree (λ tree. SameCaptures (regex_pattern r) tree.0.value × (regex_names r ≡ tree.1)) → is_some (find_str (regex_pattern r) on 0) ≡ tree_found tree on
found-alike None r on bytes h = absurd h
found-alike (Some tree) r on bytes h = is_match_alike h.0 on (bytes_at on bytes) true 0

found-by-text : (text : List ℕ) (r : Regex) → IsExpression text r → (on : List ℕ) → AreBytes on → is_some (find_str (regex_pattern r) on 0) ≡ is_found text on
found-by-text text r h on bytes = found-alike (tree_of text) r on bytes (captures-by-text text r h)

pub finds-by-text : FindByText
finds-by-text text p h on bytes = ap (λ (rule : Rule). rule_holds rule on) h.rule.1 ∙ found-by-text text h.rule.0 h.rule.2 on bytes

-- ---- rules and patterns

rules-by-text : (text : List ℕ) (rule : Rule) → IsRule text rule → (on : List ℕ) → AreBytes on → rule_holds rule on ≡ rule_matches text (expression_in text) on
rules-by-text text (Glob globs) h on bytes =
    sym (ap (λ (o : Option (List ℕ)). rule_matches text o on) (none-in text (expression_in text) refl h.0) ∙ ap (λ o. glob_matches o on) (globs-made text globs h.1))
rules-by-text text (Expression r) (inner, fold, e, h) on bytes =
    found-by-text (fold_flag fold ++ inner) r h on bytes
    ∙ sym (
    ap (λ (t : List ℕ). rule_matches t (expression_in t) on) e
    ∙ ap (λ (o : Option (List ℕ)). rule_matches (slashed inner fold) o on) (expression-of inner fold)
    ∙ ap (λ (f : Bool). is_found (fold_flag f ++ inner) on) (folded-of inner fold)
    )

pub matches-by-text : MatchByText
matches-by-text text p h on bytes = rules-by-text (rule_text text) p.rule h.rule on bytes

same-any : (f : List ℕ → Bool) (g : Pattern → Bool) → ((t : List ℕ) (p : Pattern) → IsPattern t p → g p ≡ f t) → (texts : List (List ℕ)) (ps : List Pattern) → ArePatterns texts ps → list_any g ps ≡ list_any f texts
same-any f g each [] [] h = refl
same-any f g each [] (p ∷ ps) h = absurd h
same-any f g each (t ∷ ts) [] h = absurd h
same-any f g each (t ∷ ts) (p ∷ ps) h = ap₂ (λ (a b : Bool). a || b) (each t p h.0) (same-any f g each ts ps h.1)

pub lists-by-texts : MatchByTexts
lists-by-texts texts ps h on bytes =
    let holds = λ (t : List ℕ) (p : Pattern) (i : IsPattern t p). matches-by-text t p i on bytes in
    let positive = same-any (λ t. not (is_negated t) && matches_text t on) (λ p. not p.negated && pattern_holds p on) (λ t p i. ap₂ (λ (a b : Bool). not a && b) i.negated (holds t p i)) texts ps h in
    let some = same-any (λ t. not (is_negated t)) (λ p. not p.negated) (λ t p i. ap not i.negated) texts ps h in
    let negative = same-any (λ t. is_negated t && matches_text t on) (λ p. p.negated && pattern_holds p on) (λ t p i. ap₂ (λ (a b : Bool). a && b) i.negated (holds t p i)) texts ps h in
    ap₂ (λ (a b : Bool). a && not b) (ap₂ (λ (a b : Bool). a || not b) positive some) negative

-- ---- the test for expressions

pub slashed-test : {A : Type 0} (o : Option A) (inner : A → List ℕ) (fold : A → Bool) (text : List ℕ) → MatchOption o (¬ IsSlashed text) (λ x. text ≡ slashed (inner x) (fold x)) → is_some o ≡ is_some (expression_in text)
slashed-test None inner fold text h = sym (ap is_some (none-in text (expression_in text) refl h))
slashed-test (Some x) inner fold text h = sym (ap is_some (ap expression_in h ∙ expression-of (inner x) (fold x)))
