-- The tests of what parts and patterns match decide it.
use Rattle.std.proofs.Common.{◌≡◌, ◌<◌, ℕ, List, [], ◌∷◌, ◌++◌, refl, sym, ap, subst, ◌∙◌, append_assoc, true, false, inl, inr, Ok, Err}
use Rattle.std.specs.Prelude.{Bool, not, ◌&&◌, ◌||◌, ◌==◌, ◌↔◌, ◌⊎◌, Any, IfOk, IsTrue, Result, is_some}
use Rattle.std.specs.Bool.{Decides}
use Rattle.std.specs.List.{list_all, list_any}
use Rattle.std.specs.Str.{chars}
use Rattle.std.proofs.lemmas.Bool.Decides.{Decides-and, Decides-not, Decides-or, Decides-eqb, same_from_decides}
use Rattle.std.proofs.lemmas.List.{append-nil}
use Rattle.std.proofs.lemmas.List.Folds.{Any-from_list_any, list_any-from_Any}
use Rattle.rnv_pattern.specs.Globs.{Matches, MatchesAny, Takes, fits}
use Rattle.rnv_pattern.specs.Meaning.{ends_in_slash, fits_alone, globs_match, is_nothing, matches_list, parts_match, pattern_holds, rule_holds, some_cut, takes}
use Rattle.rnv_pattern.specs.Patterns.{HasPositive, Holds, MatchesList, RuleHolds, SomeHolds}
use Rattle.rnv_pattern.specs.declared.part.Part.{Part}
use Rattle.rnv_pattern.specs.declared.part.Part.TheVariants.{Folders, Anything, Run, Single as One}
use Rattle.rnv_pattern.specs.declared.rule.Rule.{Rule}
use Rattle.rnv_pattern.specs.declared.rule.Rule.TheVariants.{Glob, Expression}
use Rattle.rnv_pattern.specs.declared.pattern.Pattern.{Pattern}

-- ---- tests

Decides-itself : (b : Bool) → Decides b (b ≡ true)
Decides-itself b = (λ e. e, λ e. e)

Decides-negation : (b : Bool) → Decides (not b) (b ≡ false)
Decides-negation true = (λ e. cc, λ e. cc)
Decides-negation false = (λ e. refl, λ e. refl)

Decides-any : {X : Type 0} (p : X → Bool) (P : X → Type 0) → ((x : X) → Decides (p x) (P x)) → (xs : List X) → Decides (list_any p xs) (Any P xs)
Decides-any p P each xs = (
  (λ e. let h = Any-from_list_any p xs e in (h.0, h.1, h.2, h.3, (each h.1).0 h.4)),
  (λ h. list_any-from_Any p xs (h.0, h.1, h.2, h.3, (each h.1).1 h.4)),
)

-- ---- pieces

Decides-nothing : (text : List ℕ) → Decides (is_nothing text) (text ≡ [])
Decides-nothing [] = (λ e. refl, λ e. refl)
Decides-nothing (c ∷ cs) = (λ e. cc, λ e. cc)

abbrev EndsInSlash : List ℕ → Type 0
EndsInSlash text = (front : List ℕ) × (text ≡ front ++ 47 ∷ [])

slash_found : (text : List ℕ) → ends_in_slash text ≡ true → EndsInSlash text
slash_found [] e = cc
slash_found (c ∷ []) e = ([], ap (λ (d : ℕ). d ∷ []) ((Decides-eqb c 47).0 e))
slash_found (c ∷ d ∷ cs) e = let h = slash_found (d ∷ cs) e in (c ∷ h.0, ap (λ (xs : List ℕ). c ∷ xs) h.1)

slash_made : (front : List ℕ) → ends_in_slash (front ++ 47 ∷ []) ≡ true
slash_made [] = refl
slash_made (c ∷ []) = refl
slash_made (c ∷ d ∷ cs) = slash_made (d ∷ cs)

Decides-slash : (text : List ℕ) → Decides (ends_in_slash text) (EndsInSlash text)
Decides-slash text = (slash_found text, λ h. ap ends_in_slash h.1 ∙ slash_made h.0)

alone_found : (test : ℕ → Bool) (piece : List ℕ) → fits_alone test piece ≡ true → (c : ℕ) × (piece ≡ c ∷ []) × IsTrue (test c)
alone_found test [] e = cc
alone_found test (c ∷ []) e = (c, refl, e)
alone_found test (c ∷ d ∷ cs) e = cc

Decides-takes : (part : Part) (piece : List ℕ) → Decides (takes part piece) (Takes part piece)
Decides-takes Folders piece = Decides-or (is_nothing piece) (ends_in_slash piece) (Decides-nothing piece) (Decides-slash piece)
Decides-takes Anything piece = (λ e. tt, λ h. refl)
Decides-takes Run piece = Decides-itself (list_all (λ c. not (c == 47)) piece)
Decides-takes (One single) piece = (alone_found (fits single) piece, λ h. ap (fits_alone (fits single)) h.1 ∙ h.2)

-- ---- cuts

abbrev HasCut : (List ℕ → List ℕ → Bool) → List ℕ → List ℕ → Type 0
HasCut test front text = (piece rest : List ℕ) × (text ≡ piece ++ rest) × (test (front ++ piece) rest ≡ true)

or_cases : (a b : Bool) → (a || b) ≡ true → (a ≡ true) ⊎ (b ≡ true)
or_cases true b e = inl refl
or_cases false b e = inr e

or_left : (a b : Bool) → a ≡ true → (a || b) ≡ true
or_left a b e = ap (λ x. x || b) e

or_right : (a b : Bool) → b ≡ true → (a || b) ≡ true
or_right true b e = refl
or_right false b e = e

cut_found : (test : List ℕ → List ℕ → Bool) (front text : List ℕ) → some_cut test front text ≡ true → HasCut test front text
unfolding some_cut
cut_found test front [] e = ([], [], refl, ap (λ (x : List ℕ). test x []) (append-nil front) ∙ e)
cut_found test front (c ∷ cs) e =
    elim (or_cases (test front (c ∷ cs)) (some_cut test (front ++ c ∷ []) cs) e) [
      | inl here ↦ ([], c ∷ cs, refl, ap (λ (x : List ℕ). test x (c ∷ cs)) (append-nil front) ∙ here)
      | inr later ↦
          let h = cut_found test (front ++ c ∷ []) cs later in
          (c ∷ h.0, h.1, ap (λ (x : List ℕ). c ∷ x) h.2, ap (λ (x : List ℕ). test x h.1) (sym (append_assoc front (c ∷ []) h.0)) ∙ h.3)
    ]

cut_made : (test : List ℕ → List ℕ → Bool) (front piece rest : List ℕ) → test (front ++ piece) rest ≡ true → some_cut test front (piece ++ rest) ≡ true
unfolding some_cut
cut_made test front [] [] e = ap (λ (x : List ℕ). test x []) (sym (append-nil front)) ∙ e
cut_made test front [] (c ∷ cs) e = or_left _ _ (ap (λ (x : List ℕ). test x (c ∷ cs)) (sym (append-nil front)) ∙ e)
cut_made test front (c ∷ piece) rest e = or_right _ _ (cut_made test (front ++ c ∷ []) piece rest (ap (λ (x : List ℕ). test x rest) (append_assoc front (c ∷ []) piece) ∙ e))

-- ---- globs and patterns

Decides-parts : (parts : List Part) (text : List ℕ) → Decides (parts_match parts text) (Matches parts text)
unfolding parts_match
Decides-parts [] text = Decides-nothing text
Decides-parts (part ∷ parts) text =
    let both = λ (piece rest : List ℕ). Decides-and (takes part piece) (parts_match parts rest) (Decides-takes part piece) (Decides-parts parts rest) in
    let test : List ℕ → List ℕ → Bool = λ piece rest. takes part piece && parts_match parts rest in (
      (λ e. let h = cut_found test [] text e in let k = (both h.0 h.1).0 h.3 in (h.0, h.1, h.2, k.0, k.1)),
      (λ h. ap (some_cut test []) h.2 ∙ cut_made test [] h.0 h.1 ((both h.0 h.1).1 (h.3, h.4))),
    )

Decides-globs : (globs : List (List Part)) (text : List ℕ) → Decides (list_any (λ parts. parts_match parts text) globs) (MatchesAny globs text)
Decides-globs [] text = (λ e. cc, λ h. absurd h)
Decides-globs (glob ∷ globs) text = Decides-or (parts_match glob text) (list_any (λ parts. parts_match parts text) globs) (Decides-parts glob text) (Decides-globs globs text)

pub Decides-rule : (rule : Rule) (text : List ℕ) → Decides (rule_holds rule text) (RuleHolds rule text)
Decides-rule (Glob globs) text = Decides-globs globs (chars text)
Decides-rule (Expression regex) text = (λ e. e, λ e. e)

-- the test of a list decides whether it matches
pub Decides-list : (patterns : List Pattern) (text : List ℕ) → Decides (matches_list patterns text) (MatchesList patterns text)
Decides-list patterns text =
    let positive = Decides-any (λ p. not p.negated && pattern_holds p text) (λ p. (p.negated ≡ false) × Holds p text) (λ p. Decides-and (not p.negated) (pattern_holds p text) (Decides-negation p.negated) (Decides-rule p.rule text)) patterns in
    let none = Decides-not (list_any (λ p. not p.negated) patterns) (Decides-any (λ p. not p.negated) (λ p. p.negated ≡ false) (λ p. Decides-negation p.negated) patterns) in
    let negative = Decides-any (λ p. p.negated && pattern_holds p text) (λ p. (p.negated ≡ true) × Holds p text) (λ p. Decides-and p.negated (pattern_holds p text) (Decides-itself p.negated) (Decides-rule p.rule text)) patterns in
    Decides-and _ _ (Decides-or _ _ positive none) (Decides-not _ negative)

-- what a call says of a rule, or of a list, is the test
pub rule-test : {E : Type 0} (result : Result Bool E) (rule : Rule) (text : List ℕ) → IfOk result (λ yes. IsTrue yes ↔ RuleHolds rule text) → IfOk result (λ yes. yes ≡ rule_holds rule text)
rule-test (Ok answer) rule text h = same_from_decides answer (rule_holds rule text) (h.0, h.1) (Decides-rule rule text)
rule-test (Err e) rule text h = tt

pub list-test : {E : Type 0} (result : Result Bool E) (patterns : List Pattern) (text : List ℕ) → IfOk result (λ yes. IsTrue yes ↔ MatchesList patterns text) → IfOk result (λ yes. yes ≡ matches_list patterns text)
list-test (Ok answer) patterns text h = same_from_decides answer (matches_list patterns text) (h.0, h.1) (Decides-list patterns text)
list-test (Err e) patterns text h = tt

pub globs-test : (answer : Bool) (globs : List (List Part)) (text : List ℕ) → IsTrue answer ↔ MatchesAny globs text → answer ≡ globs_match globs text
globs-test answer globs text h = same_from_decides answer (globs_match globs text) (h.0, h.1) (Decides-globs globs text)

pub positive-test : (answer : Bool) (patterns : List Pattern) → IsTrue answer ↔ HasPositive patterns → answer ≡ list_any (λ p. not p.negated) patterns
positive-test answer patterns h = same_from_decides answer (list_any (λ p. not p.negated) patterns) (h.0, h.1) (Decides-any (λ p. not p.negated) (λ p. p.negated ≡ false) (λ p. Decides-negation p.negated) patterns)
