-- What a reading's clauses say together: what was asked, and whether texts are patterns where the engines' refusals count as wrong.
use Rattle.std.proofs.Common.{◌≡◌, ℕ, List, [], ◌∷◌, ◌++◌, Option, Some, None, Bool, true, false, not, ◌&&◌, refl, sym, ap, ◌∙◌, inl, inr, append-nil, Ok, Err}
use Rattle.std.specs.Prelude.{◌⊎◌, IfOk, IsErrOf, OnOk, Result}
use Rattle.std.specs.List.{AllZip, list_all}
use Rattle.std.proofs.lemmas.Bool.{and_parts, and_from}
use Rattle.std.proofs.Math.Bool.{and-false}
use Rattle.std.proofs.lemmas.List.{append_cancel_left}
use Rattle.std.proofs.lemmas.List.Folds.{list_all-append}
use Rattle.regex.specs.declared.string.regex.Regex.{Regex}
use Rattle.rnv_pattern.specs.Building.{Built, IsExpression}
use Rattle.rnv_pattern.specs.Meaning.{expression_in, is_glob, is_pattern, is_rule_with}
use Rattle.rnv_pattern.specs.Patterns.{AreAllExpressions, AreExpressions, ArePatterns, FirstIs, IsBadGlob, IsPattern, IsRule, IsSlashed, RefusedIn, TookAny, TookFront, TookMore, rule_text, slashed}
use Rattle.rnv_pattern.specs.Turns.{Agrees, Asks, TellsTest}
use Rattle.rnv_pattern.specs.declared.error.PatternError.{PatternError}
use Rattle.rnv_pattern.specs.declared.error.PatternError.TheVariants.{BadGlob, BadExpression, Memory}
use Rattle.rnv_pattern.specs.declared.pattern.Pattern.{Pattern}
use Rattle.rnv_pattern.specs.declared.rule.Rule.{Rule}
use Rattle.rnv_pattern.specs.declared.rule.Rule.TheVariants.{Glob, Expression}
use Rattle.rnv_pattern.proofs.ByText.{expression-of, none-in}
use Rattle.rnv_pattern.proofs.GlobTexts.{bad-false, glob-decides}

abbrev Lists : Type 0
Lists = List (List ℕ)

-- ---- what was asked

pub took-only : (refused took now_refused now_took : Lists) (others now_others : List Lists) (more : Lists) → now_took ≡ took ++ more → now_refused ≡ refused → now_others ≡ others → Asks refused took others now_refused now_took now_others
took-only refused took now_refused now_took others now_others more t r o = record { more_refused = []; more_took = more; refused_is = r ∙ sym (append-nil refused); took_is = t; others_is = o }

refused-too : (refused took now_refused now_took : Lists) (others now_others : List Lists) (text : List ℕ) (more : Lists) → now_took ≡ took ++ more → now_refused ≡ refused ++ text ∷ [] → now_others ≡ others → Asks refused took others now_refused now_took now_others
refused-too refused took now_refused now_took others now_others text more t r o = record { more_refused = text ∷ []; more_took = more; refused_is = r; took_is = t; others_is = o }

still : (took now_took : Lists) → now_took ≡ took → now_took ≡ took ++ []
still took now_took e = e ∙ sym (append-nil took)

pub rule-asks : {T : Type 0} (r : Result T PatternError) (text : List ℕ) (refused took now_refused now_took : Lists) (others now_others : List Lists) →
    OnOk r (TookMore (AreExpressions text) took now_took) →
    (IsErrOf r BadExpression → RefusedIn text refused now_refused) →
    ((IsErrOf r BadGlob ⊎ IsErrOf r BadExpression) → now_took ≡ took) →
    (IsErrOf r Memory → TookAny text took now_took) →
    ((¬ IsErrOf r BadExpression) → now_refused ≡ refused) →
    now_others ≡ others → Asks refused took others now_refused now_took now_others
rule-asks (Ok x) text refused took now_refused now_took others now_others ok bad untaking memory unrefused o =
    took-only _ _ _ _ _ _ ok.0 ok.2 (unrefused (λ e. cc)) o
rule-asks (Err BadGlob) text refused took now_refused now_took others now_others ok bad untaking memory unrefused o =
    took-only _ _ _ _ _ _ [] (still _ _ (untaking (inl refl))) (unrefused (λ e. cc)) o
rule-asks (Err BadExpression) text refused took now_refused now_took others now_others ok bad untaking memory unrefused o =
    let here = bad refl in
    refused-too _ _ _ _ _ _ here.0 [] (still _ _ (untaking (inr refl))) here.3 o
rule-asks (Err Memory) text refused took now_refused now_took others now_others ok bad untaking memory unrefused o =
    elim (memory refl) [
      | inl same ↦ took-only _ _ _ _ _ _ [] (still _ _ same) (unrefused (λ e. cc)) o
      | inr more ↦ took-only _ _ _ _ _ _ more.0 more.2 (unrefused (λ e. cc)) o
    ]

pub built-asks : {T : Type 0} (r : Result T PatternError) (text : List ℕ) (refused took now_refused now_took : Lists) (others now_others : List Lists) → Built text refused took now_refused now_took r → now_others ≡ others → Asks refused took others now_refused now_took now_others
built-asks (Ok x) text refused took now_refused now_took others now_others b o = took-only _ _ _ _ _ _ (text ∷ []) b.takes (b.unrefusing (λ e. cc)) o
built-asks (Err BadGlob) text refused took now_refused now_took others now_others b o = absurd (b.no_glob refl)
built-asks (Err BadExpression) text refused took now_refused now_took others now_others b o = refused-too _ _ _ _ _ _ text [] (still _ _ (b.untaking refl)) (b.refuses refl) o
built-asks (Err Memory) text refused took now_refused now_took others now_others b o =
    elim (b.memory refl) [
      | inl same ↦ took-only _ _ _ _ _ _ [] (still _ _ same) (b.unrefusing (λ e. cc)) o
      | inr more ↦ took-only _ _ _ _ _ _ (text ∷ []) more (b.unrefusing (λ e. cc)) o
    ]

pub list-asks : {T : Type 0} (r : Result T PatternError) (texts refused took now_refused now_took : Lists) (others now_others : List Lists) →
    OnOk r (TookMore (AreAllExpressions texts) took now_took) →
    (IsErrOf r BadGlob → FirstIs (λ text. IsBadGlob (rule_text text)) texts took now_took) →
    (IsErrOf r BadExpression → FirstIs (λ text. RefusedIn (rule_text text) refused now_refused) texts took now_took) →
    (IsErrOf r Memory → TookFront texts took now_took) →
    ((¬ IsErrOf r BadExpression) → now_refused ≡ refused) →
    now_others ≡ others → Asks refused took others now_refused now_took now_others
list-asks (Ok x) texts refused took now_refused now_took others now_others ok glob bad memory unrefused o =
    took-only _ _ _ _ _ _ ok.0 ok.2 (unrefused (λ e. cc)) o
list-asks (Err BadGlob) texts refused took now_refused now_took others now_others ok glob bad memory unrefused o =
    let first = glob refl in took-only _ _ _ _ _ _ first.7.0 first.7.2 (unrefused (λ e. cc)) o
list-asks (Err BadExpression) texts refused took now_refused now_took others now_others ok glob bad memory unrefused o =
    let first = bad refl in refused-too _ _ _ _ _ _ first.6.0 first.7.0 first.7.2 first.6.3 o
list-asks (Err Memory) texts refused took now_refused now_took others now_others ok glob bad memory unrefused o =
    let front = memory refl in took-only _ _ _ _ _ _ front.3.0 front.3.2 (unrefused (λ e. cc)) o

-- ---- one text

glob-rule : (wrong : List ℕ → Bool) (text : List ℕ) → (¬ IsSlashed text) → is_rule_with wrong text (expression_in text) ≡ is_glob text
glob-rule wrong text h = ap (is_rule_with wrong text) (none-in text (expression_in text) refl h)

expression-rule : (wrong : List ℕ → Bool) (text inner : List ℕ) (fold : Bool) → text ≡ slashed inner fold → is_rule_with wrong text (expression_in text) ≡ not (wrong inner)
expression-rule wrong text inner fold e = ap (is_rule_with wrong text) (ap expression_in e ∙ expression-of inner fold)

rule-taken : (wrong : List ℕ → Bool) (text : List ℕ) (rule : Rule) (asked : Lists) → IsRule text rule → AreExpressions text asked → list_all (λ t. not (wrong t)) asked ≡ true → is_rule_with wrong text (expression_in text) ≡ true
rule-taken wrong text (Glob globs) asked h a none = glob-rule wrong text h.0 ∙ (glob-decides text).1 (globs, h.1)
rule-taken wrong text (Expression regex) [] h a none = absurd (a (h.0, h.1, h.2))
rule-taken wrong text (Expression regex) (inner ∷ []) h a none = expression-rule wrong text inner a.0 a.1 ∙ (and_parts _ _ none).0
rule-taken wrong text (Expression regex) (inner ∷ other ∷ others) h a none = absurd a

bad-rule : (wrong : List ℕ → Bool) (text : List ℕ) → IsBadGlob text → is_rule_with wrong text (expression_in text) ≡ false
bad-rule wrong text h = glob-rule wrong text h.0 ∙ bad-false (is_glob text) (λ t. let g = (glob-decides text).0 t in h.1 g.0 g.1)

-- all that was added stands first in what was added
more-of : (old now mine more : Lists) (p : List ℕ → Bool) → now ≡ old ++ mine → now ≡ old ++ more → list_all p mine ≡ true → list_all p more ≡ true
more-of old now mine more p e f h = ap (list_all p) (sym (append_cancel_left old mine more (sym e ∙ f))) ∙ h

refused-rule : (wrong : List ℕ → Bool) (text : List ℕ) (refused took now_refused now_took : Lists) → RefusedIn text refused now_refused → Agrees wrong refused took now_refused now_took → is_rule_with wrong text (expression_in text) ≡ false
refused-rule wrong text refused took now_refused now_took (inner, fold, e, more) agrees =
    expression-rule wrong text inner fold e ∙ ap not (and_parts _ _ (more-of refused now_refused agrees.more_refused (inner ∷ []) wrong agrees.refused_is more agrees.all)).0

pub rule-read : (wrong : List ℕ → Bool) (text : List ℕ) (rule : Rule) (refused took now_refused now_took : Lists) → IsRule text rule → TookMore (AreExpressions text) took now_took → Agrees wrong refused took now_refused now_took → is_rule_with wrong text (expression_in text) ≡ true
rule-read wrong text rule refused took now_refused now_took h (asked, a, e) agrees =
    rule-taken wrong text rule asked h a (more-of took now_took agrees.more_took asked (λ t. not (wrong t)) agrees.took_is e agrees.none)

-- ---- several

all-taken : (wrong : List ℕ → Bool) (texts : Lists) (patterns : List Pattern) (asked : Lists) → ArePatterns texts patterns → AreAllExpressions texts asked → list_all (λ t. not (wrong t)) asked ≡ true → list_all (is_pattern wrong) texts ≡ true
all-taken wrong [] patterns asked h a none = refl
all-taken wrong (t ∷ ts) [] asked h a none = absurd h
all-taken wrong (t ∷ ts) (p ∷ ps) asked h (first, rest, e, one, more) none =
    let N : List ℕ → Bool = λ t. not (wrong t) in
    let two = and_parts _ _ (sym (list_all-append N first rest) ∙ ap (list_all N) (sym e) ∙ none) in
    and_from _ _ (rule-taken wrong (rule_text t) p.rule first h.0.rule one two.0) (all-taken wrong ts ps rest h.1 more two.1)

one-wrong : (wrong : List ℕ → Bool) (before after : Lists) (text : List ℕ) → is_pattern wrong text ≡ false → list_all (is_pattern wrong) (before ++ text ∷ after) ≡ false
one-wrong wrong [] after text e = ap (λ (b : Bool). b && list_all (is_pattern wrong) after) e
one-wrong wrong (x ∷ before) after text e = ap (λ (b : Bool). is_pattern wrong x && b) (one-wrong wrong before after text e) ∙ and-false (is_pattern wrong x)

pub taken-list : (wrong : List ℕ → Bool) (texts refused took now_refused now_took : Lists) (patterns : List Pattern) → ArePatterns texts patterns → TookMore (AreAllExpressions texts) took now_took → Agrees wrong refused took now_refused now_took → list_all (is_pattern wrong) texts ≡ true
taken-list wrong texts refused took now_refused now_took patterns h (asked, a, e) agrees =
    all-taken wrong texts patterns asked h a (more-of took now_took agrees.more_took asked (λ t. not (wrong t)) agrees.took_is e agrees.none)

bad-list : (wrong : List ℕ → Bool) (texts took now_took : Lists) → FirstIs (λ text. IsBadGlob (rule_text text)) texts took now_took → list_all (is_pattern wrong) texts ≡ false
bad-list wrong texts took now_took (before, after, text, patterns, e, all, bad, rest) = ap (list_all (is_pattern wrong)) e ∙ one-wrong wrong before after text (bad-rule wrong (rule_text text) bad)

refused-list : (wrong : List ℕ → Bool) (texts refused took now_refused now_took : Lists) → FirstIs (λ text. RefusedIn (rule_text text) refused now_refused) texts took now_took → Agrees wrong refused took now_refused now_took → list_all (is_pattern wrong) texts ≡ false
refused-list wrong texts refused took now_refused now_took (before, after, text, patterns, e, all, bad, rest) agrees =
    ap (list_all (is_pattern wrong)) e ∙ one-wrong wrong before after text
    (refused-rule wrong (rule_text text) refused took now_refused now_took bad agrees)

-- ---- results

pub list-tells : (r : Result (List Pattern) PatternError) (wrong : List ℕ → Bool) (texts refused took now_refused now_took : Lists) →
    IfOk r (λ list. ArePatterns texts list) →
    OnOk r (TookMore (AreAllExpressions texts) took now_took) →
    (IsErrOf r BadGlob → FirstIs (λ text. IsBadGlob (rule_text text)) texts took now_took) →
    (IsErrOf r BadExpression → FirstIs (λ text. RefusedIn (rule_text text) refused now_refused) texts took now_took) →
    Agrees wrong refused took now_refused now_took → TellsTest r (list_all (is_pattern wrong) texts)
list-tells (Ok list) wrong texts refused took now_refused now_took read ok glob bad agrees = taken-list wrong texts refused took now_refused now_took list read ok agrees
list-tells (Err BadGlob) wrong texts refused took now_refused now_took read ok glob bad agrees = bad-list wrong texts took now_took (glob refl)
list-tells (Err BadExpression) wrong texts refused took now_refused now_took read ok glob bad agrees = refused-list wrong texts refused took now_refused now_took (bad refl) agrees
list-tells (Err Memory) wrong texts refused took now_refused now_took read ok glob bad agrees = tt

pub rule-refused : (T U : Type 0) (error : PatternError) (wrong : List ℕ → Bool) (text : List ℕ) (refused took now_refused now_took : Lists) →
    (IsErrOf {T = T} {E = PatternError} (Err error) BadGlob → IsBadGlob text) →
    (IsErrOf {T = T} {E = PatternError} (Err error) BadExpression → RefusedIn text refused now_refused) →
    Agrees wrong refused took now_refused now_took → TellsTest {T = U} (Err error) (is_rule_with wrong text (expression_in text))
rule-refused T U BadGlob wrong text refused took now_refused now_took glob bad agrees = bad-rule wrong text (glob refl)
rule-refused T U BadExpression wrong text refused took now_refused now_took glob bad agrees = refused-rule wrong text refused took now_refused now_took (bad refl) agrees
rule-refused T U Memory wrong text refused took now_refused now_took glob bad agrees = tt

-- only memory fails behind a test that is passed
pub passed : {T : Type 0} (r : Result T PatternError) (b : Bool) → b ≡ true → (¬ IsErrOf r BadGlob) × (¬ IsErrOf r BadExpression) → TellsTest r b
passed (Ok x) b e h = e
passed (Err BadGlob) b e h = absurd (h.0 refl)
passed (Err BadExpression) b e h = absurd (h.1 refl)
passed (Err Memory) b e h = tt

pub retold : (T U : Type 0) (error : PatternError) (b : Bool) → TellsTest {T = T} (Err error) b → TellsTest {T = U} (Err error) b
retold T U BadGlob b h = h
retold T U BadExpression b h = h
retold T U Memory b h = h

pub built-tells : {T : Type 0} (r : Result T PatternError) (wrong : List ℕ → Bool) (text : List ℕ) (refused took now_refused now_took : Lists) → Built text refused took now_refused now_took r → Agrees wrong refused took now_refused now_took → TellsTest r (not (wrong text))
built-tells (Ok x) wrong text refused took now_refused now_took b agrees = (and_parts _ _ (more-of took now_took agrees.more_took (text ∷ []) (λ t. not (wrong t)) agrees.took_is b.takes agrees.none)).0
built-tells (Err BadGlob) wrong text refused took now_refused now_took b agrees = absurd (b.no_glob refl)
built-tells (Err BadExpression) wrong text refused took now_refused now_took b agrees = ap not (and_parts _ _ (more-of refused now_refused agrees.more_refused (text ∷ []) wrong agrees.refused_is (b.refuses refl) agrees.all)).0
built-tells (Err Memory) wrong text refused took now_refused now_took b agrees = tt
