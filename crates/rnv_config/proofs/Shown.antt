-- What is printed has no floats.
use Rattle.std.proofs.Common.{◌≡◌, ℕ, ℤ, List, [], ◌∷◌, Bool, true, false, Option, Some, None, map, refl, sym, ap, ◌∙◌, Ordering, Less, Equal, Greater, nat_cmp, String, Global, BTreeMap}
use Rattle.std.specs.Prelude.{pos, negsuc, codes, ◌||◌}
use Rattle.std.specs.Cmp.Lexicographic.{slice_cmp}
use Rattle.std.specs.Ordering.{match_ordering}
use Rattle.serde_json.specs.Data.{Data, Items, no_items, item, Members, no_members, member, array, put, object, string}
use Rattle.serde_json.specs.View.{items_of, members_view, view}
use Rattle.serde_json.specs.Written.{compact_text, has_float, items_have_float, members_have_float}
use Rattle.serde_json.specs.declared.value.Value.{Value, Object}
use Rattle.serde_json.proofs.Views.{view-Object}
use Rattle.rnv_base.specs.declared.kinds.SourceKind.{SourceKind}
use Rattle.rnv_options.specs.Customs.{ToldCustom}
use Rattle.rnv_options.specs.Matchers.{ToldMatcher, match_kind, match_name}
use Rattle.rnv_options.specs.Readings.{Lists, Told, ToldRuleSetting, allowed, figure, flag, nothing, patterns, tasks, word, words}
use Rattle.rnv_options.specs.Table.{name_of}
use Rattle.rnv_options.specs.declared.matcher.MatchKind.{MatchKind}
use Rattle.rnv_options.specs.declared.matcher.MatchKind.TheVariants.{PatternTexts, OnePattern, Version, PlainTexts}
use Rattle.rnv_config.specs.Settings.{ToldRule, ToldSetting, ToldValue, customs, plain, rules}
use Rattle.rnv_config.specs.Texts.{config_text, one_shown, put_source, put_text, put_texts, shown, shown_custom, shown_rule, shown_tasks, shown_texts, shown_value, source_name, strings, with_matchers, with_sets, with_settings}

-- ---- lists and objects

or-plain : (a b : Bool) → a ≡ false → b ≡ false → (a || b) ≡ false
or-plain false b e f = f
or-plain true b e f = e

of-or : (a b : Bool) → (a || b) ≡ false → (a ≡ false) × (b ≡ false)
of-or false b e = (refl, e)
of-or true b e = absurd cc

items-plain : {A : Type 0} (show : A → Data) → ((x : A) → has_float (show x) ≡ false) → (xs : List A) → items_have_float (items_of (map show xs)) ≡ false
items-plain show each [] = refl
items-plain show each (x ∷ xs) = or-plain (has_float (show x)) (items_have_float (items_of (map show xs))) (each x) (items-plain show each xs)

put-at : (o : Ordering) (k l : List ℕ) (d e : Data) (ms : Members) → has_float d ≡ false → has_float e ≡ false → members_have_float ms ≡ false → members_have_float (put k d ms) ≡ false →
    members_have_float (match_ordering o (member k d (member l e ms)) (member l d ms) (member l e (put k d ms))) ≡ false
put-at Less k l d e ms p q r s = or-plain _ _ p (or-plain _ _ q r)
put-at Equal k l d e ms p q r s = or-plain _ _ p r
put-at Greater k l d e ms p q r s = or-plain _ _ q s

put-plain : (k : List ℕ) (d : Data) (ms : Members) → has_float d ≡ false → members_have_float ms ≡ false → members_have_float (put k d ms) ≡ false
put-plain k d no_members p q = or-plain _ _ p refl
put-plain k d (member l e ms) p q =
    let two = of-or (has_float e) (members_have_float ms) q in
    put-at (slice_cmp nat_cmp k l) k l d e ms p two.0 two.1 (put-plain k d ms p two.1)

-- ---- values

strings-plain : (texts : Lists) → has_float (strings texts) ≡ false
strings-plain texts = items-plain string (λ text. refl) texts

texts-plain : (k : List ℕ) (texts : Option Lists) (ms : Members) → members_have_float ms ≡ false → members_have_float (put_texts k texts ms) ≡ false
texts-plain k None ms p = p
texts-plain k (Some texts) ms p = put-plain k (strings texts) ms (strings-plain texts) p

shown-plain : (value : Told) → has_float (shown value) ≡ false
shown-plain (flag b) = refl
shown-plain (figure (pos n)) = refl
shown-plain (figure (negsuc n)) = refl
shown-plain (word text) = refl
shown-plain nothing = refl
shown-plain (words texts) = strings-plain texts
shown-plain (patterns texts) = strings-plain texts
shown-plain (allowed text) = refl
shown-plain (tasks commands filters) =
    texts-plain (codes "fileFilters") filters (put_texts (codes "commands") commands no_members) (texts-plain (codes "commands") commands no_members refl)

-- ---- rules

one-plain : (texts : Lists) → has_float (one_shown texts) ≡ false
one-plain [] = refl
one-plain (text ∷ []) = refl
one-plain (text ∷ other ∷ others) = strings-plain (text ∷ other ∷ others)

matched-plain : (kind : MatchKind) (texts : Lists) → has_float (shown_texts kind texts) ≡ false
matched-plain PatternTexts texts = strings-plain texts
matched-plain OnePattern texts = one-plain texts
matched-plain Version texts = one-plain texts
matched-plain PlainTexts texts = strings-plain texts

matchers-plain : (matchers : List ToldMatcher) (ms : Members) → members_have_float ms ≡ false → members_have_float (with_matchers ms matchers) ≡ false
matchers-plain [] ms p = p
matchers-plain (m ∷ rest) ms p =
    matchers-plain rest (put (match_name m.on) (shown_texts (match_kind m.on) m.texts) ms) (put-plain (match_name m.on) (shown_texts (match_kind m.on) m.texts) ms (matched-plain (match_kind m.on) m.texts) p)

sets-plain : (sets : List ToldRuleSetting) (ms : Members) → members_have_float ms ≡ false → members_have_float (with_sets ms sets) ≡ false
sets-plain [] ms p = p
sets-plain (s ∷ rest) ms p = sets-plain rest (put (name_of s.opt) (shown s.value) ms) (put-plain (name_of s.opt) (shown s.value) ms (shown-plain s.value) p)

rule-plain : (rule : ToldRule) → has_float (shown_rule rule) ≡ false
rule-plain rule = sets-plain rule.sets (with_matchers no_members rule.matchers) (matchers-plain rule.matchers no_members refl)

-- ---- custom managers

source-plain : (source : Option SourceKind) (ms : Members) → members_have_float ms ≡ false → members_have_float (put_source source ms) ≡ false
source-plain None ms p = p
source-plain (Some source) ms p = put-plain (codes "datasourceTemplate") (string (source_name source)) ms refl p

text-plain : (k : List ℕ) (text : Option (List ℕ)) (ms : Members) → members_have_float ms ≡ false → members_have_float (put_text k text ms) ≡ false
text-plain k None ms p = p
text-plain k (Some text) ms p = put-plain k (string text) ms refl p

custom-plain : (custom : ToldCustom) → has_float (shown_custom custom) ≡ false
custom-plain custom =
    let first = put (codes "customType") (string (codes "regex")) no_members in
    let then_ = put (codes "fileMatch") (strings custom.files) first in
    let last = put (codes "matchStrings") (strings custom.strings) then_ in
    let first_plain = put-plain (codes "customType") (string (codes "regex")) no_members refl refl in
    let then_plain = put-plain (codes "fileMatch") (strings custom.files) first (strings-plain custom.files) first_plain in
    let last_plain = put-plain (codes "matchStrings") (strings custom.strings) then_ (strings-plain custom.strings) then_plain in
    text-plain (codes "depNameTemplate") custom.name (put_source custom.source last) (source-plain custom.source last last_plain)

-- ---- the whole

value-plain : (value : ToldValue) → has_float (shown_value value) ≡ false
value-plain (plain value) = shown-plain value
value-plain (rules list) = items-plain shown_rule rule-plain list
value-plain (customs list) = items-plain shown_custom custom-plain list

settings-plain : (settings : List ToldSetting) (ms : Members) → members_have_float ms ≡ false → members_have_float (with_settings ms settings) ≡ false
settings-plain [] ms p = p
settings-plain (s ∷ rest) ms p = settings-plain rest (put (name_of s.opt) (shown_value s.value) ms) (put-plain (name_of s.opt) (shown_value s.value) ms (value-plain s.value) p)

-- the text of an object that has these settings
pub text_of : (m : BTreeMap (String Global) Value) (settings : List ToldSetting) (text : List ℕ) → members_view m.entries ≡ with_settings no_members settings →
    (has_float (view (Object m)) ≡ false → text ≡ compact_text (view (Object m))) → text ≡ config_text settings
text_of m settings text e h =
    let is : view (Object m) ≡ object (with_settings no_members settings) = view-Object m ∙ ap object e in
    h (ap has_float is ∙ settings-plain settings no_members refl) ∙ ap compact_text is
