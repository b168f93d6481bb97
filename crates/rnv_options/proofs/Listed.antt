-- Custom managers, one after another.
use Rattle.std.proofs.Common.{◌≡◌, ℕ, List, [], ◌∷◌, ◌++◌, Bool, Ok, Err, Some, None, Option, Result, map, refl, sym, ap, ◌∙◌, append-nil, append_assoc, drop, length, arith}
use Rattle.std.specs.Prelude.{◌<◌, IfOk, not}
use Rattle.std.specs.List.{list_all}
use Rattle.std.proofs.lemmas.Bool.{cond-true, cond-false}
use Rattle.rnv_base.specs.declared.kinds.SourceKind.{SourceKind}
use Rattle.rnv_pattern.specs.declared.pattern.Pattern.{Pattern}
use Rattle.std.proofs.lemmas.List.{map-append}
use Rattle.serde_json.specs.View.{items_view, view}
use Rattle.serde_json.specs.declared.value.Value.{Value}
use Rattle.rnv_options.specs.Customs.{AddsCustom, Gives, ToldCustom, custom_of, custom_with, customs_in, expressions_if, put_first, texts_built, told_custom}
use Rattle.rnv_options.specs.Readings.{Lists, Tells, TellsTest}
use Rattle.rnv_options.specs.declared.error.Wrong.{Wrong}
use Rattle.rnv_options.specs.declared.error.Wrong.TheVariants.{WrongKind, BadValue, Memory}
use Rattle.rnv_options.proofs.Turned.{none-dropped}
use Rattle.rnv_options.specs.declared.plain.Custom.{Custom}

-- what was read, and then what is left
abbrev pub behind_customs : List ToldCustom → Result (List ToldCustom) Wrong → Result (List ToldCustom) Wrong
behind_customs first (Ok rest) = Ok (first ++ rest)
behind_customs first (Err why) = Err why

pub from-nothing : (r : Result (List ToldCustom) Wrong) → behind_customs [] r ≡ r
from-nothing (Ok rest) = refl
from-nothing (Err why) = refl

one-more : (old : List ToldCustom) (one : ToldCustom) (rest : Result (List ToldCustom) Wrong) → behind_customs old (put_first (Some one) rest) ≡ behind_customs (old ++ one ∷ []) rest
one-more old one (Ok rest) = ap Ok (sym (append_assoc old (one ∷ []) rest))
one-more old one (Err why) = refl

-- a first one that is read
pub customs-step : (wrong : List ℕ → Bool) (left later : List Value) (value : Value) (old now : List Custom) (one : Custom) (all : Result (List ToldCustom) Wrong)
    → left ≡ value ∷ later → all ≡ behind_customs (map told_custom old) (customs_in wrong (items_view left))
    → custom_of wrong (view value) ≡ Some (told_custom one) → now ≡ old ++ one ∷ []
    → all ≡ behind_customs (map told_custom now) (customs_in wrong (items_view later))
customs-step wrong left later value old now one all e whole reads grown =
    whole ∙ ap (λ (vs : List Value). behind_customs (map told_custom old) (customs_in wrong (items_view vs))) e
    ∙ ap (λ (o : Option ToldCustom). behind_customs (map told_custom old) (put_first o (customs_in wrong (items_view later)))) reads
    ∙ one-more (map told_custom old) (told_custom one) (customs_in wrong (items_view later))
    ∙ ap (λ (cs : List ToldCustom). behind_customs cs (customs_in wrong (items_view later))) (sym (map-append told_custom old (one ∷ [])) ∙ ap (map told_custom) (sym grown))

-- a first one that is wrong
pub customs-stop : (wrong : List ℕ → Bool) (left later : List Value) (value : Value) (old new : List Custom) (cause : Wrong) (all : Result (List ToldCustom) Wrong)
    → left ≡ value ∷ later → all ≡ behind_customs (map told_custom old) (customs_in wrong (items_view left))
    → AddsCustom (Err cause) old new (custom_of wrong (view value)) → Tells {T = List Custom} (map told_custom) (Err cause) all
customs-stop wrong left later value old new WrongKind all e whole h = absurd h
customs-stop wrong left later value old new BadValue all e whole h =
    whole ∙ ap (λ (vs : List Value). behind_customs (map told_custom old) (customs_in wrong (items_view vs))) e
    ∙ ap (λ (o : Option ToldCustom). behind_customs (map told_custom old) (put_first o (customs_in wrong (items_view later)))) h
customs-stop wrong left later value old new Memory all e whole h = tt

-- one that is not read adds nothing
pub gives-none : (cause : Wrong) (old new : List Custom) (reading : Option ToldCustom) → Gives {T = Custom} told_custom (Err cause) reading → AddsCustom (Err cause) old new reading
gives-none WrongKind old new reading h = absurd h
gives-none BadValue old new reading h = h
gives-none Memory old new reading h = tt

-- none was read so far
pub customs-start : (wrong : List ℕ → Bool) (items : List Value) (list : List Custom) → list ≡ [] → customs_in wrong (items_view items) ≡ behind_customs (map told_custom list) (customs_in wrong (items_view (drop 0 items)))
customs-start wrong items list e =
    sym (from-nothing (customs_in wrong (items_view items))) ∙ ap (λ (vs : List Value). behind_customs [] (customs_in wrong (items_view vs))) (sym (none-dropped items))
    ∙ ap (λ (cs : List Custom). behind_customs (map told_custom cs) (customs_in wrong (items_view (drop 0 items)))) (sym e)

-- none is left
pub customs-end : (wrong : List ℕ → Bool) (left : List Value) (old : List Custom) (all : Result (List ToldCustom) Wrong)
    → left ≡ [] → all ≡ behind_customs (map told_custom old) (customs_in wrong (items_view left)) → all ≡ Ok (map told_custom old)
customs-end wrong left old all e whole =
    whole ∙ ap (λ (vs : List Value). behind_customs (map told_custom old) (customs_in wrong (items_view vs))) e ∙ ap Ok (append-nil (map told_custom old))

-- ---- one custom manager

pub gives-expressions : (test : List ℕ → Bool) (texts : Lists) (r : Result (List Pattern) Wrong) → 0 < length texts → TellsTest r (list_all (λ t. not (test t)) texts) → IfOk r (λ list. texts_built list ≡ texts) → Gives texts_built r (expressions_if test (Some texts))
gives-expressions test [] r some h built = absurd (omega (arith, some))
gives-expressions test (t ∷ ts) (Ok list) some h built = cond-true _ _ _ h ∙ ap Some (sym built)
gives-expressions test (t ∷ ts) (Err WrongKind) some h built = absurd h
gives-expressions test (t ∷ ts) (Err BadValue) some h built = cond-false _ _ _ h
gives-expressions test (t ∷ ts) (Err Memory) some h built = tt

pub read-custom : (files strings : Lists) (source : Option SourceKind) (name : Option (List ℕ)) (a b : Option Lists) (c : Option (Option SourceKind)) (d : Option (Option (List ℕ))) → a ≡ Some files → b ≡ Some strings → c ≡ Some source → d ≡ Some name →
    custom_with a b c d ≡ Some (record { files = files; strings = strings; source = source; name = name })
read-custom files strings source name a b c d p q r s =
    ap (λ (x : Option Lists). custom_with x b c d) p ∙ ap (λ (x : Option Lists). custom_with (Some files) x c d) q
    ∙ ap (λ (x : Option (Option SourceKind)). custom_with (Some files) (Some strings) x d) r ∙ ap (λ (x : Option (Option (List ℕ))). custom_with (Some files) (Some strings) (Some source) x) s

no-strings : (a b : Option Lists) (c : Option (Option SourceKind)) (d : Option (Option (List ℕ))) → b ≡ None → custom_with a b c d ≡ None
no-strings None b c d e = refl
no-strings (Some files) b c d e = ap (λ (x : Option Lists). custom_with (Some files) x c d) e

pub wrong-strings : (cause : Wrong) (a b : Option Lists) (c : Option (Option SourceKind)) (d : Option (Option (List ℕ))) → Gives {T = List Pattern} texts_built (Err cause) b → Gives {T = Custom} told_custom (Err cause) (custom_with a b c d)
wrong-strings WrongKind a b c d h = absurd h
wrong-strings BadValue a b c d h = no-strings a b c d h
wrong-strings Memory a b c d h = tt
