-- An exact value of npm names one version, which is in its range.
use Rattle.std.proofs.Common.{◌≡◌, ◌<◌, ℕ, ◌==◌, Bool, true, false, List, [], ◌∷◌, ◌++◌, length, Option, Some, None, append-nil, ◌+◌, ◌*◌, ◌≤◌, refl, sym, ap, ◌∙◌, subst, inl, inr, arith}
use Rattle.std.proofs.lemmas.Bool.{cases_Bool}
use Rattle.std.proofs.lemmas.Cmp.{tied_itself}
use Rattle.std.proofs.lemmas.List.{length-append}
use Rattle.std.proofs.lemmas.List.Splits.{length-slice_split}
use Rattle.std.specs.Str.{bytes_eq}
use Rattle.std.specs.Prelude.{◌&&◌, ◌||◌, codes, option_and_then, if◌then◌else◌}
use Rattle.std.specs.List.{list_all, onto_first}
use Rattle.rnv_version.specs.Plain.{is_letter_v, past_one}
use Rattle.rnv_version.specs.SemVer.{Version, has_no_pre, version_cmp, version_total, without_build}
use Rattle.rnv_version.specs.Numbering.{ExactIsMet, NamesOne}
use Rattle.rnv_version.proofs.Tags.{and_then_some}
use Rattle.rnv_npm.specs.Version.{npm_version, plain_version, unmarked}
use Rattle.rnv_npm.specs.Comparators.{Comparator, bounded_all, comparators_of, every, is_within, meaning, meant, with}
use Rattle.rnv_npm.specs.Partials.{Partial, after_major, after_minor, are_wild, first_of, marked_partial, part_number, partial_of, pieces, second_of, short, short_of, signed, whole_or_short}
use Rattle.rnv_npm.specs.Ranges.{hyphen_of, is_equal, is_exact, is_in_set, is_of_its_numbers, is_satisfied, is_some_text, joined, listed, meets, npm_range, read_set, set_of, sets_of, with_each, words_of}
use Rattle.rnv_npm.specs.Numbering.{npm, signed_word}
use Rattle.rnv_npm.proofs.Satisfied.{in_whole}
use Rattle.rnv_npm.proofs.Versions.{npm_version-complete, plain_version-sound}
use Rattle.rnv_npm.specs.declared.comparator.Operator.TheVariants as op
use Rattle.rnv_npm.specs.declared.partial.Named.{Named}
use Rattle.rnv_npm.specs.declared.partial.Named.TheVariants as named
use Rattle.rnv_npm.specs.declared.sign.Sign.{Sign}
use Rattle.rnv_npm.specs.declared.sign.Sign.TheVariants as sign

abbrev is_one : List Comparator → Bool
is_one (c ∷ []) = is_equal c.operator
is_one _ = false

-- ---- one comparator of the operator `=`

record IsEqualWhole (s : Sign) (k : Named) : Type 0 where
  sign_is : s ≡ sign.Equal
  named_is : k ≡ named.Patch

only_equal : (s : Sign) (k : Named) (v : Version) → is_one (meant s k v) ≡ true → IsEqualWhole s k
only_equal sign.Caret named.Nothing v h = cc h
only_equal sign.Caret named.Major v h = cc h
only_equal sign.Caret named.Minor v h = cc h
only_equal sign.Caret named.Patch v h = cc h
only_equal sign.Tilde named.Nothing v h = cc h
only_equal sign.Tilde named.Major v h = cc h
only_equal sign.Tilde named.Minor v h = cc h
only_equal sign.Tilde named.Patch v h = cc h
only_equal sign.Greater named.Nothing v h = cc h
only_equal sign.Greater named.Major v h = cc h
only_equal sign.Greater named.Minor v h = cc h
only_equal sign.Greater named.Patch v h = cc h
only_equal sign.GreaterEqual named.Nothing v h = cc h
only_equal sign.GreaterEqual named.Major v h = cc h
only_equal sign.GreaterEqual named.Minor v h = cc h
only_equal sign.GreaterEqual named.Patch v h = cc h
only_equal sign.Less named.Nothing v h = cc h
only_equal sign.Less named.Major v h = cc h
only_equal sign.Less named.Minor v h = cc h
only_equal sign.Less named.Patch v h = cc h
only_equal sign.LessEqual named.Nothing v h = cc h
only_equal sign.LessEqual named.Major v h = cc h
only_equal sign.LessEqual named.Minor v h = cc h
only_equal sign.LessEqual named.Patch v h = cc h
only_equal sign.Equal named.Nothing v h = cc h
only_equal sign.Equal named.Major v h = cc h
only_equal sign.Equal named.Minor v h = cc h
only_equal sign.Equal named.Patch v h = record { sign_is = refl; named_is = refl }

-- ---- parts that are no three numbers

abbrev is_whole : Named → Bool
is_whole named.Patch = true
is_whole _ = false

taken : (p q : Partial) → ◌≡◌ {A = Option Partial} (Some p) (Some q) → is_whole p.named ≡ false → is_whole q.named ≡ false
taken p q h not =
    let same : p ≡ q = cc h in
    subst (λ (x : Partial). is_whole x.named ≡ false) same not

after_minor_short : (major : ℕ) (parts : List (List ℕ)) (minor : ℕ) (p : Partial) → after_minor major parts minor ≡ Some p → is_whole p.named ≡ false
after_minor_short major parts minor p h = elim (cases_Bool (are_wild 1 parts)) [
  | inl wild ↦ taken (short named.Minor major minor) p (rw wild at h) refl
  | inr not ↦ cc (rw not at h)
]

second_short : (major : ℕ) (parts : List (List ℕ)) (p : Partial) → second_of major parts ≡ Some p → is_whole p.named ≡ false
second_short major [] p h = cc h
second_short major (part ∷ parts) p h =
    let x = and_then_some (after_minor major parts) (part_number part) p h in
    after_minor_short major parts x.0 p x.2

after_major_short : (parts : List (List ℕ)) (major : ℕ) (p : Partial) → after_major parts major ≡ Some p → is_whole p.named ≡ false
after_major_short parts major p h = elim (cases_Bool (are_wild 2 parts)) [
  | inl wild ↦ taken (short named.Major major 0) p (rw wild at h) refl
  | inr not ↦ second_short major parts p (rw not at h)
]

first_short : (parts : List (List ℕ)) (p : Partial) → first_of parts ≡ Some p → is_whole p.named ≡ false
first_short [] p h = cc h
first_short (part ∷ parts) p h =
    let x = and_then_some (after_major parts) (part_number part) p h in
    after_major_short parts x.0 p x.2

short_short : (parts : List (List ℕ)) (p : Partial) → short_of parts ≡ Some p → is_whole p.named ≡ false
short_short parts p h = elim (cases_Bool (are_wild 3 parts)) [
  | inl wild ↦ taken (short named.Nothing 0 0) p (rw wild at h) refl
  | inr not ↦ first_short parts p (rw not at h)
]

record IsWhole (text : List ℕ) (p : Partial) : Type 0 where
  version : Version
  read : plain_version text ≡ Some version
  is : p.version ≡ without_build version

whole_of : (text : List ℕ) (o : Option Version) (p : Partial) → plain_version text ≡ o → whole_or_short o (pieces 46 text) ≡ Some p → is_whole p.named ≡ true → IsWhole text p
whole_of text None p read h whole = cc (sym (short_short (pieces 46 text) p h) ∙ whole)
whole_of text (Some v) p read h whole =
    let same : record { named = named.Patch; version = without_build v } ≡ p = cc h in
    record { version = v; read = read; is = ap (λ (x : Partial). x.version) (sym same) }

-- ---- a comparator's text

record IsTerm (text : List ℕ) (c : Comparator) : Type 0 where
  version : Version
  read : plain_version (past_one is_letter_v text) ≡ Some version
  is : c ≡ with op.Equal (without_build version)

bounded_is : (cs ds : List Comparator) → bounded_all cs ≡ Some ds → cs ≡ ds
bounded_is cs ds h = elim (cases_Bool (list_all is_within cs)) [
  | inl good ↦ let some : Some cs ≡ Some ds = rw good at h in cc some
  | inr bad ↦ cc (rw bad at h)
]

term_of : (s : Sign) (text : List ℕ) (c : Comparator) → comparators_of s text ≡ Some (c ∷ []) → is_equal c.operator ≡ true → IsTerm text c
unfolding partial_of
term_of s text c h equal =
    let p = and_then_some (meaning s) (marked_partial text) (c ∷ []) h in
    let means = bounded_is (meant s p.0.named p.0.version) (c ∷ []) p.2 in
    let one : is_one (meant s p.0.named p.0.version) ≡ true = ap is_one means ∙ equal in
    let both = only_equal s p.0.named p.0.version one in
    let whole = whole_of (past_one is_letter_v text) (plain_version (past_one is_letter_v text)) p.0 refl p.1 (ap is_whole both.named_is) in
    let first : with op.Equal p.0.version ∷ [] ≡ c ∷ [] = sym (ap (λ (x : Sign). meant x named.Patch p.0.version) both.sign_is) ∙ sym (ap (λ (x : Named). meant s x p.0.version) both.named_is) ∙ means in
    let head : c ≡ with op.Equal p.0.version = cc first in
    record { version = whole.version; read = whole.read; is = head ∙ ap (with op.Equal) whole.is }

-- ---- words

meant_some : (s : Sign) (k : Named) (v : Version) → 0 < length (meant s k v)
meant_some sign.Caret named.Nothing v = omega arith
meant_some sign.Caret named.Major v = omega arith
meant_some sign.Caret named.Minor v = omega arith
meant_some sign.Caret named.Patch v = omega arith
meant_some sign.Tilde named.Nothing v = omega arith
meant_some sign.Tilde named.Major v = omega arith
meant_some sign.Tilde named.Minor v = omega arith
meant_some sign.Tilde named.Patch v = omega arith
meant_some sign.Greater named.Nothing v = omega arith
meant_some sign.Greater named.Major v = omega arith
meant_some sign.Greater named.Minor v = omega arith
meant_some sign.Greater named.Patch v = omega arith
meant_some sign.GreaterEqual named.Nothing v = omega arith
meant_some sign.GreaterEqual named.Major v = omega arith
meant_some sign.GreaterEqual named.Minor v = omega arith
meant_some sign.GreaterEqual named.Patch v = omega arith
meant_some sign.Less named.Nothing v = omega arith
meant_some sign.Less named.Major v = omega arith
meant_some sign.Less named.Minor v = omega arith
meant_some sign.Less named.Patch v = omega arith
meant_some sign.LessEqual named.Nothing v = omega arith
meant_some sign.LessEqual named.Major v = omega arith
meant_some sign.LessEqual named.Minor v = omega arith
meant_some sign.LessEqual named.Patch v = omega arith
meant_some sign.Equal named.Nothing v = omega arith
meant_some sign.Equal named.Major v = omega arith
meant_some sign.Equal named.Minor v = omega arith
meant_some sign.Equal named.Patch v = omega arith

terms_some : (s : Sign) (text : List ℕ) (cs : List Comparator) → comparators_of s text ≡ Some cs → 0 < length cs
terms_some s text cs h =
    let p = and_then_some (meaning s) (marked_partial text) cs h in
    let means = bounded_is (meant s p.0.named p.0.version) cs p.2 in
    subst (λ (xs : List Comparator). 0 < length xs) means (meant_some s p.0.named p.0.version)

record IsJoined (front back : Option (List Comparator)) (cs : List Comparator) : Type 0 where
  xs : List Comparator
  ys : List Comparator
  front_is : front ≡ Some xs
  back_is : back ≡ Some ys
  whole : xs ++ ys ≡ cs

joined_of : (front back : Option (List Comparator)) (cs : List Comparator) → joined front back ≡ Some cs → IsJoined front back cs
joined_of None back cs h = cc h
joined_of (Some xs) None cs h = cc h
joined_of (Some xs) (Some ys) cs h = record { xs = xs; ys = ys; front_is = refl; back_is = refl; whole = cc h }

joined_count : (front back : Option (List Comparator)) (cs : List Comparator) (n : ℕ) → joined front back ≡ Some cs → ((xs : List Comparator) → front ≡ Some xs → 0 < length xs)
    → ((ys : List Comparator) → back ≡ Some ys → n ≤ 2 * length ys) → n + 2 ≤ 2 * length cs
joined_count front back cs n h some count =
    let j = joined_of front back cs h in
    let total : length cs ≡ length j.xs + length j.ys = ap length (sym j.whole) ∙ length-append j.xs j.ys in
    let one = some j.xs j.front_is in
    let rest = count j.ys j.back_is in
    omega (arith, total, one, rest)

-- two words at most make a comparator
mutual
  unfolding listed

  after_none : (words : List (List ℕ)) (cs : List Comparator) → listed None words ≡ Some cs → length words ≤ 2 * length cs
  after_none [] cs h = omega arith
  after_none (word ∷ words) cs h = elim (cases_Bool (is_some_text (signed word).1)) [
    | inl some ↦
        let all = joined_count (comparators_of (signed word).0 (signed word).1) (listed None words) cs (length words) (rw some at h) (λ xs is. terms_some (signed word).0 (signed word).1 xs is) (λ ys is. after_none words ys is) in
        omega (arith, all)
    | inr alone ↦ let all = after_sign (signed word).0 words cs (rw alone at h) in omega (arith, all)
  ]

  after_sign : (s : Sign) (words : List (List ℕ)) (cs : List Comparator) → listed (Some s) words ≡ Some cs → length words + 1 ≤ 2 * length cs
  after_sign s [] cs h = cc h
  after_sign s (word ∷ words) cs h =
      let all = joined_count (comparators_of s word) (listed None words) cs (length words) h (λ xs is. terms_some s word xs is) (λ ys is. after_none words ys is) in
      omega (arith, all)

-- a comparator and nothing else
alone : (front : Option (List Comparator)) (c : Comparator) → joined front (Some []) ≡ Some (c ∷ []) → front ≡ Some (c ∷ [])
alone None c h = cc h
alone (Some xs) c h =
    let all : xs ++ [] ≡ c ∷ [] = cc h in
    ap (λ (x : List Comparator). Some x) (sym (append-nil xs) ∙ all)

record IsSigned (words : List (List ℕ)) (c : Comparator) : Type 0 where
  sign_of : Sign
  read : comparators_of sign_of (signed_word words) ≡ Some (c ∷ [])

one_listed : (words : List (List ℕ)) (c : Comparator) → listed None words ≡ Some (c ∷ []) → is_equal c.operator ≡ true → IsSigned words c
unfolding listed
one_listed [] c h equal = cc h
one_listed (word ∷ []) c h equal = elim (cases_Bool (is_some_text (signed word).1)) [
  | inl some ↦ record { sign_of = (signed word).0; read = alone (comparators_of (signed word).0 (signed word).1) c (rw some at h) }
  | inr none ↦ cc (rw none at h)
]
one_listed (operator ∷ word ∷ []) c h equal = elim (cases_Bool (is_some_text (signed operator).1)) [
  | inl some ↦
      let j = joined_of (comparators_of (signed operator).0 (signed operator).1) (listed None (word ∷ [])) (c ∷ []) (rw some at h) in
      let one = terms_some (signed operator).0 (signed operator).1 j.xs j.front_is in
      let more = after_none (word ∷ []) j.ys j.back_is in
      let total : 1 ≡ length j.xs + length j.ys = ap length (sym j.whole) ∙ length-append j.xs j.ys in
      absurd (omega (arith, one, more, total))
  | inr none ↦ record { sign_of = (signed operator).0; read = alone (comparators_of (signed operator).0 word) c (rw none at h) }
]
one_listed (a ∷ b ∷ d ∷ words) c h equal =
    let many = after_none (a ∷ b ∷ d ∷ words) (c ∷ []) h in
    absurd (omega (arith, many))

no_hyphen : (low high : List ℕ) (c : Comparator) → hyphen_of low high ≡ Some (c ∷ []) → ⊥
no_hyphen low high c h =
    let j = joined_of (comparators_of sign.GreaterEqual low) (comparators_of sign.LessEqual high) (c ∷ []) h in
    let one = terms_some sign.GreaterEqual low j.xs j.front_is in
    let also = terms_some sign.LessEqual high j.ys j.back_is in
    let total : 1 ≡ length j.xs + length j.ys = ap length (sym j.whole) ∙ length-append j.xs j.ys in
    omega (arith, one, also, total)

one_set : (words : List (List ℕ)) (c : Comparator) → set_of words ≡ Some (c ∷ []) → is_equal c.operator ≡ true → IsSigned words c
one_set [] c h equal =
    let first : every ≡ c ∷ [] = cc h in
    let not : false ≡ true = ap is_one first ∙ equal in
    cc not
one_set (word ∷ []) c h equal = one_listed (word ∷ []) c h equal
one_set (operator ∷ word ∷ []) c h equal = one_listed (operator ∷ word ∷ []) c h equal
one_set (low ∷ dash ∷ high ∷ []) c h equal = elim (cases_Bool (bytes_eq dash (codes "-"))) [
  | inl hyphen ↦ absurd (no_hyphen low high c (rw hyphen at h))
  | inr other ↦ one_listed (low ∷ dash ∷ high ∷ []) c (rw other at h) equal
]
one_set (a ∷ b ∷ d ∷ e ∷ words) c h equal = one_listed (a ∷ b ∷ d ∷ e ∷ words) c h equal

-- ---- sets

record IsOnly (texts : List (List ℕ)) (set : List Comparator) : Type 0 where
  text : List ℕ
  only : texts ≡ text ∷ []
  read : read_set text ≡ Some set

with_each_of : (first : Option (List Comparator)) (others : Option (List (List Comparator))) (set : List Comparator) (sets : List (List Comparator))
    → with_each first others ≡ Some (set ∷ sets) → (first ≡ Some set) × (others ≡ Some sets)
with_each_of None others set sets h = cc h
with_each_of (Some x) None set sets h = cc h
with_each_of (Some x) (Some xs) set sets h =
    let is : x ∷ xs ≡ set ∷ sets = cc h in
    let head : x ≡ set = cc is in
    let tail : xs ≡ sets = cc is in
    (ap (λ (y : List Comparator). Some y) head, ap (λ (ys : List (List Comparator)). Some ys) tail)

no_first : (first : Option (List Comparator)) (others : Option (List (List Comparator))) → with_each first others ≡ Some [] → ⊥
no_first None others h = cc h
no_first (Some x) None h = cc h
no_first (Some x) (Some xs) h =
    let is : x ∷ xs ≡ [] = cc h in
    let total = ap length is in
    omega (arith, total)

no_sets : (texts : List (List ℕ)) → sets_of texts ≡ Some [] → ⊥
unfolding sets_of
no_sets [] h = cc h
no_sets (text ∷ []) h = no_first (read_set text) (Some []) h
no_sets (text ∷ [] ∷ texts) h = no_first (read_set text) (sets_of texts) h
no_sets (text ∷ (b ∷ bytes) ∷ texts) h = cc h

one_only : (texts : List (List ℕ)) (set : List Comparator) → sets_of texts ≡ Some (set ∷ []) → IsOnly texts set
unfolding sets_of
one_only [] set h = cc h
one_only (text ∷ []) set h = record { text = text; only = refl; read = (with_each_of (read_set text) (Some []) set [] h).0 }
one_only (text ∷ [] ∷ texts) set h = absurd (no_sets texts (with_each_of (read_set text) (sets_of texts) set [] h).1)
one_only (text ∷ (b ∷ bytes) ∷ texts) set h = cc h

onto_one : (b : ℕ) (ps : List (List ℕ)) (rest piece : List ℕ) → 0 < length ps → ((t : List ℕ) → ps ≡ t ∷ [] → t ≡ rest) → onto_first b ps ≡ piece ∷ [] → piece ≡ b ∷ rest
onto_one b [] rest piece some whole h = absurd (omega arith)
onto_one b (p ∷ []) rest piece some whole h =
    let both : (b ∷ p) ∷ [] ≡ piece ∷ [] = h in
    let first : b ∷ p ≡ piece = cc both in
    sym first ∙ ap (λ (t : List ℕ). b ∷ t) (whole p refl)
onto_one b (p ∷ q ∷ ps) rest piece some whole h =
    let both : (b ∷ p) ∷ q ∷ ps ≡ piece ∷ [] = h in
    let total = ap length both in
    absurd (omega (arith, total))

some_pieces : (text : List ℕ) → 0 < length (pieces 124 text)
some_pieces text = omega (arith, length-slice_split (λ b. b == 124) text)

-- one piece is the whole text
piece_whole : (text piece : List ℕ) → pieces 124 text ≡ piece ∷ [] → piece ≡ text
piece_whole [] piece h = cc h
piece_whole (b ∷ rest) piece h = elim (cases_Bool (b == 124)) [
  | inl bar ↦
      let more : [] ∷ pieces 124 rest ≡ piece ∷ [] = rw bar at h in
      let some = length-slice_split (λ x. x == 124) rest in
      let total = ap length more in
      absurd (omega (arith, some, total))
  | inr other ↦ onto_one b (pieces 124 rest) rest piece (some_pieces rest) (λ t is. piece_whole rest t is) (rw other at h)
]

-- ---- exact values

abbrev range_of_one : List (List Comparator) → List Comparator → Type 0
range_of_one range set = range ≡ set ∷ []

record IsExactRange (range : List (List Comparator)) : Type 0 where
  comparator : Comparator
  is : range ≡ (comparator ∷ []) ∷ []
  equal : is_equal comparator.operator ≡ true

exact_range : (range : List (List Comparator)) → is_exact range ≡ true → IsExactRange range
exact_range [] h = cc h
exact_range ([] ∷ sets) h = cc h
exact_range ((c ∷ []) ∷ []) h = record { comparator = c; is = refl; equal = h }
exact_range ((c ∷ []) ∷ set ∷ sets) h = cc h
exact_range ((c ∷ d ∷ cs) ∷ sets) h = cc h

exact_term : (value : List ℕ) (range : List (List Comparator)) (e : IsExactRange range) → npm_range value ≡ Some range → IsTerm (signed_word (words_of value)) e.comparator
unfolding npm_range
exact_term value range e read =
    let one = one_only (pieces 124 value) (e.comparator ∷ []) (read ∙ ap (λ (r : List (List Comparator)). Some r) e.is) in
    let whole = piece_whole value one.text one.only in
    let set : read_set value ≡ Some (e.comparator ∷ []) = ap read_set (sym whole) ∙ one.read in
    let signed = one_set (words_of value) e.comparator set e.equal in
    term_of signed.sign_of (signed_word (words_of value)) e.comparator signed.read e.equal

-- a text of three numbers has no `v` or `=` before it
bare_read : (text : List ℕ) (v : Version) → plain_version text ≡ Some v → npm_version text ≡ Some v
bare_read text v read =
    let is = plain_version-sound text v read in
    npm_version-complete text v (record { mark = []; marked = inl refl; readable = is.readable; spelled = is.spelled })

or_false : (x : Bool) → (x || false) ≡ x
or_false true = refl
or_false false = refl

term_met : (c : Comparator) (v : Version) → c ≡ with op.Equal (without_build v) → is_satisfied ((c ∷ []) ∷ []) v ≡ true
term_met c v is =
    let in_set : is_in_set v (with op.Equal (without_build v) ∷ []) ≡ true = in_whole sign.Equal v refl in
    let here : is_in_set v (c ∷ []) ≡ true = ap (λ (x : Comparator). is_in_set v (x ∷ [])) is ∙ in_set in
    or_false (is_in_set v (c ∷ [])) ∙ here

named_one : (value text : List ℕ) (range : List (List Comparator)) → npm_range value ≡ Some range → is_exact range ≡ true → past_one is_letter_v (signed_word (words_of value)) ≡ text
    → NamesOne npm range text
named_one value text range read exact same =
    let e = exact_range range exact in
    let term = exact_term value range e read in
    record {
      exact = exact;
      version = term.version;
      read = ap npm_version (sym same) ∙ bare_read (past_one is_letter_v (signed_word (words_of value))) term.version term.read;
      met = ap (λ (r : List (List Comparator)). is_satisfied r term.version) e.is ∙ term_met e.comparator term.version term.is;
    }

pub exact_is_met : ExactIsMet npm
exact_is_met value text range read given = elim (cases_Bool (is_exact range)) [
  | inl exact ↦
      let some : Some (past_one is_letter_v (signed_word (words_of value))) ≡ Some text = rw (read, exact) at given in
      named_one value text range read exact (cc some)
  | inr not ↦ cc (rw (read, not) at given)
]
