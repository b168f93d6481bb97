-- The bytes of a tree, the finds in it, and that what is spelled is read.
use Rattle.std.proofs.Common.{◌≡◌, ℕ, ◌-◌, true, false, List, [], ◌∷◌, ◌++◌, length, take, Option, Some, None, refl, sym, ◌∙◌, arith, inl, inr, length-append}
use Rattle.std.specs.Prelude.{nat_eq, not, ◌&&◌}
use Rattle.std.specs.List.{list_all}
use Rattle.std.proofs.lemmas.Bool.Decides.{nat_tests}
use Rattle.std.proofs.lemmas.Bool.{cases_Bool}
use Rattle.std.proofs.lemmas.List.{take_at}
use Rattle.rnv_package_json.specs.declared.text.Within.{Within}
use Rattle.rnv_package_json.specs.declared.text.Within.TheVariants.{Plain}
use Rattle.rnv_package_json.specs.declared.value.Kind.{Kind}
use Rattle.rnv_package_json.specs.declared.value.Kind.TheVariants.{Array, Object}
use Rattle.rnv_package_json.specs.Text.{skip, is_space, after_text, is_inside, is_plain, next}
use Rattle.rnv_package_json.specs.Word.{after_number}
use Rattle.rnv_manager.specs.Finds.{Find}
use Rattle.rnv_package_json.specs.Roles.{Standing}
use Rattle.rnv_package_json.specs.Read.{found_at}
use Rattle.rnv_package_json.specs.Word.{is_word_byte, is_word}
use Rattle.rnv_package_json.specs.Grammar.{close}
use Rattle.rnv_package_json.specs.Read.{State, Reader, quoted, label, part, if_closed}
use Rattle.rnv_package_json.specs.Grammar as g
use Rattle.rnv_package_json.proofs.Strings.{and_true}
use Rattle.rnv_package_json.proofs.Words.{if-true, if-false, word_runs}

abbrev pub spelled_label : g.Label → List ℕ → List ℕ
spelled_label g.unnamed rest = rest
spelled_label (g.name a s b) rest = a ++ 34 ∷ (s ++ 34 ∷ (b ++ 58 ∷ rest))

-- a value, and then the rest
abbrev mutual
  pub spelled : g.Value → List ℕ → List ℕ
  spelled (g.word w) rest = w ++ rest
  spelled (g.text s) rest = 34 ∷ (s ++ 34 ∷ rest)
  spelled (g.empty k a) rest = g.opening k ∷ (a ++ close k ∷ rest)
  spelled (g.group k ps) rest = g.opening k ∷ spelled_parts ps (close k ∷ rest)

  pub spelled_parts : g.Parts → List ℕ → List ℕ
  spelled_parts (g.last l a v b) rest = spelled_label l (a ++ spelled v (b ++ rest))
  spelled_parts (g.more l a v b ps) rest = spelled_label l (a ++ spelled v (b ++ 44 ∷ spelled_parts ps rest))

-- the finds of a value before the rest, in a file of so many bytes
abbrev mutual
  pub finds_of : ℕ → Standing → g.Value → List ℕ → List Find
  finds_of len st (g.word w) rest = []
  finds_of len st (g.text s) rest = found_at st s (len - length rest - 1 - length s)
  finds_of len st (g.empty k a) rest = []
  finds_of len st (g.group k ps) rest = finds_of_parts len st ps (close k ∷ rest)

  pub finds_of_parts : ℕ → Standing → g.Parts → List ℕ → List Find
  finds_of_parts len st (g.last l a v b) rest = finds_of len (g.labelled st l) v (b ++ rest)
  finds_of_parts len st (g.more l a v b ps) rest = finds_of len (g.labelled st l) v (b ++ 44 ∷ spelled_parts ps rest) ++ finds_of_parts len st ps rest

-- what may follow a word
abbrev pub Ends : List ℕ → Type 0
Ends rest = skip is_word_byte rest ≡ rest

pub gap-over : (a rest : List ℕ) → g.IsGap a → skip is_space (a ++ rest) ≡ skip is_space rest
gap-over [] rest e = refl
gap-over (x ∷ xs) rest e =
    let both = and_true (is_space x) (list_all is_space xs) e in
    if-true (is_space x) (skip is_space (xs ++ rest)) (x ∷ (xs ++ rest)) both.0 ∙ gap-over xs rest both.1

space_no_word : (x : ℕ) → is_space x ≡ true → is_word_byte x ≡ false
space_no_word x e = grind (arith, nat_tests)

pub Ends-gap : (a rest : List ℕ) → g.IsGap a → Ends rest → Ends (a ++ rest)
Ends-gap [] rest e h = h
Ends-gap (x ∷ xs) rest e h =
    let both = and_true (is_space x) (list_all is_space xs) e in
    if-false (is_word_byte x) (skip is_word_byte (xs ++ rest)) (x ∷ (xs ++ rest)) (space_no_word x both.0)

pub after_text-again : (w : Option Within) (s rest : List ℕ) → is_inside w s ≡ true → after_text w (s ++ 34 ∷ rest) ≡ Some rest
after_text-again None s rest e = absurd cc
after_text-again (Some w) [] rest e = rw e refl
after_text-again (Some w) (x ∷ xs) rest e =
    let both = and_true (not (is_plain w && nat_eq x 34)) (is_inside (next w x) xs) e in
    elim (cases_Bool (is_plain w && nat_eq x 34)) [
      | inl h ↦ absurd (let wrong : false ≡ true = rw h at both.0 in cc)
      | inr h ↦ if-false (is_plain w && nat_eq x 34) (Some (xs ++ 34 ∷ rest)) (after_text (next w x) (xs ++ 34 ∷ rest)) h ∙ after_text-again (next w x) xs rest both.1
    ]

pub front-of : (s rest : List ℕ) → take (length (s ++ 34 ∷ rest) - length rest - 1) (s ++ 34 ∷ rest) ≡ s
front-of s rest =
    let n : length (s ++ 34 ∷ rest) - length rest - 1 ≡ length s = omega (arith, length-append s (34 ∷ rest)) in
    rw n (take_at s (34 ∷ rest) (length s) refl)

pub quoted-again : (s rest : List ℕ) → g.IsInside s → quoted (34 ∷ (s ++ 34 ∷ rest)) ≡ Some (s, rest)
unfolding quoted
quoted-again s rest e = rw (after_text-again (Some Plain) s rest e, front-of s rest) refl

pub label-again : (st : Standing) (k : Kind) (l : g.Label) (rest : List ℕ) → g.IsLabel k l → label st k (spelled_label l rest) ≡ Some (g.labelled st l, rest)
unfolding label
label-again st Array g.unnamed rest h = refl
label-again st Array (g.name a s b) rest h = absurd h
label-again st Object g.unnamed rest h = absurd h
label-again st Object (g.name a s b) rest h =
    rw (gap-over a (34 ∷ (s ++ 34 ∷ (b ++ 58 ∷ rest))) h.0, quoted-again s (b ++ 58 ∷ rest) h.1, gap-over b (58 ∷ rest) h.2) refl

pub part-again : (val : Standing → Reader) (st : Standing) (k : Kind) (fs more : List Find) (l : g.Label) (a inner b : List ℕ) (c : ℕ) (rest : List ℕ)
    → g.IsLabel k l → g.IsGap a → skip is_space inner ≡ inner → val (g.labelled st l) fs inner ≡ Some (more, b ++ c ∷ rest) → g.IsGap b → is_space c ≡ false → part val st k fs (spelled_label l (a ++ inner)) ≡ Some (more, c ∷ rest)
unfolding part
part-again val st k fs more l a inner b c rest is_label gap starts read gap_after no_space =
    let front : skip is_space (a ++ inner) ≡ inner = gap-over a inner gap ∙ starts in
    let back : skip is_space (b ++ c ∷ rest) ≡ c ∷ rest = gap-over b (c ∷ rest) gap_after ∙ if-false (is_space c) (skip is_space rest) (c ∷ rest) no_space in
    rw (label-again st k l (a ++ inner) is_label, front, read, back) refl

-- the first byte of a value
pub record Begins (bytes : List ℕ) : Type 0 where
  pub first : ℕ
  pub others : List ℕ
  pub is : bytes ≡ first ∷ others
  pub no_space : is_space first ≡ false
  pub no_close : nat_eq first 93 ≡ false

word_no_space : (x : ℕ) → is_word_byte x ≡ true → is_space x ≡ false
word_no_space x e = grind (arith, nat_tests)

word_no_close : (x : ℕ) → is_word_byte x ≡ true → nat_eq x 93 ≡ false
word_no_close x e = grind (arith, nat_tests)

pub first_in_word : (x : ℕ) (xs : List ℕ) → skip is_word_byte (x ∷ xs) ≡ [] → is_word_byte x ≡ true
first_in_word x xs e =
    elim (cases_Bool (is_word_byte x)) [
      | inl h ↦ h
      | inr h ↦ absurd (let wrong : x ∷ xs ≡ [] = sym (if-false (is_word_byte x) (skip is_word_byte xs) (x ∷ xs) h) ∙ e in cc)
    ]

no_empty_word : is_word [] ≡ true → ⊥
unfolding after_number
no_empty_word e = cc

Begins-word : (w rest : List ℕ) → is_word w ≡ true → Begins (w ++ rest)
Begins-word [] rest e = absurd (no_empty_word e)
Begins-word (x ∷ xs) rest e =
    let in_word = first_in_word x xs (word_runs (x ∷ xs) e) in
    record { first = x; others = xs ++ rest; is = refl; no_space = word_no_space x in_word; no_close = word_no_close x in_word }

pub Begins-value : (n : ℕ) (v : g.Value) (rest : List ℕ) → g.IsValue n v → Begins (spelled v rest)
Begins-value n (g.word w) rest h = Begins-word w rest h
Begins-value n (g.text s) rest h = record { first = 34; others = s ++ 34 ∷ rest; is = refl; no_space = refl; no_close = refl }
Begins-value n (g.empty Array a) rest h = record { first = 91; others = a ++ 93 ∷ rest; is = refl; no_space = refl; no_close = refl }
Begins-value n (g.empty Object a) rest h = record { first = 123; others = a ++ 125 ∷ rest; is = refl; no_space = refl; no_close = refl }
Begins-value n (g.group Array ps) rest h = record { first = 91; others = spelled_parts ps (93 ∷ rest); is = refl; no_space = refl; no_close = refl }
Begins-value n (g.group Object ps) rest h = record { first = 123; others = spelled_parts ps (125 ∷ rest); is = refl; no_space = refl; no_close = refl }

pub starts-here : (bytes : List ℕ) → Begins bytes → skip is_space bytes ≡ bytes
starts-here bytes b = rw b.is (if-false (is_space b.first) (skip is_space b.others) (b.first ∷ b.others) b.no_space)

-- no part begins with the closing bracket
not_closed : (k : Kind) (l : g.Label) (a inner : List ℕ) (fs : List Find) (total : Option State) → g.IsLabel k l → g.IsGap a → Begins inner → if_closed k fs (skip is_space (spelled_label l (a ++ inner))) total ≡ total
not_closed Array g.unnamed a inner fs total is_label gap b =
    rw (gap-over a inner gap, starts-here inner b, b.is) (if-false (nat_eq b.first 93) (Some (fs, b.others)) total b.no_close)
not_closed Array (g.name n s m) a inner fs total is_label gap b = absurd is_label
not_closed Object g.unnamed a inner fs total is_label gap b = absurd is_label
not_closed Object (g.name n s m) a inner fs total is_label gap b = rw (gap-over n (34 ∷ (s ++ 34 ∷ (m ++ 58 ∷ (a ++ inner)))) is_label.0) refl

pub not_closed_parts : (n : ℕ) (k : Kind) (ps : g.Parts) (rest : List ℕ) (fs : List Find) (total : Option State) → g.AreParts n k ps → if_closed k fs (skip is_space (spelled_parts ps rest)) total ≡ total
not_closed_parts n k (g.last l a v b) rest fs total h = not_closed k l a (spelled v (b ++ rest)) fs total h.0 h.1 (Begins-value n v (b ++ rest) h.2)
not_closed_parts n k (g.more l a v b ps) rest fs total h = not_closed k l a (spelled v (b ++ 44 ∷ spelled_parts ps rest)) fs total h.0 h.1 (Begins-value n v (b ++ 44 ∷ spelled_parts ps rest) h.2)
