-- What is spelled is read.
use Rattle.std.proofs.Common.{◌≡◌, ℕ, zero, suc, ◌-◌, ◌≤◌, ◌<◌, true, false, List, [], ◌∷◌, ◌++◌, length, Option, Some, refl, ap, ◌∙◌, arith, length-append, append_assoc}
use Rattle.std.specs.Prelude.{nat_eq}
use Rattle.std.proofs.lemmas.Bool.Decides.{nat_tests}
use Rattle.std.proofs.lemmas.List.{append-nil}
use Rattle.rnv_package_json.specs.declared.value.Kind.{Kind}
use Rattle.rnv_package_json.specs.declared.value.Kind.TheVariants.{Array, Object}
use Rattle.rnv_package_json.specs.Text.{is_space}
use Rattle.rnv_manager.specs.Finds.{Find}
use Rattle.rnv_package_json.specs.Roles.{Standing}
use Rattle.rnv_package_json.specs.Read.{found_at}
use Rattle.rnv_package_json.specs.Word.{is_word_byte, is_word}
use Rattle.rnv_package_json.specs.Grammar.{close}
use Rattle.rnv_package_json.specs.Read.{State, Reader, part, go_on, parts, group, string, word, value}
use Rattle.rnv_package_json.specs.Grammar as g
use Rattle.rnv_package_json.proofs.Words.{word_runs, after_word-again}
use Rattle.rnv_package_json.proofs.Spelled.{spelled_label, spelled, spelled_parts, finds_of, finds_of_parts, Ends, gap-over, Ends-gap, quoted-again, part-again, Begins, Begins-value, starts-here, not_closed_parts, first_in_word}

value-text : (len n : ℕ) (st : Standing) (fs : List Find) (xs : List ℕ) → value len n st fs (34 ∷ xs) ≡ string len st fs (34 ∷ xs)
unfolding value
value-text len zero st fs xs = refl
value-text len (suc n) st fs xs = refl

value-word : (len n : ℕ) (st : Standing) (fs : List Find) (x : ℕ) (xs : List ℕ) → is_word_byte x ≡ true → value len n st fs (x ∷ xs) ≡ word fs (x ∷ xs)
unfolding value
value-word len zero st fs x xs e =
    let a : nat_eq x 34 ≡ false = grind (arith, nat_tests) in
    let b : nat_eq x 91 ≡ false = grind (arith, nat_tests) in
    let c : nat_eq x 123 ≡ false = grind (arith, nat_tests) in
    rw (a, b, c) refl
value-word len (suc n) st fs x xs e =
    let a : nat_eq x 34 ≡ false = grind (arith, nat_tests) in
    let b : nat_eq x 91 ≡ false = grind (arith, nat_tests) in
    let c : nat_eq x 123 ≡ false = grind (arith, nat_tests) in
    rw (a, b, c) refl

pub value-group : (len n : ℕ) (k : Kind) (st : Standing) (fs : List Find) (xs : List ℕ) → value len (suc n) st fs (g.opening k ∷ xs) ≡ group (value len n) st k fs xs
unfolding value
value-group len n Array st fs xs = refl
value-group len n Object st fs xs = refl

group-empty : (val : Standing → Reader) (st : Standing) (k : Kind) (fs : List Find) (a rest : List ℕ) → g.IsGap a → group val st k fs (a ++ close k ∷ rest) ≡ Some (fs, rest)
unfolding group
group-empty val st Array fs a rest h = rw (gap-over a (93 ∷ rest) h) refl
group-empty val st Object fs a rest h = rw (gap-over a (125 ∷ rest) h) refl

go_on-closed : (k : Kind) (reader : Reader) (fs : List Find) (rest : List ℕ) → go_on k reader fs (close k ∷ rest) ≡ Some (fs, rest)
go_on-closed Array reader fs rest = refl
go_on-closed Object reader fs rest = refl

close_no_space : (k : Kind) → is_space (close k) ≡ false
close_no_space Array = refl
close_no_space Object = refl

close_ends : (k : Kind) (rest : List ℕ) → Ends (close k ∷ rest)
close_ends Array rest = refl
close_ends Object rest = refl

word-again : (len n : ℕ) (st : Standing) (fs : List Find) (w rest : List ℕ) → is_word w ≡ true → Ends rest → Begins (w ++ rest) → value len n st fs (w ++ rest) ≡ Some (fs ++ [], rest)
unfolding word
word-again len n st fs [] rest e ends b = absurd (no_empty e) where
  no_empty : is_word [] ≡ true → ⊥
  no_empty h = let c = Begins-value 0 (g.word []) [] h in cc
word-again len n st fs (x ∷ xs) rest e ends b =
    value-word len n st fs x (xs ++ rest) (first_in_word x xs (word_runs (x ∷ xs) e)) ∙ rw (after_word-again (x ∷ xs) rest e ends, append-nil fs) refl

text-read : (len n : ℕ) (st : Standing) (fs : List Find) (s rest : List ℕ) → g.IsInside s → value len n st fs (34 ∷ (s ++ 34 ∷ rest)) ≡ Some (fs ++ found_at st s (len - length rest - 1 - length s), rest)
unfolding string
text-read len n st fs s rest e = value-text len n st fs (s ++ 34 ∷ rest) ∙ rw (quoted-again s rest e) refl

longer-label : (l : g.Label) (inner : List ℕ) → length inner ≤ length (spelled_label l inner)
longer-label g.unnamed inner = omega arith
longer-label (g.name a s b) inner = omega (arith, length-append a (34 ∷ (s ++ 34 ∷ (b ++ 58 ∷ inner))), length-append s (34 ∷ (b ++ 58 ∷ inner)), length-append b (58 ∷ inner))

mutual
  longer-value : (v : g.Value) (rest : List ℕ) → length rest ≤ length (spelled v rest)
  longer-value (g.word w) rest = omega (arith, length-append w rest)
  longer-value (g.text s) rest = omega (arith, length-append s (34 ∷ rest))
  longer-value (g.empty k a) rest = omega (arith, length-append a (close k ∷ rest))
  longer-value (g.group k ps) rest = omega (arith, longer-parts ps (close k ∷ rest))

  longer-parts : (ps : g.Parts) (rest : List ℕ) → length rest ≤ length (spelled_parts ps rest)
  longer-parts (g.last l a v b) rest = omega (arith, longer-label l (a ++ spelled v (b ++ rest)), length-append a (spelled v (b ++ rest)), longer-value v (b ++ rest), length-append b rest)
  longer-parts (g.more l a v b ps) rest = omega (arith, longer-label l (a ++ spelled v (b ++ 44 ∷ spelled_parts ps rest)), length-append a (spelled v (b ++ 44 ∷ spelled_parts ps rest)), longer-value v (b ++ 44 ∷ spelled_parts ps rest), length-append b (44 ∷ spelled_parts ps rest), longer-parts ps rest)

fewer-turns : (l : g.Label) (a : List ℕ) (v : g.Value) (b : List ℕ) (ps : g.Parts) (rest : List ℕ) (turns : ℕ) → length (spelled_parts (g.more l a v b ps) rest) < suc turns → length (spelled_parts ps rest) < turns
fewer-turns l a v b ps rest turns lt =
    omega (arith, longer-label l (a ++ spelled v (b ++ 44 ∷ spelled_parts ps rest)), length-append a (spelled v (b ++ 44 ∷ spelled_parts ps rest)), longer-value v (b ++ 44 ∷ spelled_parts ps rest), length-append b (44 ∷ spelled_parts ps rest))

turn-last : (val : Standing → Reader) (st : Standing) (k : Kind) (turns : ℕ) (fs more : List Find) (xs rest : List ℕ) → part val st k fs xs ≡ Some (more, close k ∷ rest) → parts val st k (suc turns) fs xs ≡ Some (more, rest)
unfolding parts
turn-last val st k turns fs more xs rest e = rw e (go_on-closed k (parts val st k turns) more rest)

turn-more : (val : Standing → Reader) (st : Standing) (k : Kind) (turns : ℕ) (fs more : List Find) (xs rest : List ℕ) → part val st k fs xs ≡ Some (more, 44 ∷ rest) → parts val st k (suc turns) fs xs ≡ parts val st k turns more rest
unfolding parts
turn-more val st k turns fs more xs rest e = rw e refl

group-from : (len n : ℕ) (k : Kind) (ps : g.Parts) (st : Standing) (fs : List Find) (rest : List ℕ) (total : Option State) → g.AreParts n k ps
    → parts (value len n) st k (suc (length (spelled_parts ps rest))) fs (spelled_parts ps rest) ≡ total → group (value len n) st k fs (spelled_parts ps rest) ≡ total
unfolding group
group-from len n k ps st fs rest total h e = not_closed_parts n k ps rest fs (parts (value len n) st k (suc (length (spelled_parts ps rest))) fs (spelled_parts ps rest)) h ∙ e

mutual
  pub value-again : (len n : ℕ) (v : g.Value) (st : Standing) (fs : List Find) (rest : List ℕ) → g.IsValue n v → Ends rest → value len n st fs (spelled v rest) ≡ Some (fs ++ finds_of len st v rest, rest)
  value-again len n (g.word w) st fs rest h ends = word-again len n st fs w rest h ends (Begins-value n (g.word w) rest h)
  value-again len n (g.text s) st fs rest h ends = text-read len n st fs s rest h
  value-again len zero (g.empty k a) st fs rest h ends = absurd h
  value-again len (suc n) (g.empty k a) st fs rest h ends = value-group len n k st fs (a ++ close k ∷ rest) ∙ (group-empty (value len n) st k fs a rest h ∙ rw (append-nil fs) refl)
  value-again len zero (g.group k ps) st fs rest h ends = absurd h
  value-again len (suc n) (g.group k ps) st fs rest h ends =
      value-group len n k st fs (spelled_parts ps (close k ∷ rest))
      ∙ group-from len n k ps st fs (close k ∷ rest) (Some (fs ++ finds_of_parts len st ps (close k ∷ rest), rest)) h (parts-again len n k ps st (suc (length (spelled_parts ps (close k ∷ rest)))) fs rest h (omega arith))

  parts-again : (len n : ℕ) (k : Kind) (ps : g.Parts) (st : Standing) (turns : ℕ) (fs : List Find) (rest : List ℕ) → g.AreParts n k ps → length (spelled_parts ps (close k ∷ rest)) < turns → parts (value len n) st k turns fs (spelled_parts ps (close k ∷ rest)) ≡ Some (fs ++ finds_of_parts len st ps (close k ∷ rest), rest)
  parts-again len n k (g.last l a v b) st zero fs rest h lt = absurd (omega arith)
  parts-again len n k (g.last l a v b) st (suc turns) fs rest h lt =
      let inner = spelled v (b ++ close k ∷ rest) in
      let read = value-again len n v (g.labelled st l) fs (b ++ close k ∷ rest) h.2 (Ends-gap b (close k ∷ rest) h.3 (close_ends k rest)) in
      turn-last (value len n) st k turns fs (fs ++ finds_of len (g.labelled st l) v (b ++ close k ∷ rest)) (spelled_label l (a ++ inner)) rest
      (part-again (value len n) st k fs (fs ++ finds_of len (g.labelled st l) v (b ++ close k ∷ rest)) l a inner b (close k) rest h.0 h.1 (starts-here inner (Begins-value n v (b ++ close k ∷ rest) h.2)) read h.3 (close_no_space k))
  parts-again len n k (g.more l a v b ps) st zero fs rest h lt = absurd (omega arith)
  parts-again len n k (g.more l a v b ps) st (suc turns) fs rest h lt =
      let after = spelled_parts ps (close k ∷ rest) in
      let inner = spelled v (b ++ 44 ∷ after) in
      let found = finds_of len (g.labelled st l) v (b ++ 44 ∷ after) in
      let read = value-again len n v (g.labelled st l) fs (b ++ 44 ∷ after) h.2 (Ends-gap b (44 ∷ after) h.3 refl) in
      let one = turn-more (value len n) st k turns fs (fs ++ found) (spelled_label l (a ++ inner)) after
      (part-again (value len n) st k fs (fs ++ found) l a inner b 44 after h.0 h.1 (starts-here inner (Begins-value n v (b ++ 44 ∷ after) h.2)) read h.3 refl) in
      let others = parts-again len n k ps st turns (fs ++ found) rest h.4 (fewer-turns l a v b ps (close k ∷ rest) turns lt) in
      one ∙ (others ∙ ap (λ (x : List Find). Some (x, rest)) (append_assoc fs found (finds_of_parts len st ps (close k ∷ rest))))
