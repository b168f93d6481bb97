-- A stage's parts: they are the line, spaces stand behind the image, and its name has no colon.
use Rattle.std.proofs.Common.{◌≡◌, ℕ, ◌+◌, Bool, true, false, cond, List, [], ◌∷◌, ◌++◌, Option, Some, None, refl, sym, ap, subst, ◌∙◌, arith, inl, inr, append_assoc}
use Rattle.std.specs.Prelude.{⊤, nat_eq, nat_lt, not, ◌&&◌, ◌||◌, codes, option_map, option_to_list, option_and_then}
use Rattle.std.specs.List.{list_all, list_any}
use Rattle.std.specs.Str.{bytes_eq}
use Rattle.std.specs.Char.{to_ascii_lowercase, is_ascii_alphabetic}
use Rattle.std.proofs.lemmas.Bool.{cases_Bool}
use Rattle.std.proofs.lemmas.Bool.Decides.{nat_tests}
use Rattle.rnv_base.specs.Values.{is_tag_byte}
use Rattle.rnv_docker.specs.Lines.{is_left, goes_on}
use Rattle.rnv_docker.specs.Words.{Words, spaces, word, spelled, words}
use Rattle.rnv_docker.specs.Stages.{Stage, is_same, is_platform, is_name, naming, stage_with, imaging, flagged, stage}
use Rattle.rnv_docker.specs.Images.{parted, at_colon, is_plain_byte, is_passed, is_tag, if_tag, tagged}
use Rattle.rnv_docker.specs.Grammar.{stage_of, name_of}
use Rattle.rnv_docker.proofs.Bools.{if-true, if-false, and_true, both, not_true, some_or_none, all-weaker}
use Rattle.rnv_docker.proofs.Words.{Stops, AreWords, spelled-words, words-are}
use Rattle.rnv_docker.proofs.Images.{at_colon-whole}

pub choose : {X : Type 0} (P : X → Type 0) (b : Bool) (x y : X) → P x → P y → P (cond b x y)
choose P true x y h k = h
choose P false x y h k = k

-- ---- the parts are the line

abbrev pub Whole : Option Stage → List ℕ → Type 0
Whole None line = ⊤
Whole (Some s) line = line ≡ s.front ++ (s.image ++ s.back)

named-whole : (front gap image : List ℕ) (ws : Words) (o : Option (Option (List ℕ))) → Whole (option_map (stage_with (front ++ gap) image ws) o) (front ++ (gap ++ (image ++ spelled ws)))
named-whole front gap image ws None = tt
named-whole front gap image ws (Some n) = sym (append_assoc front gap (image ++ spelled ws))

imaging-whole : (front : List ℕ) (ws : Words) → Whole (imaging front ws) (front ++ spelled ws)
imaging-whole front (spaces gap) = tt
imaging-whole front (word gap image ws) = named-whole front gap image ws (naming ws)

flagged-whole : (front : List ℕ) (ws : Words) → Whole (flagged front ws) (front ++ spelled ws)
flagged-whole front (spaces gap) = tt
flagged-whole front (word gap text ws) =
    let same : (front ++ (gap ++ text)) ++ spelled ws ≡ front ++ (gap ++ (text ++ spelled ws)) = append_assoc front (gap ++ text) (spelled ws) ∙ ap (λ (l : List ℕ). front ++ l) (append_assoc gap text (spelled ws)) in
    choose (λ (o : Option Stage). Whole o (front ++ (gap ++ (text ++ spelled ws)))) (is_platform text) (imaging (front ++ (gap ++ text)) ws) (imaging front (word gap text ws))
    (subst (λ (l : List ℕ). Whole (imaging (front ++ (gap ++ text)) ws) l) same (imaging-whole (front ++ (gap ++ text)) ws))
    (imaging-whole front (word gap text ws))

pub stage-whole : (ws : Words) → Whole (stage ws) (spelled ws)
unfolding stage
stage-whole (spaces gap) = tt
stage-whole (word gap text ws) =
    choose (λ (o : Option Stage). Whole o (gap ++ (text ++ spelled ws))) (is_same text (codes "from")) (flagged (gap ++ text) ws) None
    (subst (λ (l : List ℕ). Whole (flagged (gap ++ text) ws) l) (append_assoc gap text (spelled ws)) (flagged-whole (gap ++ text) ws))
    tt

pub stage_of-whole : (continued : Bool) (line : List ℕ) → Whole (stage_of continued line) line
stage_of-whole continued line =
    choose (λ (o : Option Stage). Whole o line) (is_left line && not continued && not (goes_on line)) (stage (words line)) None
    (subst (λ (l : List ℕ). Whole (stage (words line)) l) (spelled-words line) (stage-whole (words line)))
    tt

-- ---- spaces, or the end of the line, stand behind the image

abbrev pub Ends : Option Stage → Type 0
Ends None = ⊤
Ends (Some s) = Stops s.back

named-ends : (front image : List ℕ) (ws : Words) (o : Option (Option (List ℕ))) → Stops (spelled ws) → Ends (option_map (stage_with front image ws) o)
named-ends front image ws None h = tt
named-ends front image ws (Some n) h = h

imaging-ends : (front : List ℕ) (ws : Words) → AreWords ws → Ends (imaging front ws)
imaging-ends front (spaces gap) h = tt
imaging-ends front (word gap image ws) h = named-ends (front ++ gap) image ws (naming ws) h.2

flagged-ends : (front : List ℕ) (ws : Words) → AreWords ws → Ends (flagged front ws)
flagged-ends front (spaces gap) h = tt
flagged-ends front (word gap text ws) h =
    choose Ends (is_platform text) (imaging (front ++ (gap ++ text)) ws) (imaging front (word gap text ws)) (imaging-ends (front ++ (gap ++ text)) ws h.3) (imaging-ends front (word gap text ws) h)

stage-ends : (ws : Words) → AreWords ws → Ends (stage ws)
unfolding stage
stage-ends (spaces gap) h = tt
stage-ends (word gap text ws) h = choose Ends (is_same text (codes "from")) (flagged (gap ++ text) ws) None (flagged-ends (gap ++ text) ws h.3) tt

pub stage_of-ends : (continued : Bool) (line : List ℕ) → Ends (stage_of continued line)
stage_of-ends continued line = choose Ends (is_left line && not continued && not (goes_on line)) (stage (words line)) None (stage-ends (words line) (words-are line)) tt

-- ---- no name has a colon

abbrev pub is_plain_name : List ℕ → Bool
is_plain_name name = list_all (λ x. not (nat_eq x 58)) name

alphabetic-plain : (x : ℕ) → is_ascii_alphabetic x ≡ true → nat_eq x 58 ≡ false
alphabetic-plain x e = grind (arith, nat_tests)

tag-plain : (x : ℕ) → is_tag_byte x ≡ true → nat_eq x 58 ≡ false
tag-plain x e = grind (arith, nat_tests)

name-plain : (name : List ℕ) → is_name name ≡ true → is_plain_name name ≡ true
name-plain [] e = refl
name-plain (x ∷ xs) e =
    let h = and_true (is_ascii_alphabetic x) (list_all is_tag_byte xs) e in
    both (not (nat_eq x 58)) (list_all (λ y. not (nat_eq y 58)) xs) (ap not (alphabetic-plain x h.0)) (all-weaker is_tag_byte (λ y. not (nat_eq y 58)) xs (λ y k. ap not (tag-plain y k)) h.1)

abbrev are_plain_names : Option (Option (List ℕ)) → Bool
are_plain_names None = true
are_plain_names (Some n) = list_all is_plain_name (option_to_list n)

naming-plain : (ws : Words) → are_plain_names (naming ws) ≡ true
naming-plain (spaces gap) = refl
naming-plain (word gap as_word (spaces end)) = refl
naming-plain (word gap as_word (word gap' name (word gap'' text ws))) = refl
naming-plain (word gap as_word (word gap' name (spaces end))) =
    elim (cases_Bool (is_same as_word (codes "as") && is_name name)) [
      | inl c ↦
          let is = and_true (is_same as_word (codes "as")) (is_name name) c in
          ap are_plain_names (if-true (is_same as_word (codes "as") && is_name name) (Some (Some name)) None c) ∙ both (is_plain_name name) true (name-plain name is.1) refl
      | inr c ↦ ap are_plain_names (if-false (is_same as_word (codes "as") && is_name name) (Some (Some name)) None c)
    ]

abbrev pub IsPlainNamed : Option Stage → Type 0
IsPlainNamed o = list_all is_plain_name (name_of o) ≡ true

named-plain : (front image : List ℕ) (ws : Words) (o : Option (Option (List ℕ))) → are_plain_names o ≡ true → IsPlainNamed (option_map (stage_with front image ws) o)
named-plain front image ws None h = refl
named-plain front image ws (Some n) h = h

imaging-plain : (front : List ℕ) (ws : Words) → IsPlainNamed (imaging front ws)
imaging-plain front (spaces gap) = refl
imaging-plain front (word gap image ws) = named-plain (front ++ gap) image ws (naming ws) (naming-plain ws)

flagged-plain : (front : List ℕ) (ws : Words) → IsPlainNamed (flagged front ws)
flagged-plain front (spaces gap) = refl
flagged-plain front (word gap text ws) =
    choose IsPlainNamed (is_platform text) (imaging (front ++ (gap ++ text)) ws) (imaging front (word gap text ws)) (imaging-plain (front ++ (gap ++ text)) ws) (imaging-plain front (word gap text ws))

stage-plain : (ws : Words) → IsPlainNamed (stage ws)
unfolding stage
stage-plain (spaces gap) = refl
stage-plain (word gap text ws) = choose IsPlainNamed (is_same text (codes "from")) (flagged (gap ++ text) ws) None (flagged-plain (gap ++ text) ws) refl

pub stage_of-plain : (continued : Bool) (line : List ℕ) → IsPlainNamed (stage_of continued line)
stage_of-plain continued line = choose IsPlainNamed (is_left line && not continued && not (goes_on line)) (stage (words line)) None (stage-plain (words line)) refl

-- ---- a text with a colon is no name

raised : (x : ℕ) → nat_lt x 65 ≡ false → nat_eq (x + 32) 58 ≡ false
raised x e = grind (arith, nat_tests)

lower-plain : (x : ℕ) → not (nat_eq x 58) ≡ true → nat_eq (to_ascii_lowercase x) 58 ≡ false
lower-plain x e =
    elim (cases_Bool (nat_lt x 65)) [
      | inl c ↦ ap (λ (y : ℕ). nat_eq y 58) (if-true (nat_lt x 65) x (cond (nat_lt x 91) (x + 32) x) c) ∙ not_true (nat_eq x 58) e
      | inr c ↦
          elim (cases_Bool (nat_lt x 91)) [
            | inl d ↦ ap (λ (y : ℕ). nat_eq y 58) (if-false (nat_lt x 65) x (cond (nat_lt x 91) (x + 32) x) c ∙ if-true (nat_lt x 91) (x + 32) x d) ∙ raised x c
            | inr d ↦ ap (λ (y : ℕ). nat_eq y 58) (if-false (nat_lt x 65) x (cond (nat_lt x 91) (x + 32) x) c ∙ if-false (nat_lt x 91) (x + 32) x d) ∙ not_true (nat_eq x 58) e
          ]
    ]

and-false : (a b : Bool) → b ≡ false → (a && b) ≡ false
and-false true b h = h
and-false false b h = refl

first-false : (a b : Bool) → a ≡ false → (a && b) ≡ false
first-false true b h = absurd cc
first-false false b h = refl

other-name : (name front behind : List ℕ) → is_plain_name name ≡ true → is_same name (front ++ 58 ∷ behind) ≡ false
other-name [] [] behind e = refl
other-name [] (x ∷ front) behind e = refl
other-name (c ∷ name) [] behind e = first-false (nat_eq (to_ascii_lowercase c) 58) (is_same name behind) (lower-plain c (and_true (not (nat_eq c 58)) (is_plain_name name) e).0)
other-name (c ∷ name) (x ∷ front) behind e =
    and-false (nat_eq (to_ascii_lowercase c) (to_ascii_lowercase x)) (is_same name (front ++ 58 ∷ behind)) (other-name name front behind (and_true (not (nat_eq c 58)) (is_plain_name name) e).1)

no-name : (earlier : List (List ℕ)) (front behind : List ℕ) → list_all is_plain_name earlier ≡ true → list_any (λ name. is_same name (front ++ 58 ∷ behind)) earlier ≡ false
no-name [] front behind e = refl
no-name (name ∷ earlier) front behind e =
    let h = and_true (is_plain_name name) (list_all is_plain_name earlier) e in
    either-false (is_same name (front ++ 58 ∷ behind)) (list_any (λ n. is_same n (front ++ 58 ∷ behind)) earlier) (other-name name front behind h.0) (no-name earlier front behind h.1) where
      either-false : (a b : Bool) → a ≡ false → b ≡ false → (a || b) ≡ false
      either-false true b d k = absurd cc
      either-false false b d k = k

-- names without colons are no images with tags
pub tagged-earlier : (earlier : List (List ℕ)) (image : List ℕ) → list_all is_plain_name earlier ≡ true → tagged earlier image ≡ tagged [] image
tagged-earlier earlier image e =
    elim (some_or_none (at_colon image)) [
      | inl none ↦ ap (option_and_then (if_tag earlier image)) none ∙ sym (ap (option_and_then (if_tag [] image)) none)
      | inr some ↦
          let whole = at_colon-whole image some.0 some.1 in
          let none : list_any (λ name. is_same name image) earlier ≡ false = subst (λ (l : List ℕ). list_any (λ name. is_same name l) earlier ≡ false) (sym whole) (no-name earlier some.0.0 some.0.1 e) in
          let same : if_tag earlier image some.0 ≡ if_tag [] image some.0 = ap (λ (b : Bool). cond (not (bytes_eq image (codes "scratch") || b || not (list_all is_plain_byte image)) && is_tag some.0.1) (Some some.0) None) none in
          ap (option_and_then (if_tag earlier image)) some.1 ∙ (same ∙ sym (ap (option_and_then (if_tag [] image)) some.1))
    ]

-- ---- the image, the colon and the tag

abbrev pub IsSplit : Option (List ℕ × List ℕ) → List ℕ → Type 0
IsSplit None image = ⊤
IsSplit (Some p) image = image ≡ p.0 ++ 58 ∷ p.1

pub tagged-split : (earlier : List (List ℕ)) (image : List ℕ) → IsSplit (tagged earlier image) image
tagged-split earlier image =
    elim (some_or_none (at_colon image)) [
      | inl none ↦ subst (λ (o : Option (List ℕ × List ℕ)). IsSplit o image) (sym (ap (option_and_then (if_tag earlier image)) none)) tt
      | inr some ↦
          subst (λ (o : Option (List ℕ × List ℕ)). IsSplit o image) (sym (ap (option_and_then (if_tag earlier image)) some.1))
          (choose (λ (o : Option (List ℕ × List ℕ)). IsSplit o image) (not (is_passed earlier image) && is_tag some.0.1) (Some some.0) None (at_colon-whole image some.0 some.1) tt)
    ]
