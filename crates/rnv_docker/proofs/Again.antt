-- The edit law: with new tags the lines are read as before.
use Rattle.std.proofs.Common.{◌≡◌, ℕ, suc, Bool, true, false, cond, List, [], ◌∷◌, ◌++◌, length, Option, Some, None, IsTrue, refl, sym, ap, subst, ◌∙◌, arith, inl, inr, append_assoc}
use Rattle.std.specs.Prelude.{⊤, nat_eq, nat_le, nat_lt, not, ◌&&◌, ◌||◌, codes, is_some, option_map, option_and_then}
use Rattle.std.specs.List.{list_all, list_any, slice_split, join_with_byte, onto_first, count_by}
use Rattle.std.specs.Str.{bytes_eq}
use Rattle.std.specs.Char.{to_ascii_lowercase}
use Rattle.std.proofs.lemmas.Bool.{cases_Bool}
use Rattle.std.proofs.lemmas.Bool.Decides.{nat_tests}
use Rattle.std.proofs.lemmas.List.Splits.{length-slice_split}
use Rattle.std.proofs.lemmas.Option.{same_Some}
use Rattle.rnv_base.specs.Values.{is_tag_byte, is_tag_text}
use Rattle.rnv_manager.specs.declared.edits.Edit.{Edit}
use Rattle.rnv_manager.specs.Edits.{AllFit, edited, IsReadBack}
use Rattle.rnv_manager.specs.Marks as m
use Rattle.rnv_manager.specs.Marks.{Mark, Slot}
use Rattle.rnv_manager.proofs.Kept.{IsNew, AreEdited, Splits, splits-byte, splits-bytes, nothing_more, are-edited, law-holds}
use Rattle.rnv_docker.specs.Lines.{lines, is_space, is_empty, is_comment, is_left, goes_on, has_here}
use Rattle.rnv_docker.specs.Words.{Words, spaces, word, spelled, words}
use Rattle.rnv_docker.specs.Stages.{Stage, is_same, has_prefix, is_platform, naming, stage_with, imaging, flagged, stage}
use Rattle.rnv_docker.specs.Images.{at_colon, is_plain_byte, is_no_slash, is_passed, is_tag, if_tag, tagged}
use Rattle.rnv_docker.specs.Read.{is_ink}
use Rattle.rnv_docker.specs.Grammar.{stage_of, continues, begin, name_of, place_of, slot, image_marks, line_marks, fed, plain_marks, marks, pieces, IsRead}
use Rattle.rnv_docker.proofs.Bools.{if-true, if-false, and_true, both, or_false, neither, not_true, not_false, some_or_none, all-append, all-parts, all-fails, all-weaker}
use Rattle.rnv_docker.proofs.Lines.{goes_on-behind, goes_on-before, goes_on-no, is_comment-front, has_here-parts, has_here-no}
use Rattle.rnv_docker.proofs.Words.{Stops, IsText, AreWords, words-spelled, words-are}
use Rattle.rnv_docker.proofs.Images.{at_colon-at, at_colon-none, at_colon-whole, other-text}
use Rattle.rnv_docker.proofs.Parts.{choose, Whole, stage-whole, stage_of-whole, Ends, stage_of-ends, is_plain_name, stage_of-plain, tagged-earlier, IsSplit, tagged-split}
use Rattle.rnv_docker.proofs.Pieces.{marks-text}

-- ---- words with another image

abbrev renewed : Stage → List ℕ → Stage
renewed s image = record { front = s.front; image = image; back = s.back; name = s.name }

abbrev renewed_some : List ℕ → Stage → Option Stage
renewed_some image s = Some (renewed s image)

-- words that are read as that stage
record AreRead (reading : Words → Option Stage) (o : Option Stage) (ws : Words) : Type 0 where
  now : Words
  are : AreWords now
  is : reading now ≡ o
  stops : Stops (spelled ws) → Stops (spelled now)

imaging-again : (front gap image : List ℕ) (ws : Words) (s : Stage) (other : List ℕ) → imaging front (word gap image ws) ≡ Some s → imaging front (word gap other ws) ≡ Some (renewed s other)
imaging-again front gap image ws s other h =
    elim (some_or_none (naming ws)) [
      | inl none ↦ absurd (let wrong : None ≡ Some s = sym (ap (option_map (stage_with (front ++ gap) image ws)) none) ∙ h in cc)
      | inr some ↦
          let same = same_Some (stage_with (front ++ gap) image ws some.0) s (sym (ap (option_map (stage_with (front ++ gap) image ws)) some.1) ∙ h) in
          ap (option_map (stage_with (front ++ gap) other ws)) some.1 ∙ ap (renewed_some other) same
    ]

imaging-image : (front gap image : List ℕ) (ws : Words) (s : Stage) → imaging front (word gap image ws) ≡ Some s → s.image ≡ image
imaging-image front gap image ws s h =
    elim (some_or_none (naming ws)) [
      | inl none ↦ absurd (let wrong : None ≡ Some s = sym (ap (option_map (stage_with (front ++ gap) image ws)) none) ∙ h in cc)
      | inr some ↦
          let same = same_Some (stage_with (front ++ gap) image ws some.0) s (sym (ap (option_map (stage_with (front ++ gap) image ws)) some.1) ∙ h) in
          ap (λ (x : Stage). x.image) (sym same)
    ]

stops-gap : (gap text other behind ahead : List ℕ) → IsText text → Stops (gap ++ (text ++ behind)) → Stops (gap ++ (other ++ ahead))
stops-gap [] [] other behind ahead t h = absurd t
stops-gap [] (x ∷ text) other behind ahead t h =
    let ink = and_true (is_ink x) (list_all is_ink text) t in
    absurd (let wrong : true ≡ false = sym h ∙ not_true (is_space x) ink.0 in cc)
stops-gap (y ∷ gap) text other behind ahead t h = h

imaging-read : (front : List ℕ) (ws : Words) (s : Stage) (other : List ℕ) → AreWords ws → IsText other → imaging front ws ≡ Some s → AreRead (imaging front) (Some (renewed s other)) ws
imaging-read front (spaces gap) s other are text h = absurd cc
imaging-read front (word gap image ws) s other are text h = record {
  now = word gap other ws;
  are = (are.0, text, are.2, are.3);
  is = imaging-again front gap image ws s other h;
  stops = stops-gap gap image other (spelled ws) (spelled ws) are.1;
}

flagged-read : (front : List ℕ) (ws : Words) (s : Stage) (other : List ℕ) → AreWords ws → IsText other → is_platform other ≡ is_platform s.image → flagged front ws ≡ Some s → AreRead (flagged front) (Some (renewed s other)) ws
flagged-read front (spaces gap) s other are text flag h = absurd cc
flagged-read front (word gap first ws) s other are text flag h =
    elim (cases_Bool (is_platform first)) [
      | inl c ↦
          let more = imaging-read (front ++ (gap ++ first)) ws s other are.3 text (sym (if-true (is_platform first) (imaging (front ++ (gap ++ first)) ws) (imaging front (word gap first ws)) c) ∙ h) in
          record {
            now = word gap first more.now;
            are = (are.0, are.1, more.stops are.2, more.are);
            is = if-true (is_platform first) (imaging (front ++ (gap ++ first)) more.now) (imaging front (word gap first more.now)) c ∙ more.is;
            stops = stops-gap gap first first (spelled ws) (spelled more.now) are.1;
          }
      | inr c ↦
          let one = sym (if-false (is_platform first) (imaging (front ++ (gap ++ first)) ws) (imaging front (word gap first ws)) c) ∙ h in
          let plain : is_platform other ≡ false = flag ∙ (ap is_platform (imaging-image front gap first ws s one) ∙ c) in
          record {
            now = word gap other ws;
            are = (are.0, text, are.2, are.3);
            is = if-false (is_platform other) (imaging (front ++ (gap ++ other)) ws) (imaging front (word gap other ws)) plain ∙ imaging-again front gap first ws s other one;
            stops = stops-gap gap first other (spelled ws) (spelled ws) are.1;
          }
    ]

stage-read : (ws : Words) (s : Stage) (other : List ℕ) → AreWords ws → IsText other → is_platform other ≡ is_platform s.image → stage ws ≡ Some s → AreRead stage (Some (renewed s other)) ws
unfolding stage
stage-read (spaces gap) s other are text flag h = absurd cc
stage-read (word gap from ws) s other are text flag h =
    elim (cases_Bool (is_same from (codes "from"))) [
      | inl c ↦
          let more = flagged-read (gap ++ from) ws s other are.3 text flag (sym (if-true (is_same from (codes "from")) (flagged (gap ++ from) ws) None c) ∙ h) in
          record {
            now = word gap from more.now;
            are = (are.0, are.1, more.stops are.2, more.are);
            is = if-true (is_same from (codes "from")) (flagged (gap ++ from) more.now) None c ∙ more.is;
            stops = stops-gap gap from from (spelled ws) (spelled more.now) are.1;
          }
      | inr c ↦ absurd (let wrong : None ≡ Some s = sym (if-false (is_same from (codes "from")) (flagged (gap ++ from) ws) None c) ∙ h in cc)
    ]

-- ---- an image is a word

abbrev IsInked : Option Stage → Type 0
IsInked None = ⊤
IsInked (Some s) = IsText s.image

named-inked : (front image : List ℕ) (ws : Words) (o : Option (Option (List ℕ))) → IsText image → IsInked (option_map (stage_with front image ws) o)
named-inked front image ws None h = tt
named-inked front image ws (Some n) h = h

imaging-inked : (front : List ℕ) (ws : Words) → AreWords ws → IsInked (imaging front ws)
imaging-inked front (spaces gap) h = tt
imaging-inked front (word gap image ws) h = named-inked (front ++ gap) image ws (naming ws) h.1

flagged-inked : (front : List ℕ) (ws : Words) → AreWords ws → IsInked (flagged front ws)
flagged-inked front (spaces gap) h = tt
flagged-inked front (word gap text ws) h =
    choose IsInked (is_platform text) (imaging (front ++ (gap ++ text)) ws) (imaging front (word gap text ws)) (imaging-inked (front ++ (gap ++ text)) ws h.3) (imaging-inked front (word gap text ws) h)

stage-inked : (ws : Words) → AreWords ws → IsInked (stage ws)
unfolding stage
stage-inked (spaces gap) h = tt
stage-inked (word gap text ws) h = choose IsInked (is_same text (codes "from")) (flagged (gap ++ text) ws) None (flagged-inked (gap ++ text) ws h.3) tt

text-ink : (text : List ℕ) → IsText text → list_all is_ink text ≡ true
text-ink [] h = absurd h
text-ink (x ∷ xs) h = h

ink-text : (name tag : List ℕ) → list_all is_ink (name ++ 58 ∷ tag) ≡ true → IsText (name ++ 58 ∷ tag)
ink-text [] tag h = h
ink-text (x ∷ name) tag h = h

-- ---- bytes of tags

tag-not-colon : (x : ℕ) → is_tag_byte x ≡ true → nat_eq x 58 ≡ false
tag-not-colon x e = grind (arith, nat_tests)

tag-not-slash : (x : ℕ) → is_tag_byte x ≡ true → nat_eq x 47 ≡ false
tag-not-slash x e = grind (arith, nat_tests)

tag-not-backslash : (x : ℕ) → is_tag_byte x ≡ true → nat_eq x 92 ≡ false
tag-not-backslash x e = grind (arith, nat_tests)

tag-not-less : (x : ℕ) → is_tag_byte x ≡ true → nat_eq x 60 ≡ false
tag-not-less x e = grind (arith, nat_tests)

tag-not-feed : (x : ℕ) → is_tag_byte x ≡ true → nat_eq x 10 ≡ false
tag-not-feed x e = grind (arith, nat_tests)

tag-ink : (x : ℕ) → is_tag_byte x ≡ true → is_space x ≡ false
tag-ink x e = grind (arith, nat_tests)

tag-plain-byte : (x : ℕ) → is_tag_byte x ≡ true → is_plain_byte x ≡ true
tag-plain-byte x e =
    let low : nat_le 32 x ≡ true = grind (arith, nat_tests) in
    let delete : nat_eq x 127 ≡ false = grind (arith, nat_tests) in
    let backslash : nat_eq x 92 ≡ false = grind (arith, nat_tests) in
    let dollar : nat_eq x 36 ≡ false = grind (arith, nat_tests) in
    let at : nat_eq x 64 ≡ false = grind (arith, nat_tests) in
    let one = both (nat_le 32 x) (not (nat_eq x 127)) low (ap not delete) in
    let two = both (nat_le 32 x && not (nat_eq x 127)) (not (nat_eq x 92)) one (ap not backslash) in
    let three = both (nat_le 32 x && not (nat_eq x 127) && not (nat_eq x 92)) (not (nat_eq x 36)) two (ap not dollar) in
    both (nat_le 32 x && not (nat_eq x 127) && not (nat_eq x 92) && not (nat_eq x 36)) (not (nat_eq x 64)) three (ap not at)

space-not-less : (x : ℕ) → is_space x ≡ true → nat_eq x 60 ≡ false
space-not-less x e = grind (arith, nat_tests)

abbrev IsFree : List ℕ → Type 0
IsFree tag = is_tag_text tag ≡ true

tag-bytes : (tag : List ℕ) → IsFree tag → list_all is_tag_byte tag ≡ true
tag-bytes tag h = (and_true (nat_lt 0 (length tag)) (list_all is_tag_byte tag) h).1

-- ---- the image with another tag

prefix-colon : (prefix name one other : List ℕ) → list_all (λ x. not (nat_eq 58 x)) prefix ≡ true → has_prefix prefix (name ++ 58 ∷ one) ≡ has_prefix prefix (name ++ 58 ∷ other)
prefix-colon [] name one other h = refl
prefix-colon (c ∷ cs) [] one other h =
    let no = not_true (nat_eq 58 c) (and_true (not (nat_eq 58 c)) (list_all (λ x. not (nat_eq 58 x)) cs) h).0 in
    first-false (nat_eq 58 c) (has_prefix cs one) no ∙ sym (first-false (nat_eq 58 c) (has_prefix cs other) no) where
      first-false : (a b : Bool) → a ≡ false → (a && b) ≡ false
      first-false true b k = absurd cc
      first-false false b k = refl
prefix-colon (c ∷ cs) (x ∷ name) one other h =
    ap (λ (b : Bool). nat_eq (to_ascii_lowercase x) c && b) (prefix-colon cs name one other (and_true (not (nat_eq 58 c)) (list_all (λ y. not (nat_eq 58 y)) cs) h).1)

plain-image : (earlier : List (List ℕ)) (image : List ℕ) (p : List ℕ × List ℕ) → tagged earlier image ≡ Some p → list_all is_plain_byte image ≡ true
plain-image earlier image p h =
    elim (some_or_none (at_colon image)) [
      | inl none ↦ absurd (let wrong : None ≡ Some p = sym (ap (option_and_then (if_tag earlier image)) none) ∙ h in cc)
      | inr some ↦
          let one : if_tag earlier image some.0 ≡ Some p = sym (ap (option_and_then (if_tag earlier image)) some.1) ∙ h in
          let test = not (is_passed earlier image) && is_tag some.0.1 in
          elim (cases_Bool test) [
            | inl c ↦
                let passed = not_true (is_passed earlier image) (and_true (not (is_passed earlier image)) (is_tag some.0.1) c).0 in
                last (bytes_eq image (codes "scratch")) (list_any (λ n. is_same n image) earlier) (list_all is_plain_byte image) passed
            | inr c ↦ absurd (let wrong : None ≡ Some p = sym (if-false test (Some some.0) None c) ∙ one in cc)
          ]
    ] where
      last : (a b d : Bool) → (a || b || not d) ≡ false → d ≡ true
      last true b d k = absurd cc
      last false true d k = absurd cc
      last false false d k = not_false d k

free-tag : (tag : List ℕ) → IsFree tag → is_tag tag ≡ true
free-tag tag h =
    let parts = and_true (nat_lt 0 (length tag)) (list_all is_tag_byte tag) h in
    both (nat_lt 0 (length tag)) (list_all is_no_slash tag) parts.0 (all-weaker is_tag_byte is_no_slash tag (λ y k. ap not (tag-not-slash y k)) parts.1)

-- A new tag is found where the old one was.
tagged-again : (earlier : List (List ℕ)) (name old tag : List ℕ) → list_all is_plain_name earlier ≡ true → IsFree tag → list_all is_plain_byte (name ++ 58 ∷ old) ≡ true → tagged earlier (name ++ 58 ∷ tag) ≡ Some (name, tag)
tagged-again earlier name old tag plain free bytes =
    let image = name ++ 58 ∷ tag in
    let p : List ℕ × List ℕ = (name, tag) in
    let colon : at_colon image ≡ Some p = at_colon-at name tag (at_colon-none tag (all-weaker is_tag_byte (λ x. not (nat_eq x 58)) tag (λ y k. ap not (tag-not-colon y k)) (tag-bytes tag free))) in
    let plain-tag : list_all is_plain_byte (58 ∷ tag) ≡ true = all-weaker is_tag_byte is_plain_byte tag tag-plain-byte (tag-bytes tag free) in
    let all-plain : list_all is_plain_byte image ≡ true = all-append is_plain_byte name (58 ∷ tag) (all-parts is_plain_byte name (58 ∷ old) bytes).0 plain-tag in
    let passed : is_passed [] image ≡ false = neither (bytes_eq image (codes "scratch") || false) (not (list_all is_plain_byte image)) (neither (bytes_eq image (codes "scratch")) false (other-text name tag (codes "scratch") refl) refl) (ap not all-plain) in
    tagged-earlier earlier image plain
    ∙ (ap (option_and_then (if_tag [] image)) colon
    ∙ if-true (not (is_passed [] image) && is_tag tag) (Some p) None (both (not (is_passed [] image)) (is_tag tag) (ap not passed) (free-tag tag free)))

-- ---- the line with another tag

regrouped : (front name tag back : List ℕ) → front ++ ((name ++ 58 ∷ tag) ++ back) ≡ (front ++ name) ++ 58 ∷ (tag ++ back)
regrouped front name tag back = ap (λ (l : List ℕ). front ++ l) (append_assoc name (58 ∷ tag) back) ∙ sym (append_assoc front name (58 ∷ (tag ++ back)))

-- the tag and what stands behind it, parted
behind-tag : (xs tag back : List ℕ) → xs ++ 58 ∷ (tag ++ back) ≡ (xs ++ 58 ∷ tag) ++ back
behind-tag xs tag back = sym (append_assoc xs (58 ∷ tag) back)

goes_on-again : (xs old tag back : List ℕ) → IsFree tag → goes_on (xs ++ 58 ∷ (old ++ back)) ≡ false → goes_on (xs ++ 58 ∷ (tag ++ back)) ≡ false
goes_on-again xs old tag back free h =
    elim (cases_Bool (is_empty back)) [
      | inl c ↦
          let no : list_all (λ x. not (nat_eq x 92)) (58 ∷ tag) ≡ true = all-weaker is_tag_byte (λ x. not (nat_eq x 92)) tag (λ y k. ap not (tag-not-backslash y k)) (tag-bytes tag free) in
          ap goes_on (behind-tag xs tag back) ∙ (goes_on-before (xs ++ 58 ∷ tag) back c ∙ (goes_on-behind xs (58 ∷ tag) refl ∙ goes_on-no (58 ∷ tag) no))
      | inr c ↦
          let back-no : goes_on back ≡ false = sym (goes_on-behind (xs ++ 58 ∷ old) back c) ∙ (ap goes_on (sym (behind-tag xs old back)) ∙ h) in
          ap goes_on (behind-tag xs tag back) ∙ (goes_on-behind (xs ++ 58 ∷ tag) back c ∙ back-no)
    ]

has_here-tag : (old tag back : List ℕ) → IsFree tag → Stops back → has_here (old ++ back) ≡ false → has_here (tag ++ back) ≡ false
has_here-tag old tag [] free stops h =
    has_here-no (tag ++ []) (all-append (λ x. not (nat_eq x 60)) tag [] (all-weaker is_tag_byte (λ x. not (nat_eq x 60)) tag (λ y k. ap not (tag-not-less y k)) (tag-bytes tag free)) refl)
has_here-tag old tag (x ∷ back) free stops h =
    let no = space-not-less x stops in
    let parts = or_false (has_here old) (has_here back) (sym (has_here-parts old x back no) ∙ h) in
    has_here-parts tag x back no ∙ neither (has_here tag) (has_here back) (has_here-no tag (all-weaker is_tag_byte (λ y. not (nat_eq y 60)) tag (λ y k. ap not (tag-not-less y k)) (tag-bytes tag free))) parts.1

has_here-again : (xs old tag back : List ℕ) → IsFree tag → Stops back → has_here (xs ++ 58 ∷ (old ++ back)) ≡ false → has_here (xs ++ 58 ∷ (tag ++ back)) ≡ false
has_here-again xs old tag back free stops h =
    let parts = or_false (has_here xs) (has_here (old ++ back)) (sym (has_here-parts xs 58 (old ++ back) refl) ∙ h) in
    has_here-parts xs 58 (tag ++ back) refl ∙ neither (has_here xs) (has_here (tag ++ back)) parts.0 (has_here-tag old tag back free stops parts.1)

is_left-again : (xs old tag back : List ℕ) → is_left (xs ++ 58 ∷ (old ++ back)) ≡ true → is_left (xs ++ 58 ∷ (tag ++ back)) ≡ true
is_left-again xs old tag back h =
    let parts = and_true (not (is_empty (xs ++ 58 ∷ (old ++ back)))) (not (is_comment (xs ++ 58 ∷ (old ++ back)))) h in
    let new = xs ++ 58 ∷ (tag ++ back) in
    both (not (is_empty new)) (not (is_comment new)) (ap not (all-fails is_space xs 58 (tag ++ back) refl)) (ap not (is_comment-front xs 58 (tag ++ back) (old ++ back) refl) ∙ parts.1)

abbrev is_clean : List ℕ → Bool
is_clean line = list_all (λ x. not (nat_eq x 10)) line

clean-again : (xs old tag back : List ℕ) → IsFree tag → is_clean (xs ++ 58 ∷ (old ++ back)) ≡ true → is_clean (xs ++ 58 ∷ (tag ++ back)) ≡ true
clean-again xs old tag back free h =
    let parts = all-parts (λ x. not (nat_eq x 10)) xs (58 ∷ (old ++ back)) h in
    let behind = all-parts (λ x. not (nat_eq x 10)) old back parts.1 in
    all-append (λ x. not (nat_eq x 10)) xs (58 ∷ (tag ++ back)) parts.0 (all-append (λ x. not (nat_eq x 10)) tag back (all-weaker is_tag_byte (λ x. not (nat_eq x 10)) tag (λ y k. ap not (tag-not-feed y k)) (tag-bytes tag free)) behind.1)

-- ---- a line as it is edited

record NewLine (place : List ℕ) (continued : Bool) (earlier : List (List ℕ)) (l : List ℕ) (ms ns : List Mark) : Type 0 where
  line : List ℕ
  rest : List Mark
  behind : AreEdited IsFree ms rest
  is : ns ≡ line_marks place earlier line (stage_of continued line) rest
  here : has_here line ≡ false
  same_on : continues continued line ≡ continues continued l
  same_name : name_of (stage_of continued line) ≡ name_of (stage_of continued l)
  same_begin : is_some (stage_of continued line) ≡ is_some (stage_of continued l)
  clean : is_clean line ≡ true

record SplitsFind (sl : Slot) (old : List ℕ) (ms ns : List Mark) : Type 0 where
  value : List ℕ
  rest : List Mark
  new : IsNew IsFree old value
  is : ns ≡ m.find sl value ∷ rest
  behind : AreEdited IsFree ms rest

splits-find : (sl : Slot) (old : List ℕ) (ms ns : List Mark) → AreEdited IsFree (m.find sl old ∷ ms) ns → SplitsFind sl old ms ns
splits-find sl old ms [] h = absurd h
splits-find sl old ms (m.byte y ∷ ns) h = absurd h
splits-find sl old ms (m.find q t ∷ ns) h = record { value = t; rest = ns; new = h.1; is = ap (λ (x : Slot). m.find x t ∷ ns) (sym h.0); behind = h.2 }

kept-line : (place : List ℕ) (continued : Bool) (earlier : List (List ℕ)) (l : List ℕ) (ms ns rest : List Mark) → AreEdited IsFree ms rest → ns ≡ line_marks place earlier l (stage_of continued l) rest → has_here l ≡ false → is_clean l ≡ true
    → NewLine place continued earlier l ms ns
kept-line place continued earlier l ms ns rest behind is here clean = record {
  line = l;
  rest = rest;
  behind = behind;
  is = is;
  here = here;
  same_on = refl;
  same_name = refl;
  same_begin = refl;
  clean = clean;
}

-- what a line with a stage is
record IsStaged (continued : Bool) (l : List ℕ) (s : Stage) : Type 0 where
  test : (is_left l && not continued && not (goes_on l)) ≡ true
  stage_is : stage (words l) ≡ Some s

staged : (continued : Bool) (l : List ℕ) (s : Stage) → stage_of continued l ≡ Some s → IsStaged continued l s
staged continued l s e =
    let test = is_left l && not continued && not (goes_on l) in
    elim (cases_Bool test) [
      | inl c ↦ record { test = c; stage_is = sym (if-true test (stage (words l)) None c) ∙ e }
      | inr c ↦ absurd (let wrong : None ≡ Some s = sym (if-false test (stage (words l)) None c) ∙ e in cc)
    ]

-- the line with a new tag
record Changed (continued : Bool) (earlier : List (List ℕ)) (l : List ℕ) (s : Stage) (name tag : List ℕ) : Type 0 where
  line : List ℕ
  stage_is : stage_of continued line ≡ Some (renewed s (name ++ 58 ∷ tag))
  tagged_is : tagged earlier (name ++ 58 ∷ tag) ≡ Some (name, tag)
  here : has_here line ≡ false
  same_on : continues continued line ≡ continues continued l
  clean : is_clean line ≡ true

same-test : (continued : Bool) (l line : List ℕ) → (is_left l && not continued && not (goes_on l)) ≡ true → is_left line ≡ true → goes_on line ≡ false
    → ((is_left line && not continued && not (goes_on line)) ≡ true) × (continues continued line ≡ continues continued l)
same-test continued l line test left on =
    let one = and_true (is_left l && not continued) (not (goes_on l)) test in
    let two = and_true (is_left l) (not continued) one.0 in (
      both (is_left line && not continued) (not (goes_on line)) (both (is_left line) (not continued) left two.1) (ap not on),
      if-true (is_left line) (goes_on line) continued left ∙ (on ∙ (sym (not_true (goes_on l) one.1) ∙ sym (if-true (is_left l) (goes_on l) continued two.0))),
    )

changed : (continued : Bool) (earlier : List (List ℕ)) (l : List ℕ) (s : Stage) (name old tag : List ℕ) → list_all is_plain_name earlier ≡ true → stage_of continued l ≡ Some s → tagged earlier s.image ≡ Some (name, old) → IsFree tag → has_here l ≡ false → is_clean l ≡ true
    → Stops s.back → Changed continued earlier l s name tag
changed continued earlier l s name old tag plain e t free here clean stops =
    let h = staged continued l s e in
    let image : s.image ≡ name ++ 58 ∷ old = subst (λ (o : Option (List ℕ × List ℕ)). IsSplit o s.image) t (tagged-split earlier s.image) in
    let inked : list_all is_ink (name ++ 58 ∷ old) ≡ true = subst (λ (i : List ℕ). list_all is_ink i ≡ true) image (text-ink s.image (subst IsInked h.stage_is (stage-inked (words l) (words-are l)))) in
    let tag-inked : list_all is_ink (58 ∷ tag) ≡ true = all-weaker is_tag_byte is_ink tag (λ y k. ap not (tag-ink y k)) (tag-bytes tag free) in
    let text : IsText (name ++ 58 ∷ tag) = ink-text name tag (all-append is_ink name (58 ∷ tag) (all-parts is_ink name (58 ∷ old) inked).0 tag-inked) in
    let flag : is_platform (name ++ 58 ∷ tag) ≡ is_platform s.image = prefix-colon (codes "--platform=") name tag old refl ∙ ap is_platform (sym image) in
    let new = stage-read (words l) s (name ++ 58 ∷ tag) (words-are l) text flag h.stage_is in
    let line = spelled new.now in
    let xs = s.front ++ name in
    let was : l ≡ xs ++ 58 ∷ (old ++ s.back) = subst (λ (o : Option Stage). Whole o l) e (stage_of-whole continued l) ∙ (ap (λ (i : List ℕ). s.front ++ (i ++ s.back)) image ∙ regrouped s.front name old s.back) in
    let is : line ≡ xs ++ 58 ∷ (tag ++ s.back) = subst (λ (o : Option Stage). Whole o line) new.is (stage-whole new.now) ∙ regrouped s.front name tag s.back in
    let one = and_true (is_left l && not continued) (not (goes_on l)) h.test in
    let off = not_true (goes_on l) one.1 in
    let left : is_left line ≡ true = ap is_left is ∙ is_left-again xs old tag s.back (ap is_left (sym was) ∙ (and_true (is_left l) (not continued) one.0).0) in
    let on : goes_on line ≡ false = ap goes_on is ∙ goes_on-again xs old tag s.back free (ap goes_on (sym was) ∙ off) in
    let test = same-test continued l line h.test left on in
    let same = is_left line && not continued && not (goes_on line) in
    record {
      line = line;
      stage_is = if-true same (stage (words line)) None test.0 ∙ (ap stage (words-spelled new.now new.are) ∙ new.is);
      tagged_is = tagged-again earlier name old tag plain free (subst (λ (i : List ℕ). list_all is_plain_byte i ≡ true) image (plain-image earlier s.image (name, old) t));
      here = ap has_here is ∙ has_here-again xs old tag s.back free stops (ap has_here (sym was) ∙ here);
      same_on = test.1;
      clean = ap is_clean is ∙ clean-again xs old tag s.back free (ap is_clean (sym was) ∙ clean);
    }

changed-line : (place : List ℕ) (continued : Bool) (earlier : List (List ℕ)) (l : List ℕ) (s : Stage) (name tag : List ℕ) (ms ns rest : List Mark) → stage_of continued l ≡ Some s → Changed continued earlier l s name tag → AreEdited IsFree ms rest
    → ns ≡ m.bytes s.front (m.bytes name (m.byte 58 ∷ m.find (slot place name) tag ∷ m.bytes s.back rest)) → NewLine place continued earlier l ms ns
changed-line place continued earlier l s name tag ms ns rest e c behind is = record {
  line = c.line;
  rest = rest;
  behind = behind;
  is =
      is
      ∙ (ap (λ (o : Option (List ℕ × List ℕ)). m.bytes s.front (image_marks place (name ++ 58 ∷ tag) o (m.bytes s.back rest))) (sym c.tagged_is)
      ∙ ap (λ (o : Option Stage). line_marks place earlier c.line o rest) (sym c.stage_is));
  here = c.here;
  same_on = c.same_on;
  same_name = ap name_of c.stage_is ∙ sym (ap name_of e);
  same_begin = ap is_some c.stage_is ∙ sym (ap is_some e);
  clean = c.clean;
}

tagged-line : (place : List ℕ) (continued : Bool) (earlier : List (List ℕ)) (l : List ℕ) (s : Stage) (p : List ℕ × List ℕ) (ms ns : List Mark) → list_all is_plain_name earlier ≡ true → stage_of continued l ≡ Some s → tagged earlier s.image ≡ Some p → has_here l ≡ false
    → is_clean l ≡ true → Stops s.back → AreEdited IsFree (m.bytes s.front (image_marks place s.image (Some p) (m.bytes s.back ms))) ns → NewLine place continued earlier l ms ns
tagged-line place continued earlier l s p ms ns plain e t here clean stops h =
    let one = splits-bytes IsFree s.front (image_marks place s.image (Some p) (m.bytes s.back ms)) ns h in
    let two = splits-bytes IsFree p.0 (m.byte 58 ∷ m.find (slot place p.0) p.1 ∷ m.bytes s.back ms) one.rest one.edited in
    let three = splits-byte IsFree 58 (m.find (slot place p.0) p.1 ∷ m.bytes s.back ms) two.rest two.edited in
    let four = splits-find (slot place p.0) p.1 (m.bytes s.back ms) three.rest three.edited in
    let five = splits-bytes IsFree s.back ms four.rest four.behind in
    let is : ns ≡ m.bytes s.front (m.bytes p.0 (m.byte 58 ∷ m.find (slot place p.0) four.value ∷ m.bytes s.back five.rest)) =
    one.is ∙ ap (m.bytes s.front) (two.is ∙ ap (m.bytes p.0) (three.is ∙ ap (λ (r : List Mark). m.byte 58 ∷ r) (four.is ∙ ap (λ (r : List Mark). m.find (slot place p.0) four.value ∷ r) five.is))) in
    elim four.new [
      | inl same ↦
          kept-line place continued earlier l ms ns five.rest five.edited
          (is
          ∙ (ap (λ (v : List ℕ). m.bytes s.front (m.bytes p.0 (m.byte 58 ∷ m.find (slot place p.0) v ∷ m.bytes s.back five.rest))) (sym same)
          ∙ (ap (λ (o : Option (List ℕ × List ℕ)). m.bytes s.front (image_marks place s.image o (m.bytes s.back five.rest))) (sym t) ∙ ap (λ (o : Option Stage). line_marks place earlier l o five.rest) (sym e))))
          here clean
      | inr free ↦ changed-line place continued earlier l s p.0 four.value ms ns five.rest e (changed continued earlier l s p.0 p.1 four.value plain e t free here clean stops) five.edited is
    ]

staged-line : (place : List ℕ) (continued : Bool) (earlier : List (List ℕ)) (l : List ℕ) (s : Stage) (ms ns : List Mark) → list_all is_plain_name earlier ≡ true → stage_of continued l ≡ Some s → has_here l ≡ false → is_clean l ≡ true → Stops s.back
    → AreEdited IsFree (line_marks place earlier l (Some s) ms) ns → NewLine place continued earlier l ms ns
staged-line place continued earlier l s ms ns plain e here clean stops h =
    elim (some_or_none (tagged earlier s.image)) [
      | inl none ↦
          let now = subst (λ (o : Option (List ℕ × List ℕ)). AreEdited IsFree (m.bytes s.front (image_marks place s.image o (m.bytes s.back ms))) ns) none h in
          let one = splits-bytes IsFree s.front (m.bytes s.image (m.bytes s.back ms)) ns now in
          let two = splits-bytes IsFree s.image (m.bytes s.back ms) one.rest one.edited in
          let three = splits-bytes IsFree s.back ms two.rest two.edited in
          kept-line place continued earlier l ms ns three.rest three.edited
          (one.is
          ∙ (ap (m.bytes s.front) (two.is ∙ ap (m.bytes s.image) three.is)
          ∙ (ap (λ (o : Option (List ℕ × List ℕ)). m.bytes s.front (image_marks place s.image o (m.bytes s.back three.rest))) (sym none) ∙ ap (λ (o : Option Stage). line_marks place earlier l o three.rest) (sym e))))
          here clean
      | inr some ↦
          tagged-line place continued earlier l s some.0 ms ns plain e some.1 here clean stops (subst (λ (o : Option (List ℕ × List ℕ)). AreEdited IsFree (m.bytes s.front (image_marks place s.image o (m.bytes s.back ms))) ns) some.1 h)
    ]

new-line : (place : List ℕ) (continued : Bool) (earlier : List (List ℕ)) (l : List ℕ) (ms ns : List Mark) → list_all is_plain_name earlier ≡ true → has_here l ≡ false → is_clean l ≡ true → AreEdited IsFree (line_marks place earlier l (stage_of continued l) ms) ns
    → NewLine place continued earlier l ms ns
new-line place continued earlier l ms ns plain here clean h =
    elim (some_or_none (stage_of continued l)) [
      | inl none ↦
          let one = splits-bytes IsFree l ms ns (subst (λ (o : Option Stage). AreEdited IsFree (line_marks place earlier l o ms) ns) none h) in
          kept-line place continued earlier l ms ns one.rest one.edited (one.is ∙ ap (λ (o : Option Stage). line_marks place earlier l o one.rest) (sym none)) here clean
      | inr some ↦
          staged-line place continued earlier l some.0 ms ns plain some.1 here clean (subst Ends some.1 (stage_of-ends continued l)) (subst (λ (o : Option Stage). AreEdited IsFree (line_marks place earlier l o ms) ns) some.1 h)
    ]

-- ---- all lines as they are edited

record NewLines (continued : Bool) (earlier ls : List (List ℕ)) (ns : List Mark) : Type 0 where
  now : List (List ℕ)
  is : ns ≡ marks continued earlier now
  same_begin : begin continued now ≡ begin continued ls
  long : length now ≡ length ls
  clean : list_all is_clean now ≡ true

fed-same : (ls now : List (List ℕ)) (ms : List Mark) → length now ≡ length ls → fed ls ms ≡ fed now ms
fed-same [] [] ms e = refl
fed-same [] (n ∷ now) ms e = absurd (omega arith)
fed-same (l ∷ ls) [] ms e = absurd (omega arith)
fed-same (l ∷ ls) (n ∷ now) ms e = refl

splits-fed : (ls : List (List ℕ)) (ms ns : List Mark) → AreEdited IsFree (fed ls ms) ns → Splits IsFree (fed ls) ms ns
splits-fed [] ms ns h = record { rest = ns; is = refl; edited = h }
splits-fed (l ∷ ls) ms ns h = let one = splits-byte IsFree 10 ms ns h in record { rest = one.rest; is = one.is; edited = one.edited }

-- lines without finds stay
plain-same : (ls : List (List ℕ)) (ns : List Mark) → AreEdited IsFree (plain_marks ls) ns → ns ≡ plain_marks ls
plain-same [] ns h = nothing_more IsFree ns h
plain-same (l ∷ ls) ns h =
    let one = splits-bytes IsFree l (fed ls (plain_marks ls)) ns h in
    let two = splits-fed ls (plain_marks ls) one.rest one.edited in
    one.is ∙ ap (m.bytes l) (two.is ∙ ap (fed ls) (plain-same ls two.rest two.edited))

new-lines : (continued : Bool) (earlier ls : List (List ℕ)) (ns : List Mark) → list_all is_plain_name earlier ≡ true → list_all is_clean ls ≡ true → AreEdited IsFree (marks continued earlier ls) ns → NewLines continued earlier ls ns
new-lines continued earlier [] ns plain clean h = record { now = []; is = nothing_more IsFree ns h; same_begin = refl; long = refl; clean = refl }
new-lines continued earlier (l ∷ ls) ns plain clean h =
    let on = continues continued l in
    let names = earlier ++ name_of (stage_of continued l) in
    let place = place_of (begin on ls) in
    let here-marks = plain_marks (l ∷ ls) in
    let others = line_marks place earlier l (stage_of continued l) (fed ls (marks on names ls)) in
    let parts = and_true (is_clean l) (list_all is_clean ls) clean in
    elim (cases_Bool (has_here l)) [
      | inl c ↦
          let now = subst (λ (ms : List Mark). AreEdited IsFree ms ns) (if-true (has_here l) here-marks others c) h in
          record { now = l ∷ ls; is = plain-same (l ∷ ls) ns now ∙ sym (if-true (has_here l) here-marks others c); same_begin = refl; long = refl; clean = clean }
      | inr c ↦
          let now = subst (λ (ms : List Mark). AreEdited IsFree ms ns) (if-false (has_here l) here-marks others c) h in
          let one = new-line place continued earlier l (fed ls (marks on names ls)) ns plain c parts.0 now in
          let two = splits-fed ls (marks on names ls) one.rest one.behind in
          let more = new-lines on names ls two.rest (all-append is_plain_name earlier (name_of (stage_of continued l)) plain (stage_of-plain continued l)) parts.1 two.edited in
          joined one.line more.now one.rest two.rest c one.is one.here one.same_on one.same_name one.same_begin one.clean two.is more.is more.same_begin more.long more.clean
    ] where
      joined : (line : List ℕ) (now : List (List ℕ)) (rest behind : List Mark) → has_here l ≡ false
          → ns ≡ line_marks (place_of (begin (continues continued l) ls)) earlier line (stage_of continued line) rest → has_here line ≡ false → continues continued line ≡ continues continued l → name_of (stage_of continued line) ≡ name_of (stage_of continued l)
          → is_some (stage_of continued line) ≡ is_some (stage_of continued l) → is_clean line ≡ true → rest ≡ fed ls behind → behind ≡ marks (continues continued l) (earlier ++ name_of (stage_of continued l)) now
          → begin (continues continued l) now ≡ begin (continues continued l) ls → length now ≡ length ls → list_all is_clean now ≡ true → NewLines continued earlier (l ∷ ls) ns
      joined line now rest behind was is here same-on same-name same-begin clean-line rest-is behind-is begins long clean-now =
          let marked = λ (place : List ℕ) (ms : List Mark). line_marks place earlier line (stage_of continued line) (fed now ms) in
          let all-marks : ns ≡ marked (place_of (begin (continues continued l) now)) (marks (continues continued l) (earlier ++ name_of (stage_of continued l)) now) =
          is
          ∙ (ap (λ (r : List Mark). line_marks (place_of (begin (continues continued l) ls)) earlier line (stage_of continued line) r) (rest-is ∙ (fed-same ls now behind long ∙ ap (fed now) behind-is))
          ∙ ap (λ (b : Bool). marked (place_of b) (marks (continues continued l) (earlier ++ name_of (stage_of continued l)) now)) (sym begins)) in
          let all-names : ns ≡ marked (place_of (begin (continues continued line) now)) (marks (continues continued line) (earlier ++ name_of (stage_of continued line)) now) =
          all-marks
          ∙ (ap (λ (b : Bool). marked (place_of (begin b now)) (marks b (earlier ++ name_of (stage_of continued l)) now)) (sym same-on)
          ∙ ap (λ (n : List (List ℕ)). marked (place_of (begin (continues continued line) now)) (marks (continues continued line) (earlier ++ n) now)) (sym same-name)) in
          record {
            now = line ∷ now;
            is = all-names ∙ sym (if-false (has_here line) (plain_marks (line ∷ now)) (marked (place_of (begin (continues continued line) now)) (marks (continues continued line) (earlier ++ name_of (stage_of continued line)) now)) here);
            same_begin =
                ap (λ (b : Bool). not b && (is_some (stage_of continued line) || begin (continues continued line) now)) (here ∙ sym was)
                ∙ (ap (λ (b : Bool). not (has_here l) && (b || begin (continues continued line) now)) same-begin
                ∙ ap (λ (b : Bool). not (has_here l) && (is_some (stage_of continued l) || b)) (ap (λ (b : Bool). begin b now) same-on ∙ begins));
            long = ap suc long;
            clean = both (is_clean line) (list_all is_clean now) clean-line clean-now;
          }

-- ---- the whole file

clean-first : (x : ℕ) (ls : List (List ℕ)) → nat_eq x 10 ≡ false → list_all is_clean ls ≡ true → list_all is_clean (onto_first x ls) ≡ true
clean-first x [] c h = both (is_clean (x ∷ [])) true (both (not (nat_eq x 10)) true (ap not c) refl) refl
clean-first x (l ∷ ls) c h =
    let parts = and_true (is_clean l) (list_all is_clean ls) h in
    both (is_clean (x ∷ l)) (list_all is_clean ls) (both (not (nat_eq x 10)) (is_clean l) (ap not c) parts.0) parts.1

lines-clean : (file : List ℕ) → list_all is_clean (lines file) ≡ true
lines-clean [] = refl
lines-clean (x ∷ xs) =
    elim (cases_Bool (nat_eq x 10)) [
      | inl c ↦ ap (list_all is_clean) (if-true (nat_eq x 10) ([] ∷ lines xs) (onto_first x (lines xs)) c) ∙ lines-clean xs
      | inr c ↦ ap (list_all is_clean) (if-false (nat_eq x 10) ([] ∷ lines xs) (onto_first x (lines xs)) c) ∙ clean-first x (lines xs) c (lines-clean xs)
    ]

lines-last : (line : List ℕ) → is_clean line ≡ true → lines line ≡ line ∷ []
lines-last [] h = refl
lines-last (x ∷ xs) h =
    let parts = and_true (not (nat_eq x 10)) (is_clean xs) h in
    if-false (nat_eq x 10) ([] ∷ lines xs) (onto_first x (lines xs)) (not_true (nat_eq x 10) parts.0) ∙ ap (onto_first x) (lines-last xs parts.1)

lines-next : (line text : List ℕ) → is_clean line ≡ true → lines (line ++ 10 ∷ text) ≡ line ∷ lines text
lines-next [] text h = refl
lines-next (x ∷ xs) text h =
    let parts = and_true (not (nat_eq x 10)) (is_clean xs) h in
    if-false (nat_eq x 10) ([] ∷ lines (xs ++ 10 ∷ text)) (onto_first x (lines (xs ++ 10 ∷ text))) (not_true (nat_eq x 10) parts.0) ∙ ap (onto_first x) (lines-next xs text parts.1)

lines-joined : (l : List ℕ) (ls : List (List ℕ)) → list_all is_clean (l ∷ ls) ≡ true → lines (join_with_byte 10 (l ∷ ls)) ≡ l ∷ ls
lines-joined l [] h = lines-last l (and_true (is_clean l) true h).0
lines-joined l (k ∷ ks) h =
    let parts = and_true (is_clean l) (list_all is_clean (k ∷ ks)) h in
    lines-next l (join_with_byte 10 (k ∷ ks)) parts.0 ∙ ap (λ (r : List (List ℕ)). l ∷ r) (lines-joined k ks parts.1)

again : (now : List (List ℕ)) (ns : List Mark) (count : ℕ) → ns ≡ marks false [] now → length now ≡ suc count → list_all is_clean now ≡ true → IsRead (m.text_of ns) ns
again [] ns count is long clean = absurd (omega arith)
again (l ∷ ls) ns count is long clean =
    let text : m.text_of ns ≡ join_with_byte 10 (l ∷ ls) = ap m.text_of is ∙ marks-text false [] (l ∷ ls) in
    record { are = is ∙ ap (marks false []) (sym (ap lines text ∙ lines-joined l ls clean)); whole = refl }

edits-read : (file : List ℕ) (ns : List Mark) → AreEdited IsFree (pieces file) ns → IsRead (m.text_of ns) ns
edits-read file ns h =
    let new = new-lines false [] (lines file) ns refl (lines-clean file) h in
    again new.now ns (count_by (λ x. nat_eq x 10) file) new.is (omega (arith, new.long, length-slice_split (λ x. nat_eq x 10) file)) new.clean

-- the edit law, for every list of edits that fit
pub edits-kept : (file : List ℕ) (ms : List Mark) (edits : List Edit) → IsRead file ms → AllFit is_tag_text edits → IsReadBack IsRead edits ms
edits-kept file ms edits read fit =
    law-holds IsRead edits ms (edits-read file (edited edits 0 ms) (subst (λ (x : List Mark). AreEdited IsFree x (edited edits 0 ms)) read.are (are-edited is_tag_text IsFree (λ s h. h) edits 0 ms fit)))
