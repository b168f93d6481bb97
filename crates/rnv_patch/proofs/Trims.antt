-- The text of a trimmed hunk, and that it takes the old lines to the new ones.
use Rattle.std.proofs.Common.{Bor, Result, Ok, Err, OnOk, ◌≡◌, ◌∙◌, ℕ, ◌+◌, ◌-◌, List, [], ◌∷◌, ◌++◌, length, take, drop, map, flat_map, refl, sym, ap, arith, append_assoc, length-append, length-take}
use Rattle.std.proofs.lemmas.List.{length-map, take-append-drop}
use Rattle.rnv_patch.specs.Diff.{Change, kept, removed, added, old_lines, new_lines, Take}
use Rattle.rnv_patch.specs.Written.{change_text, header_text, hunk_text, signed}
use Rattle.rnv_patch.specs.Trimmed.{last_three, first_three, hunk_of, trimmed_hunk}
use Rattle.rnv_patch.specs.Lines.{lent}

-- ---- the lines of changes in a row

old-kept : (ls : List (List ℕ)) (more : List Change) → old_lines (map kept ls ++ more) ≡ ls ++ old_lines more
old-kept [] more = refl
old-kept (l ∷ ls) more = ap (λ t. l ∷ t) (old-kept ls more)

new-kept : (ls : List (List ℕ)) (more : List Change) → new_lines (map kept ls ++ more) ≡ ls ++ new_lines more
new-kept [] more = refl
new-kept (l ∷ ls) more = ap (λ t. l ∷ t) (new-kept ls more)

old-removed : (ls : List (List ℕ)) (more : List Change) → old_lines (map removed ls ++ more) ≡ ls ++ old_lines more
old-removed [] more = refl
old-removed (l ∷ ls) more = ap (λ t. l ∷ t) (old-removed ls more)

new-removed : (ls : List (List ℕ)) (more : List Change) → new_lines (map removed ls ++ more) ≡ new_lines more
new-removed [] more = refl
new-removed (l ∷ ls) more = new-removed ls more

old-added : (ls : List (List ℕ)) (more : List Change) → old_lines (map added ls ++ more) ≡ old_lines more
old-added [] more = refl
old-added (l ∷ ls) more = old-added ls more

new-added : (ls : List (List ℕ)) (more : List Change) → new_lines (map added ls ++ more) ≡ ls ++ new_lines more
new-added [] more = refl
new-added (l ∷ ls) more = ap (λ t. l ∷ t) (new-added ls more)

old-kept-last : (ls : List (List ℕ)) → old_lines (map kept ls) ≡ ls
old-kept-last [] = refl
old-kept-last (l ∷ ls) = ap (λ t. l ∷ t) (old-kept-last ls)

new-kept-last : (ls : List (List ℕ)) → new_lines (map kept ls) ≡ ls
new-kept-last [] = refl
new-kept-last (l ∷ ls) = ap (λ t. l ∷ t) (new-kept-last ls)

pub old-hunk : (before : ℕ) (context old new after : List (List ℕ)) → old_lines (hunk_of before context old new after).changes ≡ context ++ (old ++ after)
old-hunk before context old new after =
    old-kept context (map removed old ++ (map added new ++ map kept after))
    ∙ ap (λ t. context ++ t) (old-removed old (map added new ++ map kept after)
    ∙ ap (λ t. old ++ t) (old-added new (map kept after) ∙ old-kept-last after))

pub new-hunk : (before : ℕ) (context old new after : List (List ℕ)) → new_lines (hunk_of before context old new after).changes ≡ context ++ (new ++ after)
new-hunk before context old new after =
    new-kept context (map removed old ++ (map added new ++ map kept after))
    ∙ ap (λ t. context ++ t) (new-removed old (map added new ++ map kept after)
    ∙ (new-added new (map kept after) ∙ ap (λ t. new ++ t) (new-kept-last after)))

-- ---- their text

text-kept : (ls : List (List ℕ)) (more : List Change) → flat_map change_text (map kept ls ++ more) ≡ flat_map (signed 32) ls ++ flat_map change_text more
text-kept [] more = refl
text-kept (l ∷ ls) more = ap (λ t. signed 32 l ++ t) (text-kept ls more) ∙ sym (append_assoc (signed 32 l) (flat_map (signed 32) ls) (flat_map change_text more))

text-removed : (ls : List (List ℕ)) (more : List Change) → flat_map change_text (map removed ls ++ more) ≡ flat_map (signed 45) ls ++ flat_map change_text more
text-removed [] more = refl
text-removed (l ∷ ls) more = ap (λ t. signed 45 l ++ t) (text-removed ls more) ∙ sym (append_assoc (signed 45 l) (flat_map (signed 45) ls) (flat_map change_text more))

text-added : (ls : List (List ℕ)) (more : List Change) → flat_map change_text (map added ls ++ more) ≡ flat_map (signed 43) ls ++ flat_map change_text more
text-added [] more = refl
text-added (l ∷ ls) more = ap (λ t. signed 43 l ++ t) (text-added ls more) ∙ sym (append_assoc (signed 43 l) (flat_map (signed 43) ls) (flat_map change_text more))

text-kept-last : (ls : List (List ℕ)) → flat_map change_text (map kept ls) ≡ flat_map (signed 32) ls
text-kept-last [] = refl
text-kept-last (l ∷ ls) = ap (λ t. signed 32 l ++ t) (text-kept-last ls)

changes-text : (before : ℕ) (context old new after : List (List ℕ)) → flat_map change_text (hunk_of before context old new after).changes
    ≡ flat_map (signed 32) context ++ (flat_map (signed 45) old ++ (flat_map (signed 43) new ++ flat_map (signed 32) after))
changes-text before context old new after =
    text-kept context (map removed old ++ (map added new ++ map kept after))
    ∙ ap (λ t. flat_map (signed 32) context ++ t) (text-removed old (map added new ++ map kept after)
    ∙ ap (λ t. flat_map (signed 45) old ++ t) (text-added new (map kept after) ∙ ap (λ t. flat_map (signed 43) new ++ t) (text-kept-last after)))

count3 : (a b c : List (Bor (List ℕ))) → length (lent a ++ (lent b ++ lent c)) ≡ length a + (length b + length c)
count3 a b c = length-append (lent a) (lent b ++ lent c) ∙ (λ i. length-map a (λ (line : Bor (List ℕ)). line.now) i + length-append (lent b) (lent c) i)
    ∙ (λ i. length a + (length-map b (λ (line : Bor (List ℕ)). line.now) i + length-map c (λ (line : Bor (List ℕ)). line.now) i))

pub lent_hunk : (before : ℕ) (context old new after : List (Bor (List ℕ))) → hunk_text (hunk_of before (lent context) (lent old) (lent new) (lent after))
    ≡ header_text before (length context + (length old + length after)) before (length context + (length new + length after))
    ++ (flat_map (signed 32) (lent context) ++ (flat_map (signed 45) (lent old) ++ (flat_map (signed 43) (lent new) ++ flat_map (signed 32) (lent after))))
unfolding hunk_text
lent_hunk before context old new after =
    let m = ap (λ (ls : List (List ℕ)). length ls) (old-hunk before (lent context) (lent old) (lent new) (lent after)) ∙ count3 context old after in
    let n = ap (λ (ls : List (List ℕ)). length ls) (new-hunk before (lent context) (lent old) (lent new) (lent after)) ∙ count3 context new after in
    λ i. header_text before (m i) before (n i) ++ changes-text before (lent context) (lent old) (lent new) (lent after) i

-- what five calls add, one after the other
pub add_up : (out o1 o2 o3 o4 o5 h a b c d : List ℕ) → o1 ≡ out ++ h → o2 ≡ o1 ++ a → o3 ≡ o2 ++ b → o4 ≡ o3 ++ c → o5 ≡ o4 ++ d
    → o5 ≡ out ++ (h ++ (a ++ (b ++ (c ++ d))))
add_up out o1 o2 o3 o4 o5 h a b c d e1 e2 e3 e4 e5 = simp append_assoc at (e5 ∙ ap (λ t. t ++ d) (e4 ∙ ap (λ t. t ++ c) (e3 ∙ ap (λ t. t ++ b) (e2 ∙ ap (λ t. t ++ a) e1))))

pub on_ok : {T E P Q : Type 0} (r : Result T E) → (P → Q) → OnOk r P → OnOk r Q
on_ok (Ok x) f h = f h
on_ok (Err e) f h = h

-- ---- what it takes to what

stays : (k : ℕ) (front more : List (List ℕ)) → front ++ more ≡ take k front ++ (drop k front ++ more)
stays k front more = ap (λ t. t ++ more) (sym (take-append-drop k front)) ∙ append_assoc (take k front) (drop k front) more

around : (front middle end : List (List ℕ)) → front ++ (middle ++ end) ≡ take (length front - 3) front ++ ((last_three front ++ (middle ++ first_three end)) ++ drop 3 end)
around front middle end =
    stays (length front - 3) front (middle ++ end)
    ∙ ap (λ t. take (length front - 3) front ++ t)
    (ap (λ t. last_three front ++ (middle ++ t)) (sym (take-append-drop 3 end))
    ∙ ap (λ t. last_three front ++ t) (sym (append_assoc middle (first_three end) (drop 3 end)))
    ∙ sym (append_assoc (last_three front) (middle ++ first_three end) (drop 3 end)))

before : (front : List (List ℕ)) → length front - 3 ≡ 0 + length (take (length front - 3) front)
before front = omega (arith, length-take (length front - 3) front)

pub trimmed_takes : (front old new end : List (List ℕ)) → Take (trimmed_hunk front old new end ∷ []) (front ++ (old ++ end)) (front ++ (new ++ end))
trimmed_takes front old new end = record {
  stay = take (length front - 3) front;
  old_rest = drop 3 end;
  new_rest = drop 3 end;
  old_is = around front old end ∙ ap (λ t. take (length front - 3) front ++ (t ++ drop 3 end)) (sym (old-hunk (length front - 3) (last_three front) old new (first_three end)));
  new_is = around front new end ∙ ap (λ t. take (length front - 3) front ++ (t ++ drop 3 end)) (sym (new-hunk (length front - 3) (last_three front) old new (first_three end)));
  old_place = before front;
  new_place = before front;
  rest = refl;
}
