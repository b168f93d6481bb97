-- A box of a page, once it is ticked, is a tick of its branch, and of nothing else.
use Rattle.std.proofs.Common.{◌≡◌, ℕ, suc, ◌+◌, List, [], ◌∷◌, ◌++◌, length, take, drop, true, false, not, ◌&&◌, ◌||◌, ◌==◌, nat_lt, cond, Some, None, arith, refl, ap, subst, ◌∙◌, codes, add-one, append_assoc, length-append}
use Rattle.std.specs.Fmt.{decimal}
use Rattle.std.specs.List.{list_any, position_or_len, starts_with}
use Rattle.std.specs.Option.{option_to_list}
use Rattle.std.proofs.Math.Seq.{take-append_seam}
use Rattle.std.proofs.lemmas.Bool.{lt-ltb}
use Rattle.rnv_dashboard.specs.declared.item.PageItem.{PageItem}
use Rattle.rnv_dashboard.specs.declared.section.Section.{Section}
use Rattle.rnv_dashboard.specs.declared.section.Section.TheVariants.{Errored, Live, Approval, Schedule, Pending, Limited, Blocked}
use Rattle.rnv_dashboard.specs.Boxes.{TicksItem, is_spaceless, ticked}
use Rattle.rnv_dashboard.specs.Lines.{spaced, text_of}
use Rattle.rnv_dashboard.specs.Page.{has_box, item_line, line_in, live_line, word}
use Rattle.rnv_dashboard.specs.Ticks.{approves_all, each_once, first_of, is_space, name_at_start, names_in, names_on, tick_in, ticks}
use Rattle.rnv_dashboard.proofs.Back.{AreClean, is_clean, lines_back, two}
use Rattle.rnv_dashboard.proofs.Unticked.{ArePlain, all_lines, are_clean, clean_append, clean_number, clean_spaced, clean_word, none_all, none_named}

at_space : (name rest : List ℕ) → is_spaceless name ≡ true → position_or_len is_space (name ++ 32 ∷ rest) ≡ length name
at_space [] rest e = refl
at_space (b ∷ bs) rest e =
    let parts = two (not (is_space b)) (is_spaceless bs) e in
    ap (λ t. cond t (1 + position_or_len is_space (bs ++ 32 ∷ rest)) 0) parts.left ∙ ap (λ n. 1 + n) (at_space bs rest parts.right)
    ∙ (let z : 1 + length bs ≡ suc (length bs) = omega arith in z)

past_name : (name rest : List ℕ) → drop (suc (length name)) (name ++ 32 ∷ rest) ≡ rest
past_name [] rest = refl
past_name (b ∷ bs) rest = past_name bs rest

name_within : (name rest : List ℕ) → nat_lt (length name) (length (name ++ 32 ∷ rest)) ≡ true
name_within name rest = lt-ltb (length name) (length (name ++ 32 ∷ rest)) (omega (arith, length-append name (32 ∷ rest)))

name_read : (name rest : List ℕ) → is_spaceless name ≡ true → name_at_start (name ++ (codes " -->" ++ rest)) ≡ Some name
name_read name rest e =
    let at = at_space name (codes "-->" ++ rest) e in
    let text = name ++ (codes " -->" ++ rest) in
    (λ k. cond (nat_lt (at k) (length text) && starts_with ◌==◌ (drop (at k + 1) text) (codes "-->")) (Some (take (at k) text)) None)
    ∙ ap (λ t. cond (t && starts_with ◌==◌ (drop (length name + 1) text) (codes "-->")) (Some (take (length name) text)) None) (name_within name (codes "-->" ++ rest))
    ∙ ap (λ n. cond (starts_with ◌==◌ (drop n text) (codes "-->")) (Some (take (length name) text)) None) (add-one (length name))
    ∙ ap (λ t. cond (starts_with ◌==◌ t (codes "-->")) (Some (take (length name) text)) None) (past_name name (codes "-->" ++ rest))
    ∙ ap Some (take-append_seam name (codes " -->" ++ rest))

-- `- [x] <!-- WORD-branch=NAME -->` with the word of a section that has boxes
box_ticks : (s : Section) (name rest : List ℕ) → has_box s ≡ true → is_spaceless name ≡ true
    → tick_in (codes "- [x] <!-- " ++ (word s ++ (codes "-branch=" ++ (name ++ (codes " -->" ++ rest))))) ≡ Some name
unfolding tick_in
box_ticks Errored name rest b e = cc
box_ticks Live name rest b e = name_read name rest e
box_ticks Approval name rest b e = name_read name rest e
box_ticks Schedule name rest b e = name_read name rest e
box_ticks Pending name rest b e = name_read name rest e
box_ticks Limited name rest b e = name_read name rest e
box_ticks Blocked name rest b e = name_read name rest e

-- it does not approve all
box_alone : (s : Section) (more : List ℕ) → has_box s ≡ true → approves_all (codes "- [x] <!-- " ++ (word s ++ (codes "-branch=" ++ more))) ≡ false
unfolding approves_all
box_alone Errored more b = cc
box_alone Live more b = refl
box_alone Approval more b = refl
box_alone Schedule more b = refl
box_alone Pending more b = refl
box_alone Limited more b = refl
box_alone Blocked more b = refl

-- ---- the line of an item, ticked

record IsTick (line name : List ℕ) : Type 0 where
  pub clean : is_clean line ≡ true
  pub tick : tick_in line ≡ Some name
  pub all : approves_all line ≡ false

box_tick : (s : Section) (name rest : List ℕ) → has_box s ≡ true → is_spaceless name ≡ true → is_clean name ≡ true → is_clean rest ≡ true
    → IsTick (codes "- [x] <!-- " ++ (word s ++ (codes "-branch=" ++ (name ++ (codes " -->" ++ rest))))) name
box_tick s name rest b e clean_name clean_rest = record {
  clean = clean_append (word s) (codes "-branch=" ++ (name ++ (codes " -->" ++ rest))) (clean_word s) (clean_append name (codes " -->" ++ rest) clean_name clean_rest);
  tick = box_ticks s name rest b e;
  all = box_alone s (name ++ (codes " -->" ++ rest)) b;
}

abbrev number_behind : ℕ → List ℕ
number_behind n = codes " (#" ++ (decimal n ++ codes ")")

-- the line with a number, with what stands behind the branch in one piece
live_is : (i : PageItem) → ticked (live_line i) ≡ codes "- [x] <!-- " ++ (word i.section ++ (codes "-branch=" ++ (spaced i.branch ++ (codes " -->" ++ (spaced i.title ++ number_behind i.number)))))
live_is i =
    let behind = number_behind i.number in
    let named = codes " -->" ++ spaced i.title in
    ap (λ t. codes "- [x] <!-- " ++ t)
    (append_assoc (word i.section) (codes "-branch=" ++ (spaced i.branch ++ named)) behind
    ∙ ap (λ t. word i.section ++ (codes "-branch=" ++ t)) (append_assoc (spaced i.branch) named behind))

live_tick : (i : PageItem) → has_box i.section ≡ true → is_spaceless (spaced i.branch) ≡ true → IsTick (ticked (live_line i)) (spaced i.branch)
live_tick i b e =
    let clean_title = clean_append (spaced i.title) (number_behind i.number) (clean_spaced i.title) (clean_number i.number) in
    let whole = box_tick i.section (spaced i.branch) (spaced i.title ++ number_behind i.number) b e (clean_spaced i.branch) clean_title in
    record {
      clean = ap is_clean (live_is i) ∙ whole.clean;
      tick = ap tick_in (live_is i) ∙ whole.tick;
      all = ap approves_all (live_is i) ∙ whole.all;
    }

item_tick : (s : Section) (i : PageItem) → has_box s ≡ true → has_box i.section ≡ true → is_spaceless (spaced i.branch) ≡ true → IsTick (ticked (line_in s i)) (spaced i.branch)
item_tick Errored i a b e = cc
item_tick Live i a b e = live_tick i b e
item_tick Approval i a b e = box_tick i.section (spaced i.branch) (spaced i.title) b e (clean_spaced i.branch) (clean_spaced i.title)
item_tick Schedule i a b e = box_tick i.section (spaced i.branch) (spaced i.title) b e (clean_spaced i.branch) (clean_spaced i.title)
item_tick Pending i a b e = box_tick i.section (spaced i.branch) (spaced i.title) b e (clean_spaced i.branch) (clean_spaced i.title)
item_tick Limited i a b e = box_tick i.section (spaced i.branch) (spaced i.title) b e (clean_spaced i.branch) (clean_spaced i.title)
item_tick Blocked i a b e = box_tick i.section (spaced i.branch) (spaced i.title) b e (clean_spaced i.branch) (clean_spaced i.title)

-- ---- one tick among plain lines

plain_before : (xs : List (List ℕ)) (l : List ℕ) (ys : List (List ℕ)) → ArePlain (xs ++ l ∷ ys) → ArePlain xs
plain_before [] l ys plain = tt
plain_before (x ∷ xs) l ys plain = (plain.0, plain_before xs l ys plain.1)

plain_after : (xs : List (List ℕ)) (l : List ℕ) (ys : List (List ℕ)) → ArePlain (xs ++ l ∷ ys) → ArePlain ys
plain_after [] l ys plain = plain.1
plain_after (x ∷ xs) l ys plain = plain_after xs l ys plain.1

all_clean : (xs : List (List ℕ)) (l : List ℕ) (ys : List (List ℕ)) → ArePlain xs → is_clean l ≡ true → ArePlain ys → AreClean (xs ++ l ∷ ys)
all_clean [] l ys a clean b = (clean, are_clean ys b)
all_clean (x ∷ xs) l ys a clean b = (a.0.clean, all_clean xs l ys a.1 clean b)

none_all_but : (xs : List (List ℕ)) (l : List ℕ) (ys : List (List ℕ)) → ArePlain xs → approves_all l ≡ false → ArePlain ys → list_any approves_all (xs ++ l ∷ ys) ≡ false
none_all_but [] l ys a alone b = (λ i. alone i || none_all ys b i)
none_all_but (x ∷ xs) l ys a alone b = (λ i. a.0.all i || none_all_but xs l ys a.1 alone b i)

named_once : (xs : List (List ℕ)) (l name : List ℕ) (ys : List (List ℕ)) → ArePlain xs → tick_in l ≡ Some name → ArePlain ys → names_on false (xs ++ l ∷ ys) ≡ name ∷ []
named_once [] l name ys a tick b = (λ i. option_to_list (first_of (tick i) None) ++ none_named ys b i)
named_once (x ∷ xs) l name ys a tick b = (λ i. option_to_list (first_of (a.0.tick i) None) ++ named_once xs l name ys a.1 tick b i)

one_tick : (xs : List (List ℕ)) (l name : List ℕ) (ys : List (List ℕ)) → ArePlain xs → IsTick l name → ArePlain ys → ticks (text_of (xs ++ l ∷ ys)) ≡ name ∷ []
unfolding ticks
one_tick xs l name ys a tick b =
    ap (λ t. each_once (names_in t)) (lines_back (xs ++ l ∷ ys) (all_clean xs l ys a tick.clean b))
    ∙ ap (λ all. each_once (names_on all (xs ++ l ∷ ys))) (none_all_but xs l ys a tick.all b)
    ∙ ap each_once (named_once xs l name ys a tick.tick b)

pub ticks_item : TicksItem
ticks_item items found warnings i before after is b e =
    let plain = subst ArePlain is (all_lines items found warnings) in
    one_tick before (ticked (item_line i)) (spaced i.branch) after (plain_before before (item_line i) after plain) (item_tick i.section i b b e) (plain_after before (item_line i) after plain)
