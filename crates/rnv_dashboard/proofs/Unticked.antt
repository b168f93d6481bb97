-- A page has no ticks.
use Rattle.std.proofs.Common.{◌≡◌, ℕ, zero, suc, ◌/◌, ◌%◌, ◌<◌, List, [], ◌∷◌, ◌++◌, map, flat_map, length, drop, Bool, true, false, not, ◌&&◌, ◌||◌, ◌==◌, cond, Some, None, is_some, arith, refl, ap, ◌∙◌, codes}
use Rattle.std.specs.Fmt.{decimal, digits, digits_onto, digit_glyph}
use Rattle.std.specs.List.{AllByRecursion, list_any, starts_with}
use Rattle.std.specs.Option.{option_to_list}
use Rattle.std.specs.Str.Lines.{lines}
use Rattle.std.proofs.lemmas.Bool.Decides.{nat_tests}
use Rattle.rnv_base.specs.declared.kinds.ManagerKind.{ManagerKind}
use Rattle.rnv_base.specs.declared.kinds.ManagerKind.TheVariants.{Cargo, Npm, Dockerfile, Regex}
use Rattle.rnv_dashboard.specs.declared.item.PageFile.{PageFile}
use Rattle.rnv_dashboard.specs.declared.item.PageItem.{PageItem}
use Rattle.rnv_dashboard.specs.declared.item.PageLine.{PageLine}
use Rattle.rnv_dashboard.specs.declared.section.Section.{Section}
use Rattle.rnv_dashboard.specs.declared.section.Section.TheVariants.{Errored, Live, Approval, Schedule, Pending, Limited, Blocked}
use Rattle.rnv_dashboard.specs.Lines.{is_control, spaced_byte, spaced, guard, guarded, text_of}
use Rattle.rnv_dashboard.specs.Page.{heading, word, framed, errored_line, box_line, live_line, line_in, item_line, closing, in_section, lines_in, section_lines, sections, warning_line, manager_name, skipped, is_none, dependency_line, path_line, file_lines, found_or_none, found_lines, page_lines, page}
use Rattle.rnv_dashboard.specs.Ticks.{ticks, tick_in, approves_all, names_on, names_in, each_once, first_of, strip, behind_over, name_over, markers}
use Rattle.rnv_dashboard.proofs.Back.{is_clean, two, AreClean, lines_back}

-- ---- clean texts

pub clean_append : (xs ys : List ℕ) → is_clean xs ≡ true → is_clean ys ≡ true → is_clean (xs ++ ys) ≡ true
clean_append [] ys a b = b
clean_append (x ∷ xs) ys a b =
    let parts = two (not (is_control x)) (is_clean xs) a in
    (λ i. parts.left i && clean_append xs ys parts.right b i)

clean_byte : (b : ℕ) → not (is_control (spaced_byte b)) ≡ true
clean_byte b = grind (arith, nat_tests)

pub clean_spaced : (t : List ℕ) → is_clean (spaced t) ≡ true
clean_spaced [] = refl
clean_spaced (b ∷ bs) = (λ i. clean_byte b i && clean_spaced bs i)

clean_guard : (t : List ℕ) → is_clean t ≡ true → is_clean (guard t) ≡ true
clean_guard [] clean = refl
clean_guard (b ∷ bs) clean = elim (b == 91) as (λ s. is_clean (cond s (92 ∷ b ∷ bs) (b ∷ bs)) ≡ true) [ true ↦ clean | false ↦ clean ]

clean_guarded : (t : List ℕ) → is_clean (guarded t) ≡ true
clean_guarded t = clean_guard (spaced t) (clean_spaced t)

clean_glyph : (n : ℕ) → not (is_control (digit_glyph false (n % 10))) ≡ true
clean_glyph n = let small : n % 10 < 10 = omega arith in glyph (n % 10) small where
  glyph : (d : ℕ) → d < 10 → not (is_control (digit_glyph false d)) ≡ true
  glyph d small = grind (arith, nat_tests)

clean_digits : (k n : ℕ) (acc : List ℕ) → is_clean acc ≡ true → is_clean (digits_onto k 10 false n acc) ≡ true
clean_digits zero n acc clean = clean
clean_digits (suc k) n acc clean =
    let here : is_clean (digit_glyph false (n % 10) ∷ acc) ≡ true = (λ i. clean_glyph n i && clean i) in
    elim (n / 10 == 0) as (λ s. is_clean (cond s (digit_glyph false (n % 10) ∷ acc) (digits_onto k 10 false (n / 10) (digit_glyph false (n % 10) ∷ acc))) ≡ true) [
      | true ↦ here
      | false ↦ clean_digits k (n / 10) (digit_glyph false (n % 10) ∷ acc) here
    ]

clean_decimal : (n : ℕ) → is_clean (decimal n) ≡ true
unfolding digits
clean_decimal n = clean_digits 64 n [] refl

-- ---- lines that tick nothing

pub record IsPlain (line : List ℕ) : Type 0 where
  pub clean : is_clean line ≡ true
  pub tick : tick_in line ≡ None
  pub all : approves_all line ≡ false

abbrev pub ArePlain : List (List ℕ) → Type 0
ArePlain lines = AllByRecursion IsPlain lines

-- a line that does not begin so
abbrev Lacks : List ℕ → List ℕ → Type 0
Lacks line front = starts_with ◌==◌ line front ≡ false

no_strip : (front line : List ℕ) → Lacks line front → strip front line ≡ None
no_strip front line lacks = ap (λ s. cond s (Some (drop (length front) line)) None) lacks

plain_from : (line : List ℕ) → is_clean line ≡ true → Lacks line (codes "- [x] <!-- ") → Lacks line (codes "- [X] <!-- ")
    → Lacks line (codes "- [x] <!-- approve-all -->") → Lacks line (codes "- [X] <!-- approve-all -->") → IsPlain line
unfolding tick_in approves_all
plain_from line clean a b c d = record {
  clean = clean;
  tick = λ i. name_over (behind_over markers (first_of (no_strip (codes "- [x] <!-- ") line a i) (first_of (no_strip (codes "- [X] <!-- ") line b i) None)));
  all = λ i. is_some (first_of (no_strip (codes "- [x] <!-- approve-all -->") line c i) (first_of (no_strip (codes "- [X] <!-- approve-all -->") line d i) None));
}

-- a line that does not begin with `- [`
shut : (line : List ℕ) → is_clean line ≡ true → ((front : List ℕ) → Lacks line (45 ∷ 32 ∷ 91 ∷ front)) → IsPlain line
shut line clean lacks = plain_from line clean (lacks (codes "x] <!-- ")) (lacks (codes "X] <!-- ")) (lacks (codes "x] <!-- approve-all -->")) (lacks (codes "X] <!-- approve-all -->"))

-- a line that begins with an empty box
box_plain : (rest : List ℕ) → is_clean rest ≡ true → IsPlain (codes "- [ ] <!-- " ++ rest)
box_plain rest clean = plain_from (codes "- [ ] <!-- " ++ rest) clean refl refl refl refl

empty_plain : IsPlain []
empty_plain = shut [] refl (λ front. refl)

-- a heading
title_plain : (name : List ℕ) → is_clean name ≡ true → IsPlain (codes "## " ++ name)
title_plain name clean = shut (codes "## " ++ name) clean (λ front. refl)

third_no : (x y z w : Bool) → z ≡ false → (x && (y && (z && w))) ≡ false
third_no true true z w e = ap (λ t. t && w) e
third_no true false z w e = refl
third_no false y z w e = refl

flip : (c : ℕ) → (c == 91) ≡ false → (91 == c) ≡ false
flip c e = grind (arith, nat_tests)

-- what stands behind `- `, where it is guarded
guard_third : (b : ℕ) (bs more front : List ℕ) (s : Bool) → (b == 91) ≡ s → Lacks (45 ∷ 32 ∷ (cond s (92 ∷ b ∷ bs) (b ∷ bs) ++ more)) (45 ∷ 32 ∷ 91 ∷ front)
guard_third b bs more front true e = refl
guard_third b bs more front false e = third_no true true (91 == b) _ (flip b e)

guarded_third : (t more front : List ℕ) → Lacks (45 ∷ 32 ∷ more) (45 ∷ 32 ∷ 91 ∷ front) → Lacks (45 ∷ 32 ∷ (guard t ++ more)) (45 ∷ 32 ∷ 91 ∷ front)
guarded_third [] more front lacks = lacks
guarded_third (b ∷ bs) more front lacks = guard_third b bs more front (b == 91) refl

-- a line that begins with `- ` and a guarded text
dash_plain : (t more : List ℕ) → is_clean more ≡ true → ((front : List ℕ) → Lacks (45 ∷ 32 ∷ more) (45 ∷ 32 ∷ 91 ∷ front)) → IsPlain (codes "- " ++ (guarded t ++ more))
dash_plain t more clean lacks = shut (codes "- " ++ (guarded t ++ more)) (clean_append (guarded t) more (clean_guarded t) clean) (λ front. guarded_third (spaced t) more front (lacks front))

-- ---- the lines of a page

pub clean_word : (s : Section) → is_clean (word s) ≡ true
clean_word Errored = refl
clean_word Live = refl
clean_word Approval = refl
clean_word Schedule = refl
clean_word Pending = refl
clean_word Limited = refl
clean_word Blocked = refl

clean_heading : (s : Section) → is_clean (heading s) ≡ true
clean_heading Errored = refl
clean_heading Live = refl
clean_heading Approval = refl
clean_heading Schedule = refl
clean_heading Pending = refl
clean_heading Limited = refl
clean_heading Blocked = refl

clean_manager : (m : ManagerKind) → is_clean (manager_name m) ≡ true
clean_manager Cargo = refl
clean_manager Npm = refl
clean_manager Dockerfile = refl
clean_manager Regex = refl

clean_box : (i : PageItem) → is_clean (word i.section ++ (codes "-branch=" ++ (spaced i.branch ++ (codes " -->" ++ spaced i.title)))) ≡ true
clean_box i = clean_append (word i.section) _ (clean_word i.section) (clean_append (spaced i.branch) (codes " -->" ++ spaced i.title) (clean_spaced i.branch) (clean_spaced i.title))

box_line_plain : (i : PageItem) → IsPlain (box_line i)
box_line_plain i = box_plain _ (clean_box i)

pub clean_number : (n : ℕ) → is_clean (codes " (#" ++ (decimal n ++ codes ")")) ≡ true
clean_number n = clean_append (decimal n) (codes ")") (clean_decimal n) refl

live_line_plain : (i : PageItem) → IsPlain (live_line i)
live_line_plain i =
    let inside = word i.section ++ (codes "-branch=" ++ (spaced i.branch ++ (codes " -->" ++ spaced i.title))) in
    let behind = codes " (#" ++ (decimal i.number ++ codes ")") in
    box_plain (inside ++ behind) (clean_append inside behind (clean_box i) (clean_number i.number))

errored_line_plain : (i : PageItem) → IsPlain (errored_line i)
errored_line_plain i = dash_plain i.branch (codes ": " ++ spaced i.note) (clean_spaced i.note) (λ front. refl)

line_plain : (s : Section) (i : PageItem) → IsPlain (line_in s i)
line_plain Errored i = errored_line_plain i
line_plain Live i = live_line_plain i
line_plain Approval i = box_line_plain i
line_plain Schedule i = box_line_plain i
line_plain Pending i = box_line_plain i
line_plain Limited i = box_line_plain i
line_plain Blocked i = box_line_plain i

warning_plain : (w : List ℕ) → IsPlain (warning_line w)
warning_plain w = shut (warning_line w) (clean_guarded w) (λ front. short (spaced w) front) where
  short : (t front : List ℕ) → Lacks (45 ∷ 32 ∷ guard t) (45 ∷ 32 ∷ 91 ∷ front)
  short [] front = refl
  short (b ∷ bs) front = last b bs front (b == 91) refl where
    last : (b : ℕ) (bs front : List ℕ) (s : Bool) → (b == 91) ≡ s → Lacks (45 ∷ 32 ∷ cond s (92 ∷ b ∷ bs) (b ∷ bs)) (45 ∷ 32 ∷ 91 ∷ front)
    last b bs front true e = refl
    last b bs front false e = third_no true true (91 == b) _ (flip b e)

clean_skipped : (t : List ℕ) → is_clean (skipped t) ≡ true
clean_skipped [] = refl
clean_skipped (b ∷ bs) = clean_append (spaced (b ∷ bs)) (codes ")") (clean_spaced (b ∷ bs)) refl

dependency_plain : (l : PageLine) → IsPlain (dependency_line l)
dependency_plain l =
    shut (dependency_line l)
    (clean_append (spaced l.«package») (codes " " ++ (spaced l.value ++ skipped l.skip)) (clean_spaced l.«package») (clean_append (spaced l.value) (skipped l.skip) (clean_spaced l.value) (clean_skipped l.skip)))
    (λ front. refl)

path_plain : (f : PageFile) → IsPlain (path_line f)
path_plain f = dash_plain f.path (codes " (" ++ (manager_name f.manager ++ codes ")")) (clean_append (manager_name f.manager) (codes ")") (clean_manager f.manager) refl) (λ front. refl)

-- ---- lists of lines

all_append : (xs ys : List (List ℕ)) → ArePlain xs → ArePlain ys → ArePlain (xs ++ ys)
all_append [] ys a b = b
all_append (x ∷ xs) ys a b = (a.0, all_append xs ys a.1 b)

all_map : {X : Type 0} (f : X → List ℕ) → ((x : X) → IsPlain (f x)) → (xs : List X) → ArePlain (map f xs)
all_map f plain [] = tt
all_map f plain (x ∷ xs) = (plain x, all_map f plain xs)

all_each : {X : Type 0} (f : X → List (List ℕ)) → ((x : X) → ArePlain (f x)) → (xs : List X) → ArePlain (flat_map f xs)
all_each f plain [] = tt
all_each f plain (x ∷ xs) = all_append (f x) (flat_map f xs) (plain x) (all_each f plain xs)

all_framed : (name : List ℕ) (ls : List (List ℕ)) → is_clean name ≡ true → ArePlain ls → ArePlain (framed name ls)
all_framed name [] clean plain = tt
all_framed name (l ∷ ls) clean plain = (empty_plain, (title_plain name clean, (empty_plain, plain)))

all_closing : (s : Section) (ls : List (List ℕ)) → ArePlain (closing s ls)
all_closing Errored ls = tt
all_closing Live ls = tt
all_closing Approval [] = tt
all_closing Approval (l ∷ ls) = (box_plain (codes "approve-all -->Approve all of these") refl, tt)
all_closing Schedule ls = tt
all_closing Pending ls = tt
all_closing Limited ls = tt
all_closing Blocked ls = tt

all_section : (items : List PageItem) (s : Section) → ArePlain (section_lines items s)
all_section items s =
    all_framed (heading s) (lines_in s items ++ closing s (lines_in s items)) (clean_heading s)
    (all_append (lines_in s items) (closing s (lines_in s items)) (all_map item_line (λ i. line_plain i.section i) (in_section s items)) (all_closing s (lines_in s items)))

all_file : (f : PageFile) → ArePlain (file_lines f)
all_file f = elim (is_none f.lines) as (λ s. ArePlain (cond s [] (path_line f ∷ map dependency_line f.lines))) [
  | true ↦ tt
  | false ↦ (path_plain f, all_map dependency_line dependency_plain f.lines)
]

all_found : (ls : List (List ℕ)) → ArePlain ls → ArePlain (found_or_none ls)
all_found [] plain = (shut (codes "None detected") refl (λ front. refl), tt)
all_found (l ∷ ls) plain = plain

pub all_lines : (items : List PageItem) (found : List PageFile) (warnings : List (List ℕ)) → ArePlain (page_lines items found warnings)
unfolding page_lines
all_lines items found warnings = (
  shut (codes "# Dependency Dashboard") refl (λ front. refl),
  all_append (flat_map (section_lines items) sections) _ (all_each (section_lines items) (all_section items) sections)
      (all_append (framed (codes "Warnings") (map warning_line warnings)) _ (all_framed (codes "Warnings") (map warning_line warnings) refl (all_map warning_line warning_plain warnings))
      (all_framed (codes "Detected Dependencies") (found_lines found) refl (all_found (flat_map file_lines found) (all_each file_lines all_file found)))),
)

-- ---- no ticks

pub are_clean : (ls : List (List ℕ)) → ArePlain ls → AreClean ls
are_clean [] plain = tt
are_clean (l ∷ ls) plain = (plain.0.clean, are_clean ls plain.1)

pub none_all : (ls : List (List ℕ)) → ArePlain ls → list_any approves_all ls ≡ false
none_all [] plain = refl
none_all (l ∷ ls) plain = (λ i. plain.0.all i || none_all ls plain.1 i)

pub none_named : (ls : List (List ℕ)) → ArePlain ls → names_on false ls ≡ []
none_named [] plain = refl
none_named (l ∷ ls) plain = (λ i. option_to_list (first_of (plain.0.tick i) None) ++ none_named ls plain.1 i)

plain_ticks : (ls : List (List ℕ)) → ArePlain ls → ticks (text_of ls) ≡ []
unfolding ticks
plain_ticks ls plain =
    ap (λ t. each_once (names_in t)) (lines_back ls (are_clean ls plain))
    ∙ ap (λ all. each_once (names_on all ls)) (none_all ls plain)
    ∙ ap each_once (none_named ls plain)

pub page_unticked : (items : List PageItem) (found : List PageFile) (warnings : List (List ℕ)) → ticks (page items found warnings) ≡ []
page_unticked items found warnings = plain_ticks (page_lines items found warnings) (all_lines items found warnings)
