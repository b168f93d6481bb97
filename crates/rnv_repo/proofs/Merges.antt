-- Changes that rise are merged into files that rise.
use Rattle.std.proofs.Common.{◌≡◌, ℕ, suc, ◌+◌, arith, take, drop, Bool, true, false, cond, not, ◌||◌, List, [], ◌∷◌, ◌++◌, Option, Some, None, refl, sym, ap, subst, ◌∙◌, append_assoc}
use Rattle.std.specs.Prelude.{is_some}
use Rattle.std.specs.List.{AllByRecursion, flat_map, prefix_len}
use Rattle.std.specs.List.Sorted.{IsStrictlySortedBy}
use Rattle.std.specs.Str.{bytes_eq}
use Rattle.std.specs.declared.cmp.Ordering.{Ordering}
use Rattle.std.specs.declared.cmp.Ordering.TheVariants.{Less, Equal, Greater}
use Rattle.std.specs.Ordering.{is_lt}
use Rattle.std.proofs.lemmas.Cmp.{nat_list_cmp_total}
use Rattle.std.proofs.lemmas.List.{append-nil, take-append-drop}
use Rattle.rnv_repo.specs.Files.{MarkedFile, PathChange}
use Rattle.rnv_repo.specs.Named.{IsRisingBy, at, put, put_beside, without}
use Rattle.rnv_repo.specs.Base.{path_of, mark, with_bytes, changed, differs, is_changing}
use Rattle.rnv_repo.specs.Merging.{change_path, set_at, set_by, left_at, sets_some, MergesFile}
use Rattle.rnv_repo.proofs.Texts.{cmp, less_other, greater_other, equal_texts, same_texts, less_back, greater_back, bytes_refl, all_weaker}

-- a name that is none of these

pub at_none : {X : Type 0} (key : X → List ℕ) (name : List ℕ) (xs : List X) → AllByRecursion (λ x. cmp name (key x) ≡ Less) xs → at key name xs ≡ None
at_none key name [] a = refl
at_none key name (x ∷ xs) a = ap (λ t. cond t (Some x) (at key name xs)) (greater_other (key x) name (less_back name (key x) a.0)) ∙ at_none key name xs a.1

pub without_none : {X : Type 0} (key : X → List ℕ) (name : List ℕ) (xs : List X) → AllByRecursion (λ x. cmp name (key x) ≡ Less) xs → without key name xs ≡ xs
without_none key name [] a = refl
without_none key name (x ∷ xs) a =
    ap (λ t. cond (not t) (x ∷ without key name xs) (without key name xs)) (greater_other (key x) name (less_back name (key x) a.0)) ∙ ap (λ ys. x ∷ ys) (without_none key name xs a.1)

-- a file below a change's path stays in front

pub at_behind : (path : List ℕ) (x : MarkedFile) (files : List MarkedFile) → cmp x.path path ≡ Less → at path_of path (x ∷ files) ≡ at path_of path files
at_behind path x files below = ap (λ t. cond t (Some x) (at path_of path files)) (less_other x.path path below)

bytes_behind : (revision : ℕ) (path : List ℕ) (bytes : Option (List ℕ)) (x : MarkedFile) (files : List MarkedFile) → cmp x.path path ≡ Less
    → with_bytes revision path bytes (x ∷ files) ≡ x ∷ with_bytes revision path bytes files
bytes_behind revision path None x files below =
    ap (λ t. cond (not t) (x ∷ without path_of path files) (without path_of path files)) (less_other x.path path below)
bytes_behind revision path (Some bytes) x files below =
    let new : Option MarkedFile → MarkedFile = λ old. record { path = path; bytes = bytes; changed = mark revision bytes old } in
    let there : put path_of (new (at path_of path (x ∷ files))) (x ∷ files) ≡ put path_of (new (at path_of path files)) (x ∷ files) =
    ap (λ old. put path_of (new old) (x ∷ files)) (at_behind path x files below) in
    there ∙ ap (λ o. put_beside o (new (at path_of path files)) x files (put path_of (new (at path_of path files)) files)) (less_back x.path path below)

pub changed_behind : (revision : ℕ) (x : MarkedFile) (cs : List PathChange) (files : List MarkedFile) → AllByRecursion (λ c. cmp x.path c.path ≡ Less) cs
    → changed revision cs (x ∷ files) ≡ x ∷ changed revision cs files
changed_behind revision x [] files a = refl
changed_behind revision x (c ∷ cs) files a =
    ap (changed revision cs) (bytes_behind revision c.path c.bytes x files a.0) ∙ changed_behind revision x cs (with_bytes revision c.path c.bytes files) a.1

pub changing_behind : (x : MarkedFile) (cs : List PathChange) (files : List MarkedFile) → AllByRecursion (λ c. cmp x.path c.path ≡ Less) cs
    → is_changing cs (x ∷ files) ≡ is_changing cs files
changing_behind x [] files a = refl
changing_behind x (c ∷ cs) files a =
    ap (λ o. differs c.bytes o || is_changing cs (x ∷ files)) (at_behind c.path x files a.0) ∙ ap (λ b. differs c.bytes (at path_of c.path files) || b) (changing_behind x cs files a.1)

-- a change below all files sets a file in front, or nothing

bytes_before : (revision : ℕ) (path : List ℕ) (bytes : Option (List ℕ)) (files : List MarkedFile) → AllByRecursion (λ f. cmp path f.path ≡ Less) files
    → with_bytes revision path bytes files ≡ set_at revision path bytes ++ files
bytes_before revision path None files a = without_none path_of path files a
bytes_before revision path (Some bytes) [] a = refl
bytes_before revision path (Some bytes) (f ∷ files) a =
    let new : Option MarkedFile → MarkedFile = λ old. record { path = path; bytes = bytes; changed = mark revision bytes old } in
    let there : put path_of (new (at path_of path (f ∷ files))) (f ∷ files) ≡ put path_of (new None) (f ∷ files) =
    ap (λ old. put path_of (new old) (f ∷ files)) (at_none path_of path (f ∷ files) a) in
    there ∙ ap (λ o. put_beside o (new None) f files (put path_of (new None) files)) a.0

set_behind : (revision : ℕ) (path : List ℕ) (bytes : Option (List ℕ)) (cs : List PathChange) (files : List MarkedFile) → AllByRecursion (λ c. cmp path c.path ≡ Less) cs
    → changed revision cs (set_at revision path bytes ++ files) ≡ set_at revision path bytes ++ changed revision cs files
set_behind revision path None cs files a = refl
set_behind revision path (Some bytes) cs files a = changed_behind revision (record { path = path; bytes = bytes; changed = revision }) cs files a

abbrev pub AreBefore : List PathChange → List MarkedFile → Type 0
AreBefore cs files = AllByRecursion (λ c. AllByRecursion (λ f. cmp c.path f.path ≡ Less) files) cs

pub front_sets : (revision : ℕ) (front rest : List PathChange) (files : List MarkedFile) → IsRisingBy change_path (front ++ rest) → AreBefore front files
    → changed revision (front ++ rest) files ≡ flat_map (set_by revision) front ++ changed revision rest files
unfolding IsStrictlySortedBy
front_sets revision [] rest files rising before = refl
front_sets revision (c ∷ front) rest files rising before =
    ap (changed revision (front ++ rest)) (bytes_before revision c.path c.bytes files before.0)
    ∙ set_behind revision c.path c.bytes (front ++ rest) files rising.0
    ∙ ap (λ l. set_by revision c ++ l) (front_sets revision front rest files rising.1 before.1)
    ∙ sym (append_assoc (set_by revision c) (flat_map (set_by revision) front) (changed revision rest files))

differs_none : (bytes : Option (List ℕ)) → differs bytes None ≡ is_some bytes
differs_none None = refl
differs_none (Some b) = refl

or_assoc : (a b c : Bool) → (a || (b || c)) ≡ ((a || b) || c)
or_assoc true b c = refl
or_assoc false b c = refl

pub front_changing : (front rest : List PathChange) (files : List MarkedFile) → AreBefore front files
    → is_changing (front ++ rest) files ≡ (sets_some front || is_changing rest files)
front_changing [] rest files before = refl
front_changing (c ∷ front) rest files before =
    ap (λ o. differs c.bytes o || is_changing (front ++ rest) files) (at_none path_of c.path files before.0)
    ∙ ap (λ b. b || is_changing (front ++ rest) files) (differs_none c.bytes)
    ∙ ap (λ b. is_some c.bytes || b) (front_changing front rest files before.1)
    ∙ or_assoc (is_some c.bytes) (sets_some front) (is_changing rest files)

-- a change of a file's own path

bytes_same : (revision : ℕ) (bytes : Option (List ℕ)) (f : MarkedFile) (files : List MarkedFile) → AllByRecursion (λ g. cmp f.path g.path ≡ Less) files
    → with_bytes revision f.path bytes (f ∷ files) ≡ left_at revision f bytes ++ files
bytes_same revision None f files a =
    ap (λ t. cond (not t) (f ∷ without path_of f.path files) (without path_of f.path files)) (bytes_refl f.path) ∙ without_none path_of f.path files a
bytes_same revision (Some bytes) f files a =
    let new : Option MarkedFile → MarkedFile = λ old. record { path = f.path; bytes = bytes; changed = mark revision bytes old } in
    let there : put path_of (new (at path_of f.path (f ∷ files))) (f ∷ files) ≡ put path_of (new (Some f)) (f ∷ files) =
    ap (λ t. put path_of (new (cond t (Some f) (at path_of f.path files))) (f ∷ files)) (bytes_refl f.path) in
    there ∙ ap (λ o. put_beside o (new (Some f)) f files (put path_of (new (Some f)) files)) (equal_texts f.path f.path (bytes_refl f.path))

left_behind : (revision : ℕ) (f : MarkedFile) (bytes : Option (List ℕ)) (cs : List PathChange) (files : List MarkedFile) → AllByRecursion (λ c. cmp f.path c.path ≡ Less) cs
    → changed revision cs (left_at revision f bytes ++ files) ≡ left_at revision f bytes ++ changed revision cs files
left_behind revision f None cs files a = refl
left_behind revision f (Some bytes) cs files a =
    changed_behind revision (record { path = f.path; bytes = bytes; changed = cond (bytes_eq f.bytes bytes) f.changed revision }) cs files a

-- one file with the changes up to its path

all_below : (path : List ℕ) (f : MarkedFile) (files : List MarkedFile) → cmp path f.path ≡ Less → AllByRecursion (λ g. cmp f.path g.path ≡ Less) files → AllByRecursion (λ g. cmp path g.path ≡ Less) (f ∷ files)
all_below path f files e a = (e, all_weaker _ _ (λ g h. nat_list_cmp_total.trans path f.path g.path e h) files a)

before_file : (front : List PathChange) (f : MarkedFile) (files : List MarkedFile) → AllByRecursion (λ c. cmp c.path f.path ≡ Less) front → AllByRecursion (λ g. cmp f.path g.path ≡ Less) files → AreBefore front (f ∷ files)
before_file front f files h a = all_weaker (λ (c : PathChange). cmp c.path f.path ≡ Less) _ (λ c e. all_below c.path f files e a) front h

rising_rest : (front rest : List PathChange) → IsRisingBy change_path (front ++ rest) → IsRisingBy change_path rest
unfolding IsStrictlySortedBy
rising_rest [] rest rising = rising
rising_rest (c ∷ front) rest rising = rising_rest front rest rising.1

pub merges_other : (revision : ℕ) (front rest : List PathChange) (f : MarkedFile) (old : List MarkedFile) → AllByRecursion (λ c. cmp c.path f.path ≡ Less) front → (IsRisingBy change_path rest → AllByRecursion (λ c. cmp f.path c.path ≡ Less) rest)
    → MergesFile revision (front ++ rest) f old ((old ++ flat_map (set_by revision) front) ++ f ∷ []) rest (sets_some front)
unfolding IsStrictlySortedBy
merges_other revision front rest f old below above = record {
  files = λ more rm rl.
      let before = before_file front f more below rm.0 in
      let all = front_sets revision front rest (f ∷ more) rl before ∙ ap (λ l. flat_map (set_by revision) front ++ l) (changed_behind revision f rest more (above (rising_rest front rest rl))) in
      ap (λ l. old ++ l) all ∙ sym (append_assoc old (flat_map (set_by revision) front) (f ∷ changed revision rest more))
      ∙ sym (append_assoc (old ++ flat_map (set_by revision) front) (f ∷ []) (changed revision rest more));
  changing = λ more rm rl.
      let before = before_file front f more below rm.0 in
      front_changing front rest (f ∷ more) before ∙ ap (λ b. sets_some front || b) (changing_behind f rest more (above (rising_rest front rest rl)));
  rising = rising_rest front rest;
}

pub merges_same : (revision : ℕ) (front behind : List PathChange) (c : PathChange) (f : MarkedFile) (old : List MarkedFile) → AllByRecursion (λ d. cmp d.path f.path ≡ Less) front → c.path ≡ f.path
    → MergesFile revision (front ++ c ∷ behind) f old ((old ++ flat_map (set_by revision) front) ++ left_at revision f c.bytes) behind (sets_some front || differs c.bytes (Some f))
unfolding IsStrictlySortedBy
merges_same revision front behind c f old below same = record {
  files = λ more rm rl.
      let before = before_file front f more below rm.0 in
      let above = subst (λ p. AllByRecursion (λ (d : PathChange). cmp p d.path ≡ Less) behind) same (rising_rest front (c ∷ behind) rl).0 in
      let here : changed revision (c ∷ behind) (f ∷ more) ≡ left_at revision f c.bytes ++ changed revision behind more =
      ap (λ p. changed revision behind (with_bytes revision p c.bytes (f ∷ more))) same ∙ ap (changed revision behind) (bytes_same revision c.bytes f more rm.0) ∙ left_behind revision f c.bytes behind more above in
      let all = front_sets revision front (c ∷ behind) (f ∷ more) rl before ∙ ap (λ l. flat_map (set_by revision) front ++ l) here in
      ap (λ l. old ++ l) all ∙ sym (append_assoc old (flat_map (set_by revision) front) (left_at revision f c.bytes ++ changed revision behind more))
      ∙ sym (append_assoc (old ++ flat_map (set_by revision) front) (left_at revision f c.bytes) (changed revision behind more));
  changing = λ more rm rl.
      let before = before_file front f more below rm.0 in
      let above = subst (λ p. AllByRecursion (λ (d : PathChange). cmp p d.path ≡ Less) behind) same (rising_rest front (c ∷ behind) rl).0 in
      let there : at path_of c.path (f ∷ more) ≡ Some f = ap (λ p. at path_of p (f ∷ more)) same ∙ ap (λ t. cond t (Some f) (at path_of f.path more)) (bytes_refl f.path) in
      front_changing front (c ∷ behind) (f ∷ more) before
      ∙ ap (λ o. sets_some front || (differs c.bytes o || is_changing behind (f ∷ more))) there
      ∙ ap (λ b. sets_some front || (differs c.bytes (Some f) || b)) (changing_behind f behind more above)
      ∙ or_assoc (sets_some front) (differs c.bytes (Some f)) (is_changing behind more);
  rising = λ rl. (rising_rest front (c ∷ behind) rl).1;
}

-- the changes below a path, as they are counted

is_below : List ℕ → PathChange → Bool
is_below path c = is_lt (cmp c.path path)

lt_is : (o : Ordering) → is_lt o ≡ true → o ≡ Less
lt_is Less e = refl
lt_is Equal e = cc
lt_is Greater e = cc

pub below_front : (path : List ℕ) (cs : List PathChange) → AllByRecursion (λ c. cmp c.path path ≡ Less) (take (prefix_len (λ c. is_lt (cmp c.path path)) cs) cs)
below_front path [] = tt
below_front path (c ∷ cs) =
    elim (is_lt (cmp c.path path)) as (λ b. is_lt (cmp c.path path) ≡ b → AllByRecursion (λ d. cmp d.path path ≡ Less) (take (cond b (1 + prefix_len (λ d. is_lt (cmp d.path path)) cs) 0) (c ∷ cs))) [
      | true ↦ λ is.
          let n = prefix_len (λ (d : PathChange). is_lt (cmp d.path path)) cs in
          let more : 1 + n ≡ suc n = omega arith in
          rw more (lt_is (cmp c.path path) is, below_front path cs)
      | false ↦ λ is. tt
    ] refl

pub not_below : (path : List ℕ) (cs rest : List PathChange) (c : PathChange) → drop (prefix_len (λ c. is_lt (cmp c.path path)) cs) cs ≡ c ∷ rest → is_lt (cmp c.path path) ≡ false
not_below path [] rest c e = absurd cc
not_below path (d ∷ cs) rest c e =
    elim (is_lt (cmp d.path path)) as (λ b. is_lt (cmp d.path path) ≡ b → drop (cond b (1 + prefix_len (λ d. is_lt (cmp d.path path)) cs) 0) (d ∷ cs) ≡ c ∷ rest → is_lt (cmp c.path path) ≡ false) [
      | true ↦ λ is h.
          let n = prefix_len (λ (d : PathChange). is_lt (cmp d.path path)) cs in
          let more : 1 + n ≡ suc n = omega arith in
          not_below path cs rest c (rw more at h)
      | false ↦ λ is h. let same : d ≡ c = cc in ap (λ (x : PathChange). is_lt (cmp x.path path)) (sym same) ∙ is
    ] refl e

-- what is not below and another is above, with all behind it
pub above_all : (path : List ℕ) (c : PathChange) (rest : List PathChange) → is_lt (cmp c.path path) ≡ false → bytes_eq c.path path ≡ false → IsRisingBy change_path (c ∷ rest)
    → AllByRecursion (λ d. cmp path d.path ≡ Less) (c ∷ rest)
unfolding IsStrictlySortedBy
above_all path c rest low other rising =
    let greater : cmp c.path path ≡ Greater =
    elim (cmp c.path path) as (λ o. cmp c.path path ≡ o → o ≡ Greater) [
      | Less ↦ λ is. absurd (cc (low, ap is_lt is))
      | Equal ↦ λ is. absurd (cc (other, same_texts c.path path is))
      | Greater ↦ λ is. refl
    ] refl in
    let first = greater_back c.path path greater in
    (first, all_weaker _ _ (λ d h. nat_list_cmp_total.trans path c.path d.path first h) rest rising.0)

-- what is merged, with the changes split at their count

pub merged_same : (revision : ℕ) (changes : List PathChange) (n : ℕ) (front rest behind : List PathChange) (c : PathChange) (f : MarkedFile) (old new : List MarkedFile) (any : Bool)
    → n ≡ prefix_len (λ d. is_lt (cmp d.path f.path)) changes → front ≡ take n changes → rest ≡ drop n changes → rest ≡ c ∷ behind → c.path ≡ f.path
    → new ≡ (old ++ flat_map (set_by revision) front) ++ left_at revision f c.bytes → any ≡ (sets_some front || differs c.bytes (Some f))
    → MergesFile revision changes f old new behind any
merged_same revision changes n front rest behind c f old new any count front-is rest-is head same new-is any-is =
    let below : AllByRecursion (λ (d : PathChange). cmp d.path f.path ≡ Less) front =
    subst (λ l. AllByRecursion (λ (d : PathChange). cmp d.path f.path ≡ Less) l) (ap (λ k. take k changes) (sym count) ∙ sym front-is) (below_front f.path changes) in
    let whole : front ++ c ∷ behind ≡ changes =
    ap (λ l. front ++ l) (sym head ∙ rest-is) ∙ ap (λ l. l ++ drop n changes) front-is ∙ take-append-drop n changes in
    let m = merges_same revision front behind c f old below same in
    let at_new : MergesFile revision (front ++ c ∷ behind) f old new behind any = rw (new-is, any-is) m in
    subst (λ l. MergesFile revision l f old new behind any) whole at_new

pub merged_other : (revision : ℕ) (changes : List PathChange) (n : ℕ) (front rest : List PathChange) (f : MarkedFile) (old new : List MarkedFile) (any : Bool)
    → n ≡ prefix_len (λ d. is_lt (cmp d.path f.path)) changes → front ≡ take n changes → rest ≡ drop n changes → ((c : PathChange) (more : List PathChange) → rest ≡ c ∷ more → bytes_eq c.path f.path ≡ false)
    → new ≡ (old ++ flat_map (set_by revision) front) ++ f ∷ [] → any ≡ sets_some front
    → MergesFile revision changes f old new rest any
merged_other revision changes n front rest f old new any count front-is rest-is other new-is any-is =
    let below : AllByRecursion (λ (d : PathChange). cmp d.path f.path ≡ Less) front =
    subst (λ l. AllByRecursion (λ (d : PathChange). cmp d.path f.path ≡ Less) l) (ap (λ k. take k changes) (sym count) ∙ sym front-is) (below_front f.path changes) in
    let whole : front ++ rest ≡ changes = ap (λ l. front ++ l) rest-is ∙ ap (λ l. l ++ drop n changes) front-is ∙ take-append-drop n changes in
    let low : (c : PathChange) (more : List PathChange) → rest ≡ c ∷ more → is_lt (cmp c.path f.path) ≡ false =
    λ c more e. not_below f.path changes more c (ap (λ k. drop k changes) (sym count) ∙ sym rest-is ∙ e) in
    let m = merges_other revision front rest f old below (all_above f.path rest low other) in
    let at_new : MergesFile revision (front ++ rest) f old new rest any = rw (new-is, any-is) m in
    subst (λ l. MergesFile revision l f old new rest any) whole at_new
  where
    all_above : (path : List ℕ) (rest : List PathChange) → ((c : PathChange) (more : List PathChange) → rest ≡ c ∷ more → is_lt (cmp c.path path) ≡ false) → ((c : PathChange) (more : List PathChange) → rest ≡ c ∷ more → bytes_eq c.path path ≡ false)
        → IsRisingBy change_path rest → AllByRecursion (λ d. cmp path d.path ≡ Less) rest
    all_above path [] low other rising = tt
    all_above path (c ∷ more) low other rising = above_all path c more (low c more refl) (other c more refl) rising

-- behind the last file the changes set files or nothing

pub last_sets : (revision : ℕ) (cs : List PathChange) → IsRisingBy change_path cs → changed revision cs [] ≡ flat_map (set_by revision) cs
last_sets revision cs rising =
    ap (λ l. changed revision l []) (sym (append-nil cs)) ∙ front_sets revision cs [] [] (rw append-nil rising) (before_nothing cs) ∙ append-nil (flat_map (set_by revision) cs)
  where
    before_nothing : (cs : List PathChange) → AreBefore cs []
    before_nothing [] = tt
    before_nothing (c ∷ cs) = (tt, before_nothing cs)

pub last_changing : (cs : List PathChange) → is_changing cs [] ≡ sets_some cs
last_changing [] = refl
last_changing (c ∷ cs) = ap (λ b. b || is_changing cs []) (differs_none c.bytes) ∙ ap (λ b. is_some c.bytes || b) (last_changing cs)

pub counted_at : (changes : List PathChange) (n : ℕ) (p q : List ℕ) → n ≡ prefix_len (λ d. is_lt (cmp d.path p)) changes → p ≡ q → n ≡ prefix_len (λ d. is_lt (cmp d.path q)) changes
counted_at changes n p q count same = count ∙ ap (λ x. prefix_len (λ (d : PathChange). is_lt (cmp d.path x)) changes) same

-- one file more

pub merged_files : (revision : ℕ) (left rest : List PathChange) (f : MarkedFile) (files more old new total : List MarkedFile) (any : Bool) → files ≡ f ∷ more → MergesFile revision left f old new rest any
    → IsRisingBy path_of files → IsRisingBy change_path left → old ++ changed revision left files ≡ total → new ++ changed revision rest more ≡ total
merged_files revision left rest f files more old new total any is m rf rl so_far =
    sym (m.files more (rw is at rf) rl) ∙ ap (λ l. old ++ changed revision left l) (sym is) ∙ so_far

pub merged_changing : (revision : ℕ) (left rest : List PathChange) (f : MarkedFile) (files more old new : List MarkedFile) (before any whether : Bool) → files ≡ f ∷ more → MergesFile revision left f old new rest any
    → IsRisingBy path_of files → IsRisingBy change_path left → (before || is_changing left files) ≡ whether → ((before || any) || is_changing rest more) ≡ whether
merged_changing revision left rest f files more old new before any whether is m rf rl so_far =
    sym (or_assoc before any (is_changing rest more)) ∙ ap (λ b. before || b) (sym (m.changing more (rw is at rf) rl)) ∙ ap (λ l. before || is_changing left l) (sym is) ∙ so_far

pub rising_more : (f : MarkedFile) (files more : List MarkedFile) → files ≡ f ∷ more → IsRisingBy path_of files → IsRisingBy path_of more
unfolding IsStrictlySortedBy
rising_more f files more is rising = let r : IsRisingBy path_of (f ∷ more) = rw is at rising in r.1

pub rising_nothing : (files : List MarkedFile) → files ≡ [] → IsRisingBy path_of files
unfolding IsStrictlySortedBy
rising_nothing files e = rw e tt
