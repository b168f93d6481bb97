-- The changes from old files to new ones, one file after another.
use Rattle.std.proofs.Common.{◌≡◌, ◌≢◌, ℕ, Bool, true, false, cond, not, ◌||◌, None, Some, List, [], ◌∷◌, ◌++◌, map, take, drop, refl, sym, ap, subst, ◌∙◌, append_assoc}
use Rattle.std.specs.List.{AllByRecursion, prefix_len}
use Rattle.std.specs.List.Sorted.{IsStrictlySortedBy}
use Rattle.std.specs.Str.{bytes_eq}
use Rattle.std.specs.declared.cmp.Ordering.TheVariants.{Less, Equal}
use Rattle.std.specs.Ordering.{is_lt}
use Rattle.std.proofs.lemmas.Cmp.{nat_list_cmp_total}
use Rattle.std.proofs.lemmas.List.{append-nil, take-append-drop}
use Rattle.rnv_base.specs.Files.{NamedFile}
use Rattle.rnv_repo.specs.Base.{differs, path_of, is_changing}
use Rattle.rnv_repo.specs.Files.{MarkedFile, PathChange}
use Rattle.rnv_repo.specs.Merging.{change_path}
use Rattle.rnv_repo.specs.Named.{IsRisingBy, at}
use Rattle.rnv_repo.proofs.Merges.{AreBefore, at_behind, at_none, changed_behind, changing_behind, front_changing, front_sets, merges_same}
use Rattle.rnv_repo.proofs.Texts.{cmp, bytes_refl, bytes_true, equal_texts, all_weaker}
use Rattle.rnv_commands.specs.Difference.{IsBelow, IsDifference, IsTurn, named_path, plain, removal, setting}
use Rattle.rnv_commands.proofs.Below.{below_front, not_below, above_rest}

-- no text is below itself
not_itself : (a b : List ℕ) → a ≡ b → ¬ (cmp a b ≡ Less)
not_itself a b same less =
    let equal : cmp a b ≡ Equal = subst (λ (t : List ℕ). cmp a t ≡ Equal) same (equal_texts a a (bytes_refl a)) in
    absurd (cc (less, equal))

abbrev first_path : List NamedFile → List ℕ
first_path [] = []
first_path (f ∷ fs) = f.path

abbrev first_bytes : List NamedFile → List ℕ
first_bytes [] = []
first_bytes (f ∷ fs) = f.bytes

abbrev others : List NamedFile → List NamedFile
others [] = []
others (f ∷ fs) = fs

not_plain_below : (o : MarkedFile) (os : List MarkedFile) (ns : List NamedFile) → IsBelow named_path o.path ns → ¬ (plain (o ∷ os) ≡ ns)
not_plain_below o os [] below e = absurd cc
not_plain_below o os (n ∷ ns) below e = not_itself o.path n.path (ap first_path e) below.0

not_plain_above : (n : NamedFile) (ns : List NamedFile) (os : List MarkedFile) → IsBelow path_of n.path os → ¬ (plain os ≡ n ∷ ns)
not_plain_above n ns [] below e = absurd cc
not_plain_above n ns (o ∷ os) below e = not_itself n.path o.path (sym (ap first_path e)) below.0

-- each change differs from the old file at its path

abbrev AreDiffering : List MarkedFile → List PathChange → Type 0
AreDiffering old cs = AllByRecursion (λ (c : PathChange). differs c.bytes (at path_of c.path old) ≡ true) cs

-- one old file more, below all of the changes
differing_behind : (o : MarkedFile) (os : List MarkedFile) (cs : List PathChange) → IsBelow change_path o.path cs → AreDiffering os cs → AreDiffering (o ∷ os) cs
differing_behind o os [] below all = tt
differing_behind o os (c ∷ cs) below all = (ap (differs c.bytes) (at_behind c.path o os below.0) ∙ all.0, differing_behind o os cs below.1 all.1)

at_here : (o : MarkedFile) (os : List MarkedFile) → at path_of o.path (o ∷ os) ≡ Some o
at_here o os = ap (λ t. cond t (Some o) (at path_of o.path os)) (bytes_refl o.path)

-- nothing and nothing
none : IsDifference [] [] []
unfolding IsStrictlySortedBy
none = record { makes = λ r. refl; rising = tt; paths = λ a b. tt; below = λ p a b. tt; each = tt; changing = λ ne. absurd (ne refl); none = λ e. refl }

-- an old file before the new ones is removed
removed : (o : MarkedFile) (os : List MarkedFile) (ns : List NamedFile) (cs : List PathChange) → IsRisingBy path_of (o ∷ os) → IsBelow named_path o.path ns → IsDifference os ns cs → IsDifference (o ∷ os) ns (removal o ∷ cs)
unfolding IsStrictlySortedBy
removed o os ns cs rising below d =
    let above : IsBelow change_path o.path cs = d.below o.path rising.0 below in
    let rl : IsRisingBy change_path (removal o ∷ cs) = (above, d.rising) in
    record {
      makes = λ r. ap plain ((merges_same r [] cs (removal o) o [] tt refl).files os rising rl) ∙ d.makes r;
      rising = rl;
      paths = λ a b. (a.0, d.paths a.1 b);
      below = λ p a b. (a.0, d.below p a.1 b);
      each = (ap (differs None) (at_here o os), differing_behind o os cs above d.each);
      changing = λ ne. (merges_same 0 [] cs (removal o) o [] tt refl).changing os rising rl;
      none = λ e. absurd (not_plain_below o os ns below e);
    }

-- an old file is there with its bytes
kept : (o : MarkedFile) (os : List MarkedFile) (n : NamedFile) (ns : List NamedFile) (cs : List PathChange) → IsRisingBy path_of (o ∷ os) → IsRisingBy named_path (n ∷ ns) → o.path ≡ n.path → o.bytes ≡ n.bytes
    → IsDifference os ns cs → IsDifference (o ∷ os) (n ∷ ns) cs
unfolding IsStrictlySortedBy
kept o os n ns cs rising new same bytes d =
    let behind : IsBelow named_path o.path ns = subst (λ (p : List ℕ). IsBelow named_path p ns) (sym same) new.0 in
    let above : IsBelow change_path o.path cs = d.below o.path rising.0 behind in
    let named : List ℕ → List ℕ → NamedFile = λ p b. record { path = p; bytes = b } in
    record {
      makes = λ r. ap plain (changed_behind r o cs os above) ∙ ap (λ (l : List NamedFile). named o.path o.bytes ∷ l) (d.makes r)
          ∙ ap (λ (p : List ℕ). named p o.bytes ∷ ns) same ∙ ap (λ (b : List ℕ). named n.path b ∷ ns) bytes;
      rising = d.rising;
      paths = λ a b. d.paths a.1 b.1;
      below = λ p a b. d.below p a.1 b.1;
      each = differing_behind o os cs above d.each;
      changing = λ ne. changing_behind o cs os above ∙ d.changing ne;
      none = λ e. d.none (ap others e);
    }

other_bytes : (a b : List ℕ) → a ≢ b → bytes_eq a b ≡ false
other_bytes a b ne =
    elim (bytes_eq a b) as (λ t. bytes_eq a b ≡ t → t ≡ false) [ true ↦ λ is. absurd (ne (bytes_true a b is)) | false ↦ λ is. refl ] refl

-- an old file is there with other bytes
altered : (o : MarkedFile) (os : List MarkedFile) (n : NamedFile) (ns : List NamedFile) (cs : List PathChange) → IsRisingBy path_of (o ∷ os) → IsRisingBy named_path (n ∷ ns) → o.path ≡ n.path → o.bytes ≢ n.bytes
    → IsDifference os ns cs → IsDifference (o ∷ os) (n ∷ ns) (setting n ∷ cs)
unfolding IsStrictlySortedBy
altered o os n ns cs rising new same ne d =
    let behind : IsBelow named_path o.path ns = subst (λ (p : List ℕ). IsBelow named_path p ns) (sym same) new.0 in
    let above : IsBelow change_path n.path cs = subst (λ (p : List ℕ). IsBelow change_path p cs) same (d.below o.path rising.0 behind) in
    let rl : IsRisingBy change_path (setting n ∷ cs) = (above, d.rising) in
    let named : List ℕ → List ℕ → NamedFile = λ p b. record { path = p; bytes = b } in
    record {
      makes = λ r. ap plain ((merges_same r [] cs (setting n) o [] tt (sym same)).files os rising rl) ∙ ap (λ (l : List NamedFile). named o.path n.bytes ∷ l) (d.makes r)
          ∙ ap (λ (p : List ℕ). named p n.bytes ∷ ns) same;
      rising = rl;
      paths = λ a b. (b.0, d.paths a.1 b.1);
      below = λ p a b. (b.0, d.below p a.1 b.1);
      each = (
        ap (λ (p : List ℕ). differs (Some n.bytes) (at path_of p (o ∷ os))) (sym same) ∙ ap (differs (Some n.bytes)) (at_here o os) ∙ ap not (other_bytes o.bytes n.bytes ne),
        differing_behind o os cs (d.below o.path rising.0 behind) d.each,
      );
      changing = λ e. (merges_same 0 [] cs (setting n) o [] tt (sym same)).changing os rising rl
          ∙ ap (λ (t : Bool). (false || not t) || is_changing cs os) (other_bytes o.bytes n.bytes ne);
      none = λ e. absurd (ne (ap first_bytes e));
    }

-- a new file before the old ones
added : (os : List MarkedFile) (n : NamedFile) (ns : List NamedFile) (cs : List PathChange) → IsRisingBy named_path (n ∷ ns) → IsBelow path_of n.path os
    → IsDifference os ns cs → IsDifference os (n ∷ ns) (setting n ∷ cs)
unfolding IsStrictlySortedBy
added os n ns cs new below d =
    let above : IsBelow change_path n.path cs = d.below n.path below new.0 in
    let rl : IsRisingBy change_path (setting n ∷ cs) = (above, d.rising) in
    let before : AreBefore (setting n ∷ []) os = (below, tt) in
    record {
      makes = λ r. ap plain (front_sets r (setting n ∷ []) cs os rl before) ∙ ap (λ (l : List NamedFile). n ∷ l) (d.makes r);
      rising = rl;
      paths = λ a b. (b.0, d.paths a b.1);
      below = λ p a b. (b.0, d.below p a b.1);
      each = (ap (differs (Some n.bytes)) (at_none path_of n.path os below), d.each);
      changing = λ e. front_changing (setting n ∷ []) cs os before;
      none = λ e. absurd (not_plain_above n ns os below e);
    }

-- the old files behind the last new one
pub removed_all : (os : List MarkedFile) → IsRisingBy path_of os → IsDifference os [] (map removal os)
unfolding IsStrictlySortedBy
removed_all [] rising = none
removed_all (o ∷ os) rising = removed o os [] (map removal os) rising tt (removed_all os rising.1)

-- old files before the new ones
removed_front : (front rest : List MarkedFile) (ns : List NamedFile) (cs : List PathChange) → IsRisingBy path_of (front ++ rest) → AllByRecursion (λ f. IsBelow named_path f.path ns) front
    → IsDifference rest ns cs → IsDifference (front ++ rest) ns (map removal front ++ cs)
unfolding IsStrictlySortedBy
removed_front [] rest ns cs rising below d = d
removed_front (f ∷ front) rest ns cs rising below d = removed f (front ++ rest) ns (map removal front ++ cs) rising below.0 (removed_front front rest ns cs rising.1 below.1 d)

rising_rest : (front rest : List MarkedFile) → IsRisingBy path_of (front ++ rest) → IsRisingBy path_of rest
unfolding IsStrictlySortedBy
rising_rest [] rest rising = rising
rising_rest (f ∷ front) rest rising = rising_rest front rest rising.1

-- what is below the first is below all
front_below : (front : List MarkedFile) (n : NamedFile) (ns : List NamedFile) → AllByRecursion (λ f. cmp f.path n.path ≡ Less) front → IsRisingBy named_path (n ∷ ns)
    → AllByRecursion (λ f. IsBelow named_path f.path (n ∷ ns)) front
unfolding IsStrictlySortedBy
front_below front n ns below new =
    all_weaker _ _ (λ (f : MarkedFile) less. (less, all_weaker _ _ (λ (m : NamedFile) more. nat_list_cmp_total.trans f.path n.path m.path less more) ns new.0)) front below

module _ (old front rest : List MarkedFile) (n : NamedFile) (count : ℕ) (count-is : count ≡ prefix_len (λ f. is_lt (cmp f.path n.path)) old)
    (front-is : front ≡ take count old) (rest-is : rest ≡ drop count old) where
  whole : front ++ rest ≡ old
  whole = ap (λ (l : List MarkedFile). l ++ rest) front-is ∙ ap (λ (l : List MarkedFile). take count old ++ l) rest-is ∙ take-append-drop count old

  less : AllByRecursion (λ f. cmp f.path n.path ≡ Less) front
  less = subst (λ (l : List MarkedFile). AllByRecursion (λ (f : MarkedFile). cmp f.path n.path ≡ Less) l) (ap (λ k. take k old) (sym count-is) ∙ sym front-is) (below_front path_of n.path old)

  low : (o : MarkedFile) (more : List MarkedFile) → rest ≡ o ∷ more → is_lt (cmp o.path n.path) ≡ false
  low o more e = not_below path_of n.path old more o (ap (λ k. drop k old) (sym count-is) ∙ sym rest-is ∙ e)

  rising_whole : IsRisingBy path_of old → IsRisingBy path_of (front ++ rest)
  rising_whole rising = subst (IsRisingBy path_of) (sym whole) rising

  -- the front is done with
  module _ (out mid : List PathChange) (mid-is : mid ≡ out ++ map removal front) where
    turned : (out' : List PathChange) (here : List PathChange) (behind : List MarkedFile) → out' ≡ mid ++ here
        → (IsRisingBy path_of rest → IsRisingBy path_of behind)
        → ((new : List NamedFile) (cs : List PathChange) → IsRisingBy path_of rest → IsRisingBy named_path (n ∷ new) → IsDifference behind new cs → IsDifference rest (n ∷ new) (here ++ cs))
        → IsTurn old n out out' behind
    turned out' here behind is on step = record {
      added = map removal front ++ here;
      is = is ∙ ap (λ (l : List PathChange). l ++ here) mid-is ∙ append_assoc out (map removal front) here;
      rising = λ rising. on (rising_rest front rest (rising_whole rising));
      more = λ new cs rising rn d.
          let rw' = rising_whole rising in
          let all = removed_front front rest (n ∷ new) (here ++ cs) rw' (front_below front n new less rn) (step new cs (rising_rest front rest rw') rn d) in
          let at_old : IsDifference old (n ∷ new) (map removal front ++ (here ++ cs)) = subst (λ (l : List MarkedFile). IsDifference l (n ∷ new) (map removal front ++ (here ++ cs))) whole all in
          subst (IsDifference old (n ∷ new)) (sym (append_assoc (map removal front) here cs)) at_old;
    }

    pub turn_new : (out' : List PathChange) → ((o : MarkedFile) (more : List MarkedFile) → rest ≡ o ∷ more → bytes_eq o.path n.path ≡ false) → out' ≡ mid ++ setting n ∷ [] → IsTurn old n out out' rest
    turn_new out' other is = turned out' (setting n ∷ []) rest is (λ r. r)
        (λ new cs rising rn d. added rest n new cs rn (above_rest path_of n.path rest low other rising) d)

    pub turn_same : (out' : List PathChange) (o : MarkedFile) (behind : List MarkedFile) → rest ≡ o ∷ behind → o.path ≡ n.path → (o.bytes ≡ n.bytes → out' ≡ mid) → (o.bytes ≢ n.bytes → out' ≡ mid ++ setting n ∷ [])
        → IsTurn old n out out' behind
    unfolding IsStrictlySortedBy
    turn_same out' o behind head same equal other =
        elim (bytes_eq o.bytes n.bytes) as (λ t. bytes_eq o.bytes n.bytes ≡ t → IsTurn old n out out' behind) [
          | true ↦ λ is.
              let bytes = bytes_true o.bytes n.bytes is in
              turned out' [] behind (equal bytes ∙ sym (append-nil mid)) on (λ new cs rising rn d.
              subst (λ (l : List MarkedFile). IsDifference l (n ∷ new) cs) (sym head) (kept o behind n new cs (subst (IsRisingBy path_of) head rising) rn same bytes d))
          | false ↦ λ is.
              let ne : o.bytes ≢ n.bytes = λ e. differ o.bytes n.bytes e is in
              turned out' (setting n ∷ []) behind (other ne) on (λ new cs rising rn d.
              subst (λ (l : List MarkedFile). IsDifference l (n ∷ new) (setting n ∷ cs)) (sym head) (altered o behind n new cs (subst (IsRisingBy path_of) head rising) rn same ne d))
        ] refl
      where
        on : IsRisingBy path_of rest → IsRisingBy path_of behind
        on rising = let r : IsRisingBy path_of (o ∷ behind) = subst (IsRisingBy path_of) head rising in r.1

        differ : (a b : List ℕ) → a ≡ b → ¬ (bytes_eq a b ≡ false)
        differ a b e is = let eq : bytes_eq a b ≡ true = subst (λ (t : List ℕ). bytes_eq a t ≡ true) e (bytes_refl a) in absurd (cc (is, eq))

-- how far the loop over the new files has come
pub record Turning (old : List MarkedFile) (new : List NamedFile) (out : List PathChange) (left : List MarkedFile) (rest : List NamedFile) : Type 0 where
  pub rising : IsRisingBy path_of left
  pub new_rising : IsRisingBy named_path rest
  pub more : (cs : List PathChange) → IsDifference left rest cs → IsDifference old new (out ++ cs)

pub turning_more : (old : List MarkedFile) (new : List NamedFile) (out out' : List PathChange) (left left' : List MarkedFile) (n : NamedFile) (rest rest' : List NamedFile) → rest ≡ n ∷ rest'
    → IsTurn left n out out' left' → Turning old new out left rest → Turning old new out' left' rest'
unfolding IsStrictlySortedBy
turning_more old new out out' left left' n rest rest' head t so_far =
    let rn : IsRisingBy named_path (n ∷ rest') = subst (IsRisingBy named_path) head so_far.new_rising in
    record {
      rising = t.rising so_far.rising;
      new_rising = rn.1;
      more = λ cs d.
          let here = t.more rest' cs so_far.rising rn d in
          let all = so_far.more (t.added ++ cs) (subst (λ (l : List NamedFile). IsDifference left l (t.added ++ cs)) (sym head) here) in
          subst (IsDifference old new) (sym (append_assoc out t.added cs) ∙ ap (λ (l : List PathChange). l ++ cs) (sym t.is)) all;
    }

pub turning_ended : (old : List MarkedFile) (new : List NamedFile) (out all : List PathChange) (left : List MarkedFile) (rest : List NamedFile) → rest ≡ [] → Turning old new out left rest → all ≡ out ++ map removal left → IsDifference old new all
turning_ended old new out all left rest none so_far is =
    subst (IsDifference old new) (sym is) (so_far.more (map removal left) (subst (λ (l : List NamedFile). IsDifference left l (map removal left)) (sym none) (removed_all left so_far.rising)))
