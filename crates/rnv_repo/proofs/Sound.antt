-- A permitted write leaves a sound repository sound.
use Rattle.std.proofs.Common.{◌≡◌, ℕ, ◌+◌, ◌<◌, ◌≤◌, Bool, true, false, cond, not, ◌&&◌, eqb, List, [], ◌∷◌, ◌++◌, Option, Some, None, refl, sym, ap, subst, ◌∙◌, arith}
use Rattle.std.specs.Prelude.{IfOk, IfSome, is_some, Result, Ok, Err}
use Prim.Native.Nat.{max}
use Rattle.std.specs.List.{AllByRecursion, filter, find}
use Rattle.std.specs.List.Sorted.{IsStrictlySortedBy}
use Rattle.std.specs.Str.{bytes_eq}
use Rattle.std.specs.declared.cmp.Ordering.{Ordering}
use Rattle.std.specs.declared.cmp.Ordering.TheVariants.{Less, Equal, Greater}
use Rattle.std.proofs.lemmas.Bool.{both_ways, eqb-true, false_from_ne_true}
use Rattle.std.proofs.lemmas.Cmp.{nat_list_cmp_total}
use Rattle.std.proofs.lemmas.List.Elements.{All-from_recursion, All-nil, recursion_from_All}
use Rattle.rnv_base.specs.Moment.{IsMoment}
use Rattle.rnv_base.specs.Names.{IsPath, IsRepositoryName}
use Rattle.rnv_repo.specs.Applying.{Applies}
use Rattle.rnv_repo.specs.declared.applying.ApplyError.{ApplyError}
use Rattle.rnv_repo.specs.declared.refusal.Refusal.{Refusal}
use Rattle.rnv_repo.specs.declared.refusal.Refusal.TheVariants.{NoBranch, NumberTaken}
use Rattle.rnv_repo.specs.declared.repo.Repo.{Repo}
use Rattle.rnv_repo.specs.declared.request.Request.{Request}
use Rattle.rnv_repo.specs.declared.request.RequestState.TheVariants.{Live}
use Rattle.rnv_repo.specs.declared.write.Write.{Write}
use Rattle.rnv_repo.specs.declared.write.Write.TheVariants.{SetBase, PutBranch, DropBranch, OpenRequest, EditRequest, Autoclose, Finish}
use Rattle.rnv_repo.specs.Base.{path_of, mark, with_bytes, changed}
use Rattle.rnv_repo.specs.Files.{MarkedFile, PathChange}
use Rattle.rnv_repo.specs.Named.{IsRisingBy, at, put, put_beside, without}
use Rattle.rnv_repo.specs.Requests.{is_live, is_live_on, live_on, greatest, next_number, at_number, edited, autoclosed, IsApart, AreApart, IsBased}
use Rattle.rnv_repo.specs.Store.{name_of, with_base, applied_in, empty_repo, begun, refused_branch, refused_live, refusal_in, refusal_unknown, refusal_to, applied_to, known, applied, after, IsPermitted, ArePermitted, IsSound, IsSoundStore}
use Rattle.rnv_repo.specs.WellFormed.{AreInOrder, HasOrder, IsOrderly, repo_of}
use Rattle.rnv_repo.proofs.Texts.{cmp, bytes_true, bytes_refl, same_texts, greater_back, all_weaker}

-- lists in the order of a text

pub all_put : {X : Type 0} (P : X → Type 0) (key : X → List ℕ) (x : X) (xs : List X) → P x → AllByRecursion P xs → AllByRecursion P (put key x xs)
all_put P key x [] h a = (h, tt)
all_put P key x (y ∷ ys) h a =
    elim (cmp (key x) (key y)) as (λ o. AllByRecursion P (put_beside o x y ys (put key x ys))) [
      | Less ↦ (h, a)
      | Equal ↦ (h, a.1)
      | Greater ↦ (a.0, all_put P key x ys h a.1)
    ]

rising_cases : {X : Type 0} (key : X → List ℕ) (x y : X) (ys : List X) (o : Ordering) → cmp (key x) (key y) ≡ o → IsRisingBy key (y ∷ ys) → IsRisingBy key (put key x ys) → IsRisingBy key (put_beside o x y ys (put key x ys))
unfolding IsStrictlySortedBy
rising_cases key x y ys Less is r h = ((is, all_weaker _ _ (λ z k. nat_list_cmp_total.trans (key x) (key y) (key z) is k) ys r.0), r)
rising_cases key x y ys Equal is r h =
    (subst (λ n. AllByRecursion (λ z. cmp n (key z) ≡ Less) ys) (sym (bytes_true (key x) (key y) (same_texts (key x) (key y) is))) r.0, r.1)
rising_cases key x y ys Greater is r h = (all_put (λ z. cmp (key y) (key z) ≡ Less) key x ys (greater_back (key x) (key y) is) r.0, h)

rising_put : {X : Type 0} (key : X → List ℕ) (x : X) (xs : List X) → IsRisingBy key xs → IsRisingBy key (put key x xs)
unfolding IsStrictlySortedBy
rising_put key x [] r = (tt, tt)
rising_put key x (y ∷ ys) r = rising_cases key x y ys (cmp (key x) (key y)) refl r (rising_put key x ys r.1)

all_filter : {X : Type 0} (P : X → Type 0) (p : X → Bool) (xs : List X) → AllByRecursion P xs → AllByRecursion P (filter p xs)
all_filter P p [] a = tt
all_filter P p (x ∷ xs) a = elim (p x) as (λ b. AllByRecursion P (cond b (x ∷ filter p xs) (filter p xs))) [ true ↦ (a.0, all_filter P p xs a.1) | false ↦ all_filter P p xs a.1 ]

rising_filter : {X : Type 0} (key : X → List ℕ) (p : X → Bool) (xs : List X) → IsRisingBy key xs → IsRisingBy key (filter p xs)
unfolding IsStrictlySortedBy
rising_filter key p [] r = tt
rising_filter key p (x ∷ xs) r =
    elim (p x) as (λ b. IsRisingBy key (cond b (x ∷ filter p xs) (filter p xs))) [ true ↦ (all_filter _ p xs r.0, rising_filter key p xs r.1) | false ↦ rising_filter key p xs r.1 ]

all_found : {X : Type 0} (P : X → Type 0) (p : X → Bool) (xs : List X) (x : X) → AllByRecursion P xs → find p xs ≡ Some x → P x
all_found P p [] x a e = absurd cc
all_found P p (y ∷ ys) x a e =
    elim (p y) as (λ b. cond b (Some y) (find p ys) ≡ Some x → P x) [
      | true ↦ λ h. let k : y ≡ x = cc in subst P k a.0
      | false ↦ λ h. all_found P p ys x a.1 h
    ] e

-- the files of a base

bytes_keep : (P : MarkedFile → Type 0) (revision : ℕ) (path : List ℕ) (bytes : Option (List ℕ)) (files : List MarkedFile)
    → ((b : List ℕ) → P (record { path = path; bytes = b; changed = mark revision b (at path_of path files) })) → AllByRecursion P files → AllByRecursion P (with_bytes revision path bytes files)
bytes_keep P revision path None files h a = all_filter P (λ f. not (bytes_eq f.path path)) files a
bytes_keep P revision path (Some b) files h a = all_put P path_of (record { path = path; bytes = b; changed = mark revision b (at path_of path files) }) files (h b) a

bytes_rising : (revision : ℕ) (path : List ℕ) (bytes : Option (List ℕ)) (files : List MarkedFile) → IsRisingBy path_of files → IsRisingBy path_of (with_bytes revision path bytes files)
bytes_rising revision path None files r = rising_filter path_of (λ f. not (bytes_eq f.path path)) files r
bytes_rising revision path (Some b) files r = rising_put path_of (record { path = path; bytes = b; changed = mark revision b (at path_of path files) }) files r

changed_rising : (revision : ℕ) (cs : List PathChange) (files : List MarkedFile) → IsRisingBy path_of files → IsRisingBy path_of (changed revision cs files)
changed_rising revision [] files r = r
changed_rising revision (c ∷ cs) files r = changed_rising revision cs (with_bytes revision c.path c.bytes files) (bytes_rising revision c.path c.bytes files r)

changed_paths : (revision : ℕ) (cs : List PathChange) (files : List MarkedFile) → AllByRecursion (λ (c : PathChange). IsPath c.path) cs → AllByRecursion (λ (f : MarkedFile). IsPath f.path) files
    → AllByRecursion (λ (f : MarkedFile). IsPath f.path) (changed revision cs files)
changed_paths revision [] files p a = a
changed_paths revision (c ∷ cs) files p a = changed_paths revision cs (with_bytes revision c.path c.bytes files) p.1 (bytes_keep (λ f. IsPath f.path) revision c.path c.bytes files (λ b. p.0) a)

mark_within : (revision : ℕ) (b : List ℕ) (path : List ℕ) (files : List MarkedFile) (o : Option MarkedFile) → at path_of path files ≡ o → AllByRecursion (λ (f : MarkedFile). f.changed ≤ revision) files → mark revision b o ≤ revision
mark_within revision b path files None e a = omega arith
mark_within revision b path files (Some f) e a =
    let within : f.changed ≤ revision = all_found (λ (g : MarkedFile). g.changed ≤ revision) (λ g. bytes_eq g.path path) files f a e in
    elim (bytes_eq f.bytes b) as (λ t. cond t f.changed revision ≤ revision) [ true ↦ within | false ↦ omega arith ]

changed_marks : (revision : ℕ) (cs : List PathChange) (files : List MarkedFile) → AllByRecursion (λ (f : MarkedFile). f.changed ≤ revision) files → AllByRecursion (λ (f : MarkedFile). f.changed ≤ revision) (changed revision cs files)
changed_marks revision [] files a = a
changed_marks revision (c ∷ cs) files a =
    changed_marks revision cs (with_bytes revision c.path c.bytes files)
    (bytes_keep (λ f. f.changed ≤ revision) revision c.path c.bytes files (λ b. mark_within revision b c.path files (at path_of c.path files) refl a) a)

sound_base : (revision : ℕ) (cs : List PathChange) (repo : Repo) → repo.revision ≤ revision → AreInOrder (λ (c : PathChange). c.path) cs → IsSound repo → IsSound (with_base revision cs repo)
sound_base revision cs repo le order s = record {
  name = s.name;
  files = record {
    each = All-from_recursion (λ (f : MarkedFile). IsPath f.path) (changed revision cs repo.files)
        (changed_paths revision cs repo.files (recursion_from_All (λ (c : PathChange). IsPath c.path) cs order.each) (recursion_from_All (λ (f : MarkedFile). IsPath f.path) repo.files s.files.each));
    rising = changed_rising revision cs repo.files s.files.rising;
  };
  marks = changed_marks revision cs repo.files (all_weaker (λ (f : MarkedFile). f.changed ≤ repo.revision) (λ (f : MarkedFile). f.changed ≤ revision) (λ f h. omega arith) repo.files s.marks);
  branches = s.branches;
  branch_files = s.branch_files;
  requests = s.requests;
  moments = s.moments;
  based = s.based;
  deliveries = s.deliveries;
}

-- branches

found_put : {X : Type 0} (key : X → List ℕ) (name : List ℕ) (x : X) (xs : List X) → is_some (at key name xs) ≡ true → is_some (at key name (put key x xs)) ≡ true
found_put key name x [] h = absurd cc
found_put key name x (y ∷ ys) h =
    elim (cmp (key x) (key y)) as (λ o. cmp (key x) (key y) ≡ o → is_some (at key name (put_beside o x y ys (put key x ys))) ≡ true) [
      | Less ↦ λ is. elim (bytes_eq (key x) name) as (λ b. is_some (cond b (Some x) (at key name (y ∷ ys))) ≡ true) [ true ↦ refl | false ↦ h ]
      | Equal ↦ λ is.
          let same = bytes_true (key x) (key y) (same_texts (key x) (key y) is) in
          elim (bytes_eq (key y) name) as (λ b. bytes_eq (key y) name ≡ b → is_some (cond b (Some y) (at key name ys)) ≡ true → is_some (cond (bytes_eq (key x) name) (Some x) (at key name ys)) ≡ true) [
            | true ↦ λ e k. ap (λ b. is_some (cond b (Some x) (at key name ys))) (ap (λ n. bytes_eq n name) same ∙ e)
            | false ↦ λ e k. ap (λ b. is_some (cond b (Some x) (at key name ys))) (ap (λ n. bytes_eq n name) same ∙ e) ∙ k
          ] refl h
      | Greater ↦ λ is.
          elim (bytes_eq (key y) name) as (λ b. is_some (cond b (Some y) (at key name ys)) ≡ true → is_some (cond b (Some y) (at key name (put key x ys))) ≡ true) [
            | true ↦ λ k. refl
            | false ↦ λ k. found_put key name x ys k
          ] h
    ] refl

found_without : {X : Type 0} (key : X → List ℕ) (name gone : List ℕ) (xs : List X) → bytes_eq name gone ≡ false → is_some (at key name xs) ≡ true → is_some (at key name (without key gone xs)) ≡ true
found_without key name gone [] other h = absurd cc
found_without key name gone (x ∷ xs) other h =
    elim (bytes_eq (key x) gone) as (λ b. bytes_eq (key x) gone ≡ b → is_some (at key name (cond (not b) (x ∷ without key gone xs) (without key gone xs))) ≡ true) [
      | true ↦ λ is.
          let apart : bytes_eq (key x) name ≡ false = false_from_ne_true (bytes_eq (key x) name) (λ t.
          let e : name ≡ gone = sym (bytes_true (key x) name t) ∙ bytes_true (key x) gone is in
          both_ways (bytes_eq name gone) other (ap (λ n. bytes_eq n gone) e ∙ bytes_refl gone)) in
          found_without key name gone xs other (rw apart at h)
      | false ↦ λ is.
          elim (bytes_eq (key x) name) as (λ b. is_some (cond b (Some x) (at key name xs)) ≡ true → is_some (cond b (Some x) (at key name (without key gone xs))) ≡ true) [
            | true ↦ λ k. refl
            | false ↦ λ k. found_without key name gone xs other k
          ] h
    ] refl

-- requests

and_parts : (a b : Bool) → (a && b) ≡ true → (a ≡ true) × (b ≡ true)
and_parts true b e = (refl, e)
and_parts false b e = absurd cc

none_live : (name : List ℕ) (rs : List Request) → live_on name rs ≡ None → AllByRecursion (λ r. is_live_on name r ≡ false) rs
none_live name [] e = tt
none_live name (q ∷ qs) e =
    elim (is_live_on name q) as (λ b. is_live_on name q ≡ b → cond b (Some q) (live_on name qs) ≡ None → AllByRecursion (λ r. is_live_on name r ≡ false) (q ∷ qs)) [
      | true ↦ λ is h. absurd cc
      | false ↦ λ is h. (is, none_live name qs h)
    ] refl e

all_at_number : (P : Request → Type 0) (n : ℕ) (f : Request → Request) → ((q : Request) → P q → P (f q)) → (rs : List Request) → AllByRecursion P rs → AllByRecursion P (at_number n f rs)
all_at_number P n f h [] a = tt
all_at_number P n f h (q ∷ qs) a = (elim (eqb q.number n) as (λ b. P (cond b (f q) q)) [ true ↦ h q a.0 | false ↦ a.0 ], all_at_number P n f h qs a.1)

apart_at_number : (n : ℕ) (f : Request → Request) → ((r q : Request) → IsApart r q → IsApart r (f q)) → ((r q : Request) → IsApart r q → IsApart (f r) q) → (rs : List Request) → AreApart rs → AreApart (at_number n f rs)
apart_at_number n f right left [] a = tt
apart_at_number n f right left (q ∷ qs) a =
    let more = all_at_number (IsApart q) n f (right q) qs a.0 in (
      elim (eqb q.number n) as (λ b. AllByRecursion (IsApart (cond b (f q) q)) (at_number n f qs)) [
        | true ↦ all_weaker (IsApart q) (IsApart (f q)) (left q) (at_number n f qs) more
        | false ↦ more
      ],
      apart_at_number n f right left qs a.1,
    )

pub all_append : {X : Type 0} (P : X → Type 0) (xs : List X) (x : X) → AllByRecursion P xs → P x → AllByRecursion P (xs ++ x ∷ [])
all_append P [] x a h = (h, tt)
all_append P (y ∷ ys) x a h = (a.0, all_append P ys x a.1 h)

below_greatest : (rs : List Request) → AllByRecursion (λ (q : Request). q.number ≤ greatest rs) rs
below_greatest [] = tt
below_greatest (q ∷ qs) = (omega arith, all_weaker _ _ (λ (r : Request) (h : r.number ≤ greatest qs). let k : r.number ≤ max q.number (greatest qs) = omega arith in k) qs (below_greatest qs))

apart_push : (rs : List Request) (r : Request) → AllByRecursion (λ q. IsApart q r) rs → AreApart rs → AreApart (rs ++ r ∷ [])
apart_push [] r h a = (tt, tt)
apart_push (q ∷ qs) r h a = (all_append (IsApart q) qs r a.0 h.0, apart_push qs r h.1 a.1)

all_both : {X : Type 0} (P Q R : X → Type 0) → ((x : X) → P x → Q x → R x) → (xs : List X) → AllByRecursion P xs → AllByRecursion Q xs → AllByRecursion R xs
all_both P Q R h [] a b = tt
all_both P Q R h (x ∷ xs) a b = (h x a.0 b.0, all_both P Q R h xs a.1 b.1)

-- a new request stands apart from all
apart_new : (rs : List Request) (r : Request) → r.number ≡ next_number rs → live_on r.branch rs ≡ None → AreApart rs → AreApart (rs ++ r ∷ [])
apart_new rs r next none a =
    apart_push rs r
    (all_both (λ (q : Request). q.number ≤ greatest rs) (λ q. is_live_on r.branch q ≡ false) (λ q. IsApart q r)
    (λ q below other. record {
      rises = let k : q.number < r.number = omega arith in k;
      one_live = λ live. apart_live q r live other;
    }) rs (below_greatest rs) (none_live r.branch rs none)) a
  where
    apart_live : (q r : Request) → is_live q.state ≡ true → is_live_on r.branch q ≡ false → is_live_on q.branch r ≡ false
    apart_live q r live other = false_from_ne_true (is_live_on q.branch r) (λ t.
        let p = and_parts (is_live r.state) (bytes_eq r.branch q.branch) t in
        let e : bytes_eq q.branch r.branch ≡ true = ap (bytes_eq q.branch) (bytes_true r.branch q.branch p.1) ∙ bytes_refl q.branch in
        let both : is_live_on r.branch q ≡ true = rw (live, e) refl in
        both_ways (is_live_on r.branch q) other both)

-- what a refusal that does not come tells

pub record IsFree (branch : List ℕ) (repo : Repo) (otherwise : Option Refusal) : Type 0 where
  pub there : is_some (at name_of branch repo.branches) ≡ true
  pub free : live_on branch repo.requests ≡ None
  pub rest : otherwise ≡ None

pub free_of : (branch : List ℕ) (repo : Repo) (otherwise : Option Refusal) → refused_branch branch repo otherwise ≡ None → IsFree branch repo otherwise
free_of branch repo otherwise e =
    elim (is_some (at name_of branch repo.branches)) as (λ b. is_some (at name_of branch repo.branches) ≡ b → cond (not b) (Some NoBranch) (refused_live (live_on branch repo.requests) otherwise) ≡ None → IsFree branch repo otherwise) [
      | true ↦ λ is h.
          elim (live_on branch repo.requests) as (λ o. live_on branch repo.requests ≡ o → refused_live o otherwise ≡ None → IsFree branch repo otherwise) [
            | None ↦ λ free k. record { there = is; free = free; rest = k }
            | Some r ↦ λ live k. absurd cc
          ] refl h
      | false ↦ λ is h. absurd cc
    ] refl e

pub next_of : (number : ℕ) (rs : List Request) → cond (not (eqb number (next_number rs))) (Some (NumberTaken number)) None ≡ None → number ≡ next_number rs
next_of number rs e =
    elim (eqb number (next_number rs)) as (λ b. eqb number (next_number rs) ≡ b → cond {A = Option Refusal} (not b) (Some (NumberTaken number)) None ≡ None → number ≡ next_number rs) [
      | true ↦ λ is h. eqb-true _ _ is
      | false ↦ λ is h. absurd cc
    ] refl e

-- each kind

-- a request was made at a moment
abbrev IsMade : Request → Type 0
IsMade r = IsMoment r.made_at

pub sound_applied : (w : Write) (repo : Repo) → HasOrder w → refusal_in w repo ≡ None → IsSound repo → IsSound (applied_in w repo)
sound_applied (SetBase name changes) repo order e s = sound_base (repo.revision + 1) changes repo (omega arith) order s
sound_applied (PutBranch name branch) repo order e s = record {
  name = s.name;
  files = s.files;
  marks = s.marks;
  branches = rising_put name_of branch repo.branches s.branches;
  branch_files = all_put (λ b. AreInOrder (λ f. f.path) b.files) name_of branch repo.branches order s.branch_files;
  requests = s.requests;
  moments = s.moments;
  based = all_weaker (IsBased repo.branches) _ (λ r h live. found_put name_of r.branch branch repo.branches (h live)) repo.requests s.based;
  deliveries = s.deliveries;
}
sound_applied (DropBranch name branch) repo order e s =
    let f = free_of branch repo None e in record {
      name = s.name;
      files = s.files;
      marks = s.marks;
      branches = rising_filter name_of (λ b. not (bytes_eq (name_of b) branch)) repo.branches s.branches;
      branch_files = all_filter (λ b. AreInOrder (λ f. f.path) b.files) (λ b. not (bytes_eq (name_of b) branch)) repo.branches s.branch_files;
      requests = s.requests;
      moments = s.moments;
      based = all_both (IsBased repo.branches) (λ r. is_live_on branch r ≡ false) _
          (λ r h other live. found_without name_of r.branch branch repo.branches (let k : bytes_eq r.branch branch ≡ false = rw live at other in k) (h live))
          repo.requests s.based (none_live branch repo.requests f.free);
      deliveries = s.deliveries;
    }
sound_applied (OpenRequest name number branch updates title body labels made_at) repo order e s =
    let f = free_of branch repo _ e in
    let r : Request = record { number = number; branch = branch; updates = updates; title = title; body = body; labels = labels; made_at = made_at; state = Live } in record {
      name = s.name;
      files = s.files;
      marks = s.marks;
      branches = s.branches;
      branch_files = s.branch_files;
      requests = apart_new repo.requests r (next_of number repo.requests f.rest) f.free s.requests;
      moments = all_append IsMade repo.requests r s.moments order;
      based = all_append (IsBased repo.branches) repo.requests r s.based (λ live. f.there);
      deliveries = s.deliveries;
    }
sound_applied (EditRequest name number updates title body labels) repo order e s = record {
  name = s.name;
  files = s.files;
  marks = s.marks;
  branches = s.branches;
  branch_files = s.branch_files;
  requests = apart_at_number number (edited updates title body labels) (λ r q h. record { rises = h.rises; one_live = h.one_live }) (λ r q h. record { rises = h.rises; one_live = h.one_live }) repo.requests s.requests;
  moments = all_at_number IsMade number (edited updates title body labels) (λ q h. h) repo.requests s.moments;
  based = all_at_number (IsBased repo.branches) number (edited updates title body labels) (λ q h. h) repo.requests s.based;
  deliveries = s.deliveries;
}
sound_applied (Autoclose name number) repo order e s = record {
  name = s.name;
  files = s.files;
  marks = s.marks;
  branches = s.branches;
  branch_files = s.branch_files;
  requests = apart_at_number number autoclosed (λ r q h. record { rises = h.rises; one_live = λ live. refl }) (λ r q h. record { rises = h.rises; one_live = λ live. absurd cc }) repo.requests s.requests;
  moments = all_at_number IsMade number autoclosed (λ q h. h) repo.requests s.moments;
  based = all_at_number (IsBased repo.branches) number autoclosed (λ q h live. absurd cc) repo.requests s.based;
  deliveries = s.deliveries;
}
sound_applied (Finish name page) repo order e s = record {
  name = s.name;
  files = s.files;
  marks = s.marks;
  branches = s.branches;
  branch_files = s.branch_files;
  requests = s.requests;
  moments = s.moments;
  based = s.based;
  deliveries = s.deliveries;
}

sound_empty : (name : List ℕ) → IsRepositoryName name → IsSound (empty_repo name)
unfolding IsStrictlySortedBy
sound_empty name ok = record {
  name = ok;
  files = record { each = All-nil (λ (f : MarkedFile). IsPath f.path); rising = tt };
  marks = tt;
  branches = tt;
  branch_files = tt;
  requests = tt;
  moments = tt;
  based = tt;
  deliveries = tt;
}

sound_begun : (w : Write) → IsOrderly w → refusal_unknown w ≡ None → IsSound (begun w)
sound_begun (SetBase name changes) o e = sound_base 1 changes (empty_repo name) (omega arith) o.order (sound_empty name o.name)
sound_begun w o e = absurd cc

pub sound_to : (w : Write) (known : Option Repo) → IsOrderly w → refusal_to w known ≡ None → IfSome known IsSound → IsSound (applied_to w known)
sound_to w None o e s = sound_begun w o e
sound_to w (Some repo) o e s = sound_applied w repo o.order e s

-- what was applied is sound
pub sound_result : (w : Write) (known : Option Repo) (r : Result Repo ApplyError) → IsOrderly w → IfSome known IsSound → Applies r (refusal_to w known) (applied_to w known) → IfOk r IsSound
sound_result w known (Ok repo) o s a = rw a.1 (sound_to w known o a.0 s)
sound_result w known (Err e) o s a = tt

known_sound : (name : List ℕ) (store : List Repo) (o : Option Repo) → known name store ≡ o → AllByRecursion IsSound store → IfSome o IsSound
known_sound name store None e a = tt
known_sound name store (Some repo) e a = all_found IsSound (λ r. bytes_eq r.name name) store repo a e

pub sound_store : (w : Write) (store : List Repo) → IsOrderly w → IsPermitted w store → IsSoundStore store → IsSoundStore (applied w store)
sound_store w store o permitted s =
    let found = known (repo_of w) store in
    let sound = sound_to w found o permitted (known_sound (repo_of w) store found refl s.each) in record {
      repos = rising_put (λ r. r.name) (applied_to w found) store s.repos;
      each = all_put IsSound (λ r. r.name) (applied_to w found) store sound s.each;
    }

sound_after : (ws : List Write) (store : List Repo) → AllByRecursion IsOrderly ws → ArePermitted ws store → IsSoundStore store → IsSoundStore (after ws store)
sound_after [] store o p s = s
sound_after (w ∷ ws) store o p s = sound_after ws (applied w store) o.1 p.1 (sound_store w store o.0 p.0 s)

pub sound_from_nothing : (ws : List Write) → AllByRecursion IsOrderly ws → ArePermitted ws [] → IsSoundStore (after ws [])
unfolding IsStrictlySortedBy
sound_from_nothing ws o p = sound_after ws [] o p (record { repos = tt; each = tt })
