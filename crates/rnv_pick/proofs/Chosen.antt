-- What is chosen by going through the releases from the greatest on.
use Rattle.std.proofs.Common.{◌≡◌, ◌⊎◌, ℕ, zero, suc, ◌<◌, Bool, true, false, List, [], ◌∷◌, Option, Some, None, length, drop, get_or, ◌+◌, ◌≤◌, refl, sym, subst, ◌∙◌, ap, inl, inr, arith}
use Rattle.std.specs.Prelude.{not, ◌&&◌, option_map, if◌then◌else◌}
use Rattle.std.specs.Cmp.{IsTotalOrder}
use Rattle.std.specs.List.{Contains}
use Rattle.std.specs.Ordering.{is_gt}
use Rattle.std.proofs.lemmas.Bool.{cases_Bool}
use Rattle.std.proofs.lemmas.List.{at_drop_all, at_drop_more}
use Rattle.rnv_version.specs.Numbering.{Numbering}
use Rattle.rnv_pick.specs.declared.allowance.Allowance.{Allowance}
use Rattle.rnv_pick.specs.declared.bucket.Bucket.{Bucket}
use Rattle.rnv_pick.specs.declared.choice.Choice.{Choice}
use Rattle.rnv_pick.specs.Allowing.{admits, allowance_of}
use Rattle.rnv_pick.specs.Buckets.{is_in}
use Rattle.rnv_pick.specs.Candidates.{Aim, Offer, is_above, kind_of, offer_cmp}
use Rattle.rnv_pick.specs.Choices.{InBucket, IsChosen, IsPendingChoice, IsReady, IsReadyChoice, choice_of, chosen_from, chosen_next, first_of, is_offered, is_old_enough, judged, offered}
use Rattle.rnv_pick.specs.Greatest.{IsFalling}
use Rattle.rnv_pick.specs.Listing.{Listed, listed_cmp, listed_total}
use Rattle.rnv_pick.specs.Options.{Options}
use Rattle.rnv_pick.proofs.Falling.{first_greatest}
use Rattle.rnv_pick.proofs.Among.{contains_cases, contains_first, contains_later, no_element}

-- what is asked for
pub record Asked (V R : Type 0) : Type 0 where
  pub n : Numbering V R
  pub o : Options
  pub moment : ℕ
  pub aim : Aim V
  pub b : Bucket
  pub allowance : Allowance R

abbrev pub from : {V R : Type 0} → Asked V R → Option Choice → List (Listed V) → Option Choice
from k top cs = chosen_from k.n k.o k.moment k.aim k.b k.allowance top cs

abbrev at : {V R : Type 0} → Asked V R → Listed V → Option Choice
at k c = offered k.n k.o k.moment k.aim k.b k.allowance c

abbrev offers : {V R : Type 0} → Asked V R → Listed V → Bool
offers k c = is_offered k.n k.aim k.b k.allowance c

abbrev offer : {V : Type 0} → Listed V → List ℕ → Offer V
offer c text = record { listed = c; new_value = text }

abbrev new_text : {V R : Type 0} → Asked V R → Listed V → Option (List ℕ)
new_text k c = k.n.new_text k.aim.options.strategy k.aim.dep.value c.release.text

abbrev is_old : {V R : Type 0} → Asked V R → Offer V → Bool
is_old k c = is_old_enough k.n k.o k.moment k.aim c

-- a release that is wanted and of the bucket, and its new text
record Fits {V R : Type 0} (k : Asked V R) (c : Offer V) : Type 0 where
  inside : offers k c.listed ≡ true
  text : new_text k c.listed ≡ Some c.new_value

-- ---- one release

record Has {V R : Type 0} (k : Asked V R) (c : Listed V) : Type 0 where
  text : List ℕ
  is : at k c ≡ Some (judged k.n k.o k.moment k.aim c text)
  fits : Fits k (offer c text)

abbrev HasNone : {V R : Type 0} → Asked V R → Listed V → Type 0
HasNone {V} k c = (at k c ≡ None) × ((d : Offer V) → d.listed ≡ c → ¬ Fits k d)

inside_case : {V R : Type 0} (k : Asked V R) (c : Listed V) (t : Option (List ℕ)) → offers k c ≡ true → new_text k c ≡ t → HasNone k c ⊎ Has k c
inside_case {V} k c None inside is =
    inl (rw (inside, is) refl, λ d same fits. let here : new_text k c ≡ Some d.new_value = subst (λ (x : Listed V). new_text k x ≡ Some d.new_value) same fits.text in cc (sym is ∙ here))
inside_case k c (Some text) inside is = inr (record { text = text; is = rw (inside, is) refl; fits = record { inside = inside; text = is } })

one_case : {V R : Type 0} (k : Asked V R) (c : Listed V) → HasNone k c ⊎ Has k c
one_case {V} k c = elim (cases_Bool (offers k c)) [
  | inl inside ↦ inside_case k c (new_text k c) inside refl
  | inr out ↦ inl (rw out refl, λ d same fits. let here = subst (λ (x : Listed V). offers k x ≡ true) same fits.inside in cc (sym out ∙ here))
]

-- ---- the releases from some place on

-- a fitting one among them
record In {V R : Type 0} (k : Asked V R) (cs : List (Listed V)) (c : Offer V) : Type 0 where
  among : Contains cs c.listed
  fits : Fits k c

abbrev NoneReady : {V R : Type 0} → Asked V R → List (Listed V) → Type 0
NoneReady {V} k cs = (d : Offer V) → In k cs d → is_old k d ≡ true → ⊥

record ReadyIn {V R : Type 0} (k : Asked V R) (cs : List (Listed V)) (choice : Choice) : Type 0 where
  one : Offer V
  inside : In k cs one
  old : is_old k one ≡ true
  greatest : (d : Offer V) → In k cs d → is_old k d ≡ true → is_gt (offer_cmp k.n d one) ≡ false
  same : choice ≡ choice_of k.n k.o k.aim false one

record PendingIn {V R : Type 0} (k : Asked V R) (cs : List (Listed V)) (choice : Choice) : Type 0 where
  none : NoneReady k cs
  one : Offer V
  inside : In k cs one
  greatest : (d : Offer V) → In k cs d → is_gt (offer_cmp k.n d one) ≡ false
  same : choice ≡ choice_of k.n k.o k.aim true one

later : {V R : Type 0} (k : Asked V R) (c : Listed V) (cs : List (Listed V)) (d : Offer V) → In k cs d → In k (c ∷ cs) d
later k c cs d inside = record { among = contains_later c cs d.listed inside.among; fits = inside.fits }

-- two that fit of one release are one
same_offer : {V R : Type 0} (k : Asked V R) (c : Listed V) (text : List ℕ) (d : Offer V) → Fits k (offer c text) → Fits k d → c ≡ d.listed → offer c text ≡ d
same_offer {V} k c text d fits also same =
    let some : Some text ≡ Some d.new_value = sym fits.text ∙ ap (new_text k) same ∙ also.text in
    let value : text ≡ d.new_value = cc some in
    ap (λ x. offer x text) same ∙ ap (λ x. offer d.listed x) value

-- without the first, which does not fit
past_none : {V R : Type 0} (k : Asked V R) (c : Listed V) (cs : List (Listed V)) (d : Offer V) → HasNone k c → In k (c ∷ cs) d → In k cs d
past_none k c cs d none inside = elim (contains_cases c cs d.listed inside.among) [
  | inl first ↦ absurd (none.1 d (sym first) inside.fits)
  | inr after ↦ record { among = after; fits = inside.fits }
]

-- without the first, which is not old enough
past_pending : {V R : Type 0} (k : Asked V R) (c : Listed V) (cs : List (Listed V)) (d : Offer V) (has : Has k c) → is_old k (offer c has.text) ≡ false → In k (c ∷ cs) d
    → is_old k d ≡ true → In k cs d
past_pending k c cs d has young inside old = elim (contains_cases c cs d.listed inside.among) [
  | inl first ↦
      let same = same_offer k c has.text d has.fits inside.fits first in
      let here = ap (is_old k) same ∙ old in
      cc (sym young ∙ here)
  | inr after ↦ record { among = after; fits = inside.fits }
]

from_none : {V R : Type 0} (k : Asked V R) (top : Option Choice) (c : Listed V) (cs : List (Listed V)) → at k c ≡ None → from k top (c ∷ cs) ≡ from k top cs
unfolding chosen_from
from_none k top c cs is = ap (λ (q : Option Choice). chosen_next top q (λ t. from k t cs)) is

abbrev by_age : Option Choice → Choice → (Option Choice → Option Choice) → Bool → Option Choice
by_age top next rest old = if not old then rest (Some (first_of top next)) else Some next

from_some : {V R : Type 0} (k : Asked V R) (top : Option Choice) (c : Listed V) (cs : List (Listed V)) (has : Has k c) (old : Bool) → is_old k (offer c has.text) ≡ old
    → from k top (c ∷ cs) ≡ by_age top (judged k.n k.o k.moment k.aim c has.text) (λ t. from k t cs) old
unfolding chosen_from
from_some k top c cs has old is =
    ap (λ (q : Option Choice). chosen_next top q (λ t. from k t cs)) has.is
    ∙ ap (λ (q : Bool). by_age top (judged k.n k.o k.moment k.aim c has.text) (λ t. from k t cs) q) is

from_end : {V R : Type 0} (k : Asked V R) (top : Option Choice) → from k top [] ≡ top
unfolding chosen_from
from_end k top = refl

-- ---- the loop

abbrev pub asked : {V R : Type 0} → Numbering V R → Options → ℕ → Aim V → Bucket → Allowance R → Asked V R
asked n o moment aim b allowance = record { n = n; o = o; moment = moment; aim = aim; b = b; allowance = allowance }

step_from : {V R : Type 0} (k : Asked V R) (top : Option Choice) (xs : List (Listed V)) (i : ℕ) (c : Listed V) (q : Option Choice) → c ≡ get_or xs i c → i < length xs → q ≡ at k c
    → chosen_next top q (λ t. from k t (drop (i + 1) xs)) ≡ from k top (drop i xs)
unfolding chosen_from
step_from {V} k top xs i c q here within is =
    ap (λ (o : Option Choice). chosen_next top o (λ t. from k t (drop (i + 1) xs))) (is ∙ ap (at k) here)
    ∙ sym (at_drop_more (from k top) xs i c within)

pub step_none : {V R : Type 0} (k : Asked V R) (top : Option Choice) (xs : List (Listed V)) (i : ℕ) (c : Listed V) (q : Option Choice) → c ≡ get_or xs i c → i < length xs
    → q ≡ at k c → q ≡ None → from k top (drop (i + 1) xs) ≡ from k top (drop i xs)
step_none k top xs i c q here within is none =
    ap (λ (o : Option Choice). chosen_next top o (λ t. from k t (drop (i + 1) xs))) (sym none) ∙ step_from k top xs i c q here within is

abbrev by_pending : Option Choice → Choice → (Option Choice → Option Choice) → Bool → Option Choice
by_pending top next rest pending = if pending then rest (Some (first_of top next)) else Some next

not_true : (b : Bool) → not b ≡ true → b ≡ false
not_true true h = cc h
not_true false h = refl

not_false : (b : Bool) → not b ≡ false → b ≡ true
not_false true h = refl
not_false false h = cc h

pub step_ready : {V R : Type 0} (k : Asked V R) (top : Option Choice) (xs : List (Listed V)) (i : ℕ) (c : Listed V) (q : Option Choice) (next : Choice) → c ≡ get_or xs i c
    → i < length xs → q ≡ at k c → q ≡ Some next → not next.pending ≡ true → Some next ≡ from k top (drop i xs)
step_ready k top xs i c q next here within is some ready =
    ap (by_pending top next (λ t. from k t (drop (i + 1) xs))) (sym (not_true next.pending ready))
    ∙ ap (λ (o : Option Choice). chosen_next top o (λ t. from k t (drop (i + 1) xs))) (sym some) ∙ step_from k top xs i c q here within is

pub step_pending : {V R : Type 0} (k : Asked V R) (top : Option Choice) (xs : List (Listed V)) (i : ℕ) (c : Listed V) (q : Option Choice) (next : Choice) → c ≡ get_or xs i c
    → i < length xs → q ≡ at k c → q ≡ Some next → not next.pending ≡ false → from k (Some (first_of top next)) (drop (i + 1) xs) ≡ from k top (drop i xs)
step_pending k top xs i c q next here within is some pending =
    ap (by_pending top next (λ t. from k t (drop (i + 1) xs))) (sym (not_false next.pending pending))
    ∙ ap (λ (o : Option Choice). chosen_next top o (λ t. from k t (drop (i + 1) xs))) (sym some) ∙ step_from k top xs i c q here within is

pub step_end : {V R : Type 0} (k : Asked V R) (top : Option Choice) (xs : List (Listed V)) (i : ℕ) → length xs ≤ i → from k top (drop i xs) ≡ top
step_end k top xs i h = at_drop_all (from k top) xs i h ∙ from_end k top

judged_is : {V R : Type 0} (k : Asked V R) (c : Listed V) (text : List ℕ) (old : Bool) → is_old k (offer c text) ≡ old
    → judged k.n k.o k.moment k.aim c text ≡ choice_of k.n k.o k.aim (not old) (offer c text)
judged_is k c text old is = ap (λ (q : Bool). choice_of k.n k.o k.aim (not q) (offer c text)) is

-- the first is old enough
first_ready : {V R : Type 0} (k : Asked V R) → IsTotalOrder k.n.order → (c : Listed V) (cs : List (Listed V)) (has : Has k c) → is_old k (offer c has.text) ≡ true
    → IsFalling (listed_cmp k.n) (c ∷ cs) → ReadyIn k (c ∷ cs) (judged k.n k.o k.moment k.aim c has.text)
first_ready k total c cs has old falling = record {
  one = offer c has.text;
  inside = record { among = contains_first c cs; fits = has.fits };
  old = old;
  greatest = λ d inside also. first_greatest (listed_cmp k.n) (listed_total k.n total) c cs d.listed falling inside.among;
  same = judged_is k c has.text true old;
}

-- ---- with a first one that is pending

abbrev Stays : {V R : Type 0} → Asked V R → Choice → List (Listed V) → Type 0
Stays k t cs = (from k (Some t) cs ≡ Some t) × NoneReady k cs

abbrev Turns : {V R : Type 0} → Asked V R → Choice → List (Listed V) → Type 0
Turns k t cs = (choice : Choice) × (from k (Some t) cs ≡ Some choice) × ReadyIn k cs choice

ready_later : {V R : Type 0} (k : Asked V R) (c : Listed V) (cs : List (Listed V)) (choice : Choice)
    → ((d : Offer V) → In k (c ∷ cs) d → is_old k d ≡ true → In k cs d) → ReadyIn k cs choice → ReadyIn k (c ∷ cs) choice
ready_later k c cs choice past ready = record {
  one = ready.one;
  inside = later k c cs ready.one ready.inside;
  old = ready.old;
  greatest = λ d inside old. ready.greatest d (past d inside old) old;
  same = ready.same;
}

after_first : {V R : Type 0} (k : Asked V R) → IsTotalOrder k.n.order → (t : Choice) (cs : List (Listed V)) → IsFalling (listed_cmp k.n) cs → Stays k t cs ⊎ Turns k t cs
after_first k total t [] falling = inl (from_end k (Some t), λ d inside old. no_element d.listed inside.among)
after_first k total t (c ∷ cs) falling =
    let rest = after_first k total t cs falling.1 in
    elim (one_case k c) [
      | inl none ↦ elim rest [
        | inl stays ↦ inl (from_none k (Some t) c cs none.0 ∙ stays.0, λ d inside old. stays.1 d (past_none k c cs d none inside) old)
        | inr turns ↦ inr (turns.0, from_none k (Some t) c cs none.0 ∙ turns.1, ready_later k c cs turns.0 (λ d inside old. past_none k c cs d none inside) turns.2)
      ]
      | inr has ↦ elim (cases_Bool (is_old k (offer c has.text))) [
        | inl old ↦ inr (judged k.n k.o k.moment k.aim c has.text, from_some k (Some t) c cs has true old, first_ready k total c cs has old falling)
        | inr young ↦ elim rest [
          | inl stays ↦ inl (from_some k (Some t) c cs has false young ∙ stays.0, λ d inside old. stays.1 d (past_pending k c cs d has young inside old) old)
          | inr turns ↦ inr (turns.0, from_some k (Some t) c cs has false young ∙ turns.1, ready_later k c cs turns.0 (λ d inside old. past_pending k c cs d has young inside old) turns.2)
        ]
      ]
    ]

-- ---- from the front

abbrev ChosenIn : {V R : Type 0} → Asked V R → List (Listed V) → Option Choice → Type 0
ChosenIn {V} k cs None = (d : Offer V) → ¬ In k cs d
ChosenIn k cs (Some choice) = ReadyIn k cs choice ⊎ PendingIn k cs choice

-- the first is pending and none after it is ready
first_pending : {V R : Type 0} (k : Asked V R) → IsTotalOrder k.n.order → (c : Listed V) (cs : List (Listed V)) (has : Has k c) → is_old k (offer c has.text) ≡ false
    → IsFalling (listed_cmp k.n) (c ∷ cs) → NoneReady k cs → PendingIn k (c ∷ cs) (judged k.n k.o k.moment k.aim c has.text)
first_pending k total c cs has young falling none = record {
  none = λ d inside old. none d (past_pending k c cs d has young inside old) old;
  one = offer c has.text;
  inside = record { among = contains_first c cs; fits = has.fits };
  greatest = λ d inside. first_greatest (listed_cmp k.n) (listed_total k.n total) c cs d.listed falling inside.among;
  same = judged_is k c has.text false young;
}

chosen_later : {V R : Type 0} (k : Asked V R) (c : Listed V) (cs : List (Listed V)) (choice : Option Choice) → HasNone k c → ChosenIn k cs choice → ChosenIn k (c ∷ cs) choice
chosen_later k c cs None none chosen = λ d inside. chosen d (past_none k c cs d none inside)
chosen_later k c cs (Some choice) none chosen = elim chosen [
  | inl ready ↦ inl (ready_later k c cs choice (λ d inside old. past_none k c cs d none inside) ready)
  | inr pending ↦ inr (record {
    none = λ d inside old. pending.none d (past_none k c cs d none inside) old;
    one = pending.one;
    inside = later k c cs pending.one pending.inside;
    greatest = λ d inside. pending.greatest d (past_none k c cs d none inside);
    same = pending.same;
  })
]

chosen_in : {V R : Type 0} (k : Asked V R) → IsTotalOrder k.n.order → (cs : List (Listed V)) → IsFalling (listed_cmp k.n) cs → ChosenIn k cs (from k None cs)
chosen_in k total [] falling = subst (ChosenIn k []) (sym (from_end k None)) (λ d inside. no_element d.listed inside.among)
chosen_in k total (c ∷ cs) falling =
    let rest = chosen_in k total cs falling.1 in
    elim (one_case k c) [
      | inl none ↦ subst (ChosenIn k (c ∷ cs)) (sym (from_none k None c cs none.0)) (chosen_later k c cs (from k None cs) none rest)
      | inr has ↦ elim (cases_Bool (is_old k (offer c has.text))) [
        | inl old ↦ subst (ChosenIn k (c ∷ cs)) (sym (from_some k None c cs has true old)) (inl (first_ready k total c cs has old falling))
        | inr young ↦
            let is = from_some k None c cs has false young in
            elim (after_first k total (judged k.n k.o k.moment k.aim c has.text) cs falling.1) [
              | inl stays ↦ subst (ChosenIn k (c ∷ cs)) (sym (is ∙ stays.0)) (inr (first_pending k total c cs has young falling stays.1))
              | inr turns ↦ subst (ChosenIn k (c ∷ cs)) (sym (is ∙ turns.1)) (inl (ready_later k c cs turns.0 (λ d inside old. past_pending k c cs d has young inside old) turns.2))
            ]
      ]
    ]

-- ---- all the candidates

-- the versions that the options allow
abbrev Allows : {V R : Type 0} → Asked V R → Type 0
Allows k = k.allowance ≡ allowance_of k.n k.aim.options.allowed

offered_from : (a b c : Bool) → (a && c) ≡ true → b ≡ true → (a && b && c) ≡ true
offered_from true true true wanted inside = refl
offered_from true true false wanted inside = wanted
offered_from true false c wanted inside = absurd (cc inside)
offered_from false b c wanted inside = wanted

wanted_from : (a b c : Bool) → (a && b && c) ≡ true → (a && c) ≡ true
wanted_from true true c offered = offered
wanted_from true false c offered = absurd (cc offered)
wanted_from false b c offered = offered

inside_from : (a b c : Bool) → (a && b && c) ≡ true → b ≡ true
inside_from true true c offered = refl
inside_from true false c offered = absurd (cc offered)
inside_from false b c offered = absurd (cc offered)

module _ {V R : Type 0} (k : Asked V R) (allows : Allows k) where
  abbrev above : Listed V → Bool
  above c = is_above k.n k.aim.start c.version

  abbrev inside : Listed V → Bool
  inside c = is_in k.b (kind_of k.n k.aim c)

  abbrev admitted : Listed V → Allowance R → Bool
  admitted c allowance = admits k.n allowance c.release.text c.version

  in_list : (found : List (Listed V)) (d : Offer V) → InBucket k.n k.aim found k.b d → In k found d
  in_list found d b =
      let wanted = subst (λ (x : Allowance R). (above d.listed && admitted d.listed x) ≡ true) (sym allows) b.candidate.wanted in
      record {
        among = b.candidate.among;
        fits = record { inside = offered_from (above d.listed) (inside d.listed) (admitted d.listed k.allowance) wanted b.inside; text = b.candidate.new_value };
      }

  in_bucket : (found : List (Listed V)) (d : Offer V) → In k found d → InBucket k.n k.aim found k.b d
  in_bucket found d i =
      let wanted = wanted_from (above d.listed) (inside d.listed) (admitted d.listed k.allowance) i.fits.inside in
      record {
        candidate = record {
          among = i.among;
          wanted = subst (λ (x : Allowance R). (above d.listed && admitted d.listed x) ≡ true) allows wanted;
          new_value = i.fits.text;
        };
        inside = inside_from (above d.listed) (inside d.listed) (admitted d.listed k.allowance) i.fits.inside;
      }

  chosen_of : (found : List (Listed V)) (choice : Option Choice) → ChosenIn k found choice → IsChosen k.n k.o k.moment k.aim found k.b choice
  chosen_of found None chosen = λ d b. chosen d (in_list found d b)
  chosen_of found (Some choice) chosen = elim chosen [
    | inl ready ↦ inl (record {
      offer = ready.one;
      greatest = record {
        inside = record { in_bucket = in_bucket found ready.one ready.inside; old = ready.old };
        greatest = λ d r. ready.greatest d (in_list found d r.in_bucket) r.old;
      };
      same = ready.same;
    })
    | inr pending ↦ inr (record {
      none = λ d r. pending.none d (in_list found d r.in_bucket) r.old;
      offer = pending.one;
      greatest = record {
        inside = in_bucket found pending.one pending.inside;
        greatest = λ d b. pending.greatest d (in_list found d b);
      };
      same = pending.same;
    })
  ]

  pub is_chosen : IsTotalOrder k.n.order → (found : List (Listed V)) → IsFalling (listed_cmp k.n) found → IsChosen k.n k.o k.moment k.aim found k.b (from k None found)
  is_chosen total found falling = chosen_of found (from k None found) (chosen_in k total found falling)
