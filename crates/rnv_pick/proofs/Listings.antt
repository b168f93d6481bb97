-- One more of the releases or versions that a loop goes over.
use Rattle.std.proofs.Common.{◌≡◌, true, false, ℕ, ◌+◌, ◌<◌, List, [], ◌∷◌, ◌++◌, Bool, Option, Some, None, length, take, map, get_or, refl, sym, subst, ◌∙◌, ap, add-one, inl, inr}
use Rattle.std.specs.Prelude.{if◌then◌else◌, option_map}
use Rattle.std.specs.Cmp.{IsTotalOrder}
use Rattle.std.specs.List.{All, cons_option, filter_map}
use Rattle.std.specs.Option.{option_to_list}
use Rattle.std.proofs.Math.Seq.{take-suc}
use Rattle.std.proofs.lemmas.Bool.{cases_Bool}
use Rattle.std.proofs.lemmas.List.{get_or-map, length-map, map_more}
use Rattle.std.proofs.lemmas.List.Elements.{All-nil, All-cons, filter_map-append}
use Rattle.rnv_release.specs.declared.release.Release.{Release}
use Rattle.rnv_version.specs.Numbering.{Numbering}
use Rattle.rnv_pick.specs.declared.live.Live.{Live}
use Rattle.rnv_pick.specs.Listing.{IsNamed, Listed, in_range, listed_as, listed_cmp, listed_of, listed_total, live_releases, live_version}
use Rattle.rnv_pick.specs.Seen.{seen}

-- ---- releases

-- what the last element gives
last_one : {X Y : Type 0} (f : X → Option Y) (x : X) (o : Option Y) → f x ≡ o → filter_map f (x ∷ []) ≡ option_to_list o
last_one f x None e = rw e refl
last_one f x (Some y) e = rw e refl

map_one : {X Y : Type 0} (f : X → Option Y) (xs : List X) (x : X) → filter_map f (xs ++ x ∷ []) ≡ filter_map f xs ++ option_to_list (f x)
map_one f xs x = filter_map-append f xs (x ∷ []) ∙ ap (λ ys. filter_map f xs ++ ys) (last_one f x (f x) refl)

pub listed_step : {V R : Type 0} (n : Numbering V R) (yielded : List Release) (r : Release) (version : Option V) (before after : List (Listed V))
    → before ≡ live_releases n yielded → version ≡ live_version n r → after ≡ before ++ option_to_list (listed_as r version) → after ≡ live_releases n (yielded ++ r ∷ [])
listed_step {V} n yielded r version before after so_far is more =
    more ∙ ap (λ (b : List (Listed V)). b ++ option_to_list (listed_as r version)) so_far
    ∙ ap (λ (v : Option V). live_releases n yielded ++ option_to_list (listed_as r v)) is ∙ sym (map_one (listed_of n) yielded r)

-- ---- each is named by its text

named_as : {V R : Type 0} (n : Numbering V R) (r : Release) (v : Option V) (c : Listed V) → n.version_of r.text ≡ v → listed_as r v ≡ Some c → IsNamed n c
named_as n r None c e is = cc is
named_as {V} n r (Some v) c e is =
    let made : Listed V = record { release = r; version = v } in
    let same : made ≡ c = cc is in
    subst (IsNamed n) same e

named_of : {V R : Type 0} (n : Numbering V R) (r : Release) (c : Listed V) → listed_of n r ≡ Some c → IsNamed n c
named_of {V} n r c is = elim (cases_Bool r.yanked) [
  | inl yanked ↦
      let missing : Option V = None in
      let none : listed_as r missing ≡ Some c = subst (λ (q : Bool). listed_as r (if q then None else n.version_of r.text) ≡ Some c) yanked is in
      cc none
  | inr kept ↦ named_as n r (n.version_of r.text) c refl (subst (λ (q : Bool). listed_as r (if q then None else n.version_of r.text) ≡ Some c) kept is)
]

one_more_named : {V R : Type 0} (n : Numbering V R) (r : Release) (o : Option (Listed V)) (found : List (Listed V)) → listed_of n r ≡ o → All (IsNamed n) found
    → All (IsNamed n) (cons_option o found)
one_more_named n r None found e named = named
one_more_named n r (Some c) found e named = All-cons (IsNamed n) c found (named_of n r c e) named

pub all_named : {V R : Type 0} (n : Numbering V R) (releases : List Release) → All (IsNamed n) (live_releases n releases)
all_named n [] = All-nil (IsNamed n)
all_named n (r ∷ rest) = one_more_named n r (listed_of n r) (live_releases n rest) refl (all_named n rest)

-- ---- what is seen of a list

pub seen_here : {X : Type 0} (found : List (Live X)) (i : ℕ) (l : Live X) → l ≡ get_or found i l → i < length found → seen l ≡ get_or (map seen found) i (seen l)
seen_here found i l here within = ap seen here ∙ sym (get_or-map seen found i l (seen l) within)

pub seen_length : {X : Type 0} (found : List (Live X)) → length (map seen found) ≡ length found
seen_length found = length-map found seen
