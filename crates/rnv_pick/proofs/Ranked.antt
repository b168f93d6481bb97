-- A ranked list: the first that passes a test is the greatest that does.
use Rattle.std.proofs.Common.{◌≡◌, ℕ, Bool, true, false, List, [], ◌∷◌, Option, Some, None, map, length, refl, sym, subst, ◌∙◌, ap, inl, inr}
use denote.Ref.{Bor}
use Rattle.std.specs.Prelude.{IsPermutation, MatchBool, is_none, is_some, not, option_map, unwrap_or}
use Rattle.std.specs.Cmp.{IsTotalOrder}
use Rattle.std.specs.List.{All, Contains, find}
use Rattle.std.specs.Ordering.{is_gt}
use Rattle.std.specs.declared.cmp.Ordering.{Ordering}
use Rattle.std.proofs.lemmas.Bool.{cases_Bool}
use Rattle.std.proofs.lemmas.List.Elements.{All-cons, All-head, All-nil, All-tail}
use Rattle.std.proofs.lemmas.List.Sorted.{All-permutation, IsPermutation-map}
use Rattle.rnv_release.specs.declared.release.Release.{Release}
use Rattle.rnv_version.specs.Numbering.{Numbering}
use Rattle.rnv_pick.specs.declared.live.Live.{Live}
use Rattle.rnv_pick.specs.Greatest.{IsBest, IsFalling, IsGreatest}
use Rattle.rnv_pick.specs.Listing.{IsGreatestIn, IsNamed, Listed, in_range, listed_cmp, listed_total, live_releases, text_of}
use Rattle.rnv_pick.specs.Ranking.{AreRanked, IsRanked, IsRankingOf}
use Rattle.rnv_pick.specs.Seen.{all_seen, seen, seen_at}
use Rattle.rnv_pick.specs.Updates.{IsCurrentIn}
use Rattle.rnv_pick.proofs.Among.{contains_cases, contains_first, contains_later, no_element}
use Rattle.rnv_pick.proofs.Falling.{first_greatest}
use Rattle.rnv_pick.proofs.Listings.{all_named}

-- one that does not pass stands before
later_best : {K : Type 0} (R : K → K → Ordering) (p : K → Bool) (x : K) (xs : List K) (best : Option K) → p x ≡ false → IsBest R p xs best → IsBest R p (x ∷ xs) best
later_best R p x xs None out none = λ c among. elim (contains_cases x xs c among) [
  | inl first ↦ subst (λ y. p y ≡ false) first out
  | inr after ↦ none c after
]
later_best R p x xs (Some best) out g = record {
  inside = (contains_later x xs best g.inside.0, g.inside.1);
  greatest = λ d both. elim (contains_cases x xs d both.0) [
    | inl first ↦ let passes = both.1 in let fails = subst (λ y. p y ≡ false) first out in absurd (cc (sym fails ∙ passes))
    | inr after ↦ g.greatest d (after, both.1)
  ];
}

pub first_best : {K : Type 0} (R : K → K → Ordering) → IsTotalOrder R → (p : K → Bool) (xs : List K) → IsFalling R xs → IsBest R p xs (find p xs)
first_best R o p [] falling = λ c among. absurd (no_element c among)
first_best R o p (x ∷ xs) falling = elim (cases_Bool (p x)) [
  | inl here ↦ rw here (record { inside = (contains_first x xs, here); greatest = λ d both. first_greatest R o x xs d falling both.0 })
  | inr out ↦ rw out (later_best R p x xs (find p xs) out (first_best R o p xs falling.1))
]

pub first_greatest_in : {V R : Type 0} (n : Numbering V R) → IsTotalOrder n.order → (range : R) (found : List (Listed V)) (first : Option (Listed V)) (text : Option (List ℕ)) → IsRanked n found
    → first ≡ find (in_range n range) found → text ≡ text_of first → IsGreatestIn n range found text
first_greatest_in n total range found first text ranked is text_is = record {
  best = first;
  is_best = subst (IsBest (listed_cmp n) (in_range n range) found) (sym is) (first_best (listed_cmp n) (listed_total n total) (in_range n range) found ranked.falling);
  text_is = text_is;
}

not_exact : (b : Bool) (P Q : Type 0) → b ≡ false → Q → MatchBool b P Q
not_exact true P Q is q = absurd (cc is)
not_exact false P Q is q = q

-- the current version of a value that is not exact
pub current_found : {V R : Type 0} (n : Numbering V R) (value : List ℕ) (range : R) (found : List (Listed V)) (text : Option (List ℕ)) → n.is_exact range ≡ false → IsGreatestIn n range found text
    → IsCurrentIn n value found (Some range) text
current_found n value range found text is greatest = not_exact (n.is_exact range) (text ≡ n.exact_text value) (IsGreatestIn n range found text) is greatest

-- what is found is seen as it stands
pub seen_of : {X : Type 0} (one : Option (Bor (Live X))) (there : Option (Live X)) → option_map (λ l. l.now) one ≡ there → seen_at one ≡ option_map seen there
seen_of None there is = ap (option_map seen) is
seen_of (Some l) there is = ap (option_map seen) is

pub find_seen : {X : Type 0} (p : Listed X → Bool) (found : List (Live X)) → option_map seen (find (λ l. p (seen l)) found) ≡ find p (map seen found)
find_seen p [] = refl
find_seen p (l ∷ ls) = elim (cases_Bool (p (seen l))) [
  | inl is_so ↦ rw is_so refl
  | inr not_so ↦ rw not_so (find_seen p ls)
]

-- ---- a document's releases

-- the order does not change what is seen of them
pub ranking_of : {V R : Type 0} (n : Numbering V R) (releases : List Release) (before after : List (Live V)) → map seen before ≡ live_releases n releases → IsPermutation before after
    → IsFalling (listed_cmp n) (map seen after) → IsRankingOf n releases (map seen after)
ranking_of {V} n releases before after live moved falling =
    let same = subst (λ (ls : List (Listed V)). IsPermutation ls (map seen after)) live (IsPermutation-map seen before after moved) in
    record {
      ranked = record { named = All-permutation (IsNamed n) (live_releases n releases) (map seen after) same (all_named n releases); falling = falling };
      same = same;
    }

-- what holds of what is seen of a list
of_seen : {X : Type 0} (P : Listed X → Type 0) (xs : List (Live X)) → All P (map seen xs) → All (λ l. P (seen l)) xs
of_seen P [] all = All-nil (λ l. P (seen l))
of_seen P (x ∷ xs) all = All-cons (λ l. P (seen l)) x xs (All-head P (seen x) (map seen xs) all) (of_seen P xs (All-tail P (seen x) (map seen xs) all))

pub all_named_of : {V R : Type 0} (n : Numbering V R) (found : List (Live V)) → IsRanked n (map seen found) → All (λ l. IsNamed n (seen l)) found
all_named_of n found ranked = of_seen (IsNamed n) found ranked.named

pub ranked_from : {V R : Type 0} (n : Numbering V R) (releases : Option (List Release)) (found : Option (List (Listed V))) → AreRanked n releases found → IsRanked n (unwrap_or found [])
ranked_from n releases None is = record { named = All-nil (IsNamed n); falling = tt }
ranked_from n None (Some found) is = absurd is
ranked_from n (Some releases) (Some found) is = is.ranked

pub none_seen : {X : Type 0} (found : Option (Bor (List (Live X)))) (is_missing : Bool) → is_some found ≡ not is_missing → is_missing ≡ is_none (all_seen found)
none_seen None true is = refl
none_seen None false is = cc is
none_seen (Some found) true is = cc is
none_seen (Some found) false is = refl
