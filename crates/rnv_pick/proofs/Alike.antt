-- What is picked depends on which versions a document has, and not on their order.
use Rattle.std.proofs.Common.{◌≡◌, ◌⊎◌, ℕ, Bool, true, false, List, [], ◌∷◌, Option, Some, None, is_none, map, refl, sym, subst, ◌∙◌, ap, inl, inr}
use Rattle.std.specs.Prelude.{IsPermutation, MatchBool, not, ◌&&◌, unwrap_or}
use Rattle.std.specs.List.{Contains}
use Rattle.std.specs.declared.cmp.Ordering.{Ordering}
use Rattle.std.proofs.lemmas.List.Sorted.{Contains-permutation, IsPermutation-sym}
use Rattle.rnv_release.specs.declared.release.Release.{Release}
use Rattle.rnv_version.specs.Numbering.{Numbering}
use Rattle.rnv_pick.specs.declared.bucket.Bucket.{Bucket}
use Rattle.rnv_pick.specs.declared.choice.Choice.{Choice}
use Rattle.rnv_pick.specs.declared.dep.Dep.{Dep}
use Rattle.rnv_pick.specs.declared.options.DepOptions.{DepOptions}
use Rattle.rnv_pick.specs.declared.update.Picked.{Picked}
use Rattle.rnv_pick.specs.declared.update.Skip.{Skip}
use Rattle.rnv_pick.specs.declared.update.Update.{Update}
use Rattle.rnv_pick.specs.Candidates.{Aim, IsCandidate, Offer}
use Rattle.rnv_pick.specs.Choices.{InBucket, IsChosen, IsReady}
use Rattle.rnv_pick.specs.Greatest.{IsBest}
use Rattle.rnv_pick.specs.Listing.{IsGreatestIn, Listed, in_range, listed_cmp, live_releases}
use Rattle.rnv_pick.specs.Options.{Options, with_current}
use Rattle.rnv_pick.specs.Ranking.{AreRanked, IsRankingOf}
use Rattle.rnv_pick.specs.Updates.{AreChosen, AreToChosen, AreUnlessSkipped, AreUpdates, AreUpdatesAt, IsCurrentIn, IsPicked, IsPickedOf, is_pin, pin_updates, start_of}

-- the same elements
record AreAlike {K : Type 0} (xs ys : List K) : Type 0 where
  to : (c : K) → Contains xs c → Contains ys c
  from : (c : K) → Contains ys c → Contains xs c

alike : {K : Type 0} (xs ys : List K) → IsPermutation xs ys → AreAlike xs ys
alike xs ys same = record {
  to = λ c among. Contains-permutation xs ys c same among;
  from = λ c among. Contains-permutation ys xs c (IsPermutation-sym xs ys same) among;
}

match_next : (b : Bool) (P Q R : Type 0) → (Q → R) → MatchBool b P Q → MatchBool b P R
match_next true P Q R next is = is
match_next false P Q R next is = next is

best : {K : Type 0} (R : K → K → Ordering) (p : K → Bool) (xs ys : List K) (b : Option K) → AreAlike xs ys → IsBest R p xs b → IsBest R p ys b
best R p xs ys None a none = λ c among. none c (a.from c among)
best R p xs ys (Some b) a g = record { inside = (a.to b g.inside.0, g.inside.1); greatest = λ d both. g.greatest d (a.from d both.0, both.1) }

module _ {V R : Type 0} (n : Numbering V R) (xs ys : List (Listed V)) (a : AreAlike xs ys) where
  current : (value : List ℕ) (range : Option R) (text : Option (List ℕ)) → IsCurrentIn n value xs range text → IsCurrentIn n value ys range text
  current value None text is = is
  current value (Some range) text is =
      match_next (n.is_exact range) (text ≡ n.exact_text value) (IsGreatestIn n range xs text) (IsGreatestIn n range ys text)
      (λ (g : IsGreatestIn n range xs text). record { best = g.best; is_best = best (listed_cmp n) (in_range n range) xs ys g.best a g.is_best; text_is = g.text_is }) is

  module _ (o : Options) (moment : ℕ) where
    module _ (aim : Aim V) where
      bucket_to : (b : Bucket) (c : Offer V) → InBucket n aim xs b c → InBucket n aim ys b c
      bucket_to b c is = record {
        candidate = record { among = a.to c.listed is.candidate.among; wanted = is.candidate.wanted; new_value = is.candidate.new_value };
        inside = is.inside;
      }

      bucket_from : (b : Bucket) (c : Offer V) → InBucket n aim ys b c → InBucket n aim xs b c
      bucket_from b c is = record {
        candidate = record { among = a.from c.listed is.candidate.among; wanted = is.candidate.wanted; new_value = is.candidate.new_value };
        inside = is.inside;
      }

      ready_from : (b : Bucket) (c : Offer V) → IsReady n o moment aim ys b c → IsReady n o moment aim xs b c
      ready_from b c is = record { in_bucket = bucket_from b c is.in_bucket; old = is.old }

      chosen : (b : Bucket) (choice : Option Choice) → IsChosen n o moment aim xs b choice → IsChosen n o moment aim ys b choice
      chosen b None none = λ c is. none c (bucket_from b c is)
      chosen b (Some choice) is = elim is [
        | inl ready ↦ inl (record {
          offer = ready.offer;
          greatest = record {
            inside = record { in_bucket = bucket_to b ready.offer ready.greatest.inside.in_bucket; old = ready.greatest.inside.old };
            greatest = λ d r. ready.greatest.greatest d (ready_from b d r);
          };
          same = ready.same;
        })
        | inr pending ↦ inr (record {
          none = λ c r. pending.none c (ready_from b c r);
          offer = pending.offer;
          greatest = record {
            inside = bucket_to b pending.offer pending.greatest.inside;
            greatest = λ d r. pending.greatest.greatest d (bucket_from b d r);
          };
          same = pending.same;
        })
      ]

      all_chosen : (bs : List Bucket) (cs : List (Option Choice)) → AreChosen n o moment aim xs bs cs → AreChosen n o moment aim ys bs cs
      all_chosen [] [] is = tt
      all_chosen [] (c ∷ cs) is = absurd is
      all_chosen (b ∷ bs) [] is = absurd is
      all_chosen (b ∷ bs) (c ∷ cs) is = (chosen b c is.0, all_chosen bs cs is.1)

      to_chosen : (us : List Update) → AreToChosen n o moment aim xs us → AreToChosen n o moment aim ys us
      to_chosen us is = record { choices = is.choices; chosen = all_chosen _ is.choices is.chosen; same = is.same; rising = is.rising }

    module _ (dep : Dep) where
      abbrev aim_at : DepOptions → R → V → Aim V
      aim_at options range version = record { dep = dep; options = options; start = start_of n options dep.value range version }

      updates_at : (options : DepOptions) (range : R) (text : List ℕ) (version : Option V) (us : List Update) → AreUpdatesAt n o moment dep options xs range text version us
          → AreUpdatesAt n o moment dep options ys range text version us
      updates_at options range text None us is = is
      updates_at options range text (Some version) us is =
          match_next (is_pin options.strategy && not (n.is_exact range)) (us ≡ pin_updates n o dep options text) (AreToChosen n o moment (aim_at options range version) xs us)
          (AreToChosen n o moment (aim_at options range version) ys us) (to_chosen (aim_at options range version) us) is

      updates : (range : Option R) (text : Option (List ℕ)) (us : List Update) → AreUpdates n o moment dep xs range text us → AreUpdates n o moment dep ys range text us
      updates None None us is = is
      updates None (Some text) us is = is
      updates (Some range) None us is = is
      updates (Some range) (Some text) us is = updates_at (o.at_dep dep) range text (n.version_of text) us is

      unless_skipped : (skip : Option Skip) (us : List Update) → AreUnlessSkipped n o moment dep xs skip us → AreUnlessSkipped n o moment dep ys skip us
      unless_skipped (Some skip) us is = is
      unless_skipped None us is = updates (n.range_of dep.value) dep.current us is

    picked : (dep : Dep) (is_missing : Bool) (p : Picked) → IsPickedOf n o moment dep is_missing xs p → IsPickedOf n o moment dep is_missing ys p
    picked dep is_missing p is = record {
      current = current dep.value (n.range_of dep.value) p.current is.current;
      skip = is.skip;
      updates = unless_skipped (with_current dep p.current) p.skip p.updates is.updates;
    }

-- ---- from a document or without one

picked_some : {V R : Type 0} (n : Numbering V R) (o : Options) (moment : ℕ) (dep : Dep) (releases : Option (List Release)) (found : List (Listed V)) (p : Picked)
    → AreRanked n releases (Some found) → IsPickedOf n o moment dep false found p → IsPicked n o moment dep releases p
picked_some n o moment dep None found p is picks = absurd is
picked_some n o moment dep (Some releases) found p is picks =
    picked n found (live_releases n releases) (alike found (live_releases n releases) (IsPermutation-sym (live_releases n releases) found is.same)) o moment dep false p picks

picked_none : {V R : Type 0} (n : Numbering V R) (o : Options) (moment : ℕ) (dep : Dep) (releases : Option (List Release)) (p : Picked) → AreRanked n releases None
    → IsPickedOf n o moment dep true [] p → IsPicked n o moment dep releases p
picked_none n o moment dep None p is picks = picks
picked_none n o moment dep (Some releases) p is picks = absurd is

pub picked_from : {V R : Type 0} (n : Numbering V R) (o : Options) (moment : ℕ) (dep : Dep) (releases : Option (List Release)) (found : Option (List (Listed V))) (p : Picked)
    → AreRanked n releases found → IsPickedOf n o moment dep (is_none found) (unwrap_or found []) p → IsPicked n o moment dep releases p
picked_from n o moment dep releases None p is picks = picked_none n o moment dep releases p is picks
picked_from n o moment dep releases (Some found) p is picks = picked_some n o moment dep releases found p is picks
