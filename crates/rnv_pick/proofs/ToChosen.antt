-- The updates to what is chosen of each bucket.
use Rattle.std.proofs.Common.{◌≡◌, ℕ, Bool, List, [], ◌∷◌, ◌++◌, Option, Some, None, map, refl, sym, subst, ◌∙◌, ap}
use Rattle.std.specs.Cmp.{IsTotalOrder}
use Rattle.std.specs.List.{flat_map}
use Rattle.rnv_version.specs.Numbering.{KindsRise, Numbering}
use Rattle.rnv_pick.specs.declared.allowance.Allowance.{Allowance}
use Rattle.rnv_pick.specs.declared.bucket.Bucket.{Bucket}
use Rattle.rnv_pick.specs.declared.choice.Choice.{Choice}
use Rattle.rnv_pick.specs.declared.update.Update.{Update}
use Rattle.rnv_pick.specs.Allowing.{allowance_of}
use Rattle.rnv_pick.specs.Buckets.{buckets}
use Rattle.rnv_pick.specs.Candidates.{Aim}
use Rattle.rnv_pick.specs.Choices.{IsChosen, chosen_from}
use Rattle.rnv_pick.specs.Listing.{Listed}
use Rattle.rnv_pick.specs.Options.{Options}
use Rattle.rnv_pick.specs.Ranking.{IsRanked}
use Rattle.rnv_pick.specs.Updates.{AreChosen, AreRising, AreToChosen, updates_to}
use Rattle.rnv_pick.proofs.Chosen.{asked, is_chosen}
use Rattle.rnv_pick.proofs.Rising.{chosen_rising}

all_chosen : {V R : Type 0} (n : Numbering V R) (o : Options) (moment : ℕ) (aim : Aim V) (found : List (Listed V)) (f : Bucket → Option Choice)
    → ((b : Bucket) → IsChosen n o moment aim found b (f b)) → (bs : List Bucket) → AreChosen n o moment aim found bs (map f bs)
all_chosen n o moment aim found f each [] = tt
all_chosen n o moment aim found f each (b ∷ bs) = (each b, all_chosen n o moment aim found f each bs)

flat_map_map : {A B C : Type 0} (g : B → List C) (f : A → B) (xs : List A) → flat_map (λ x. g (f x)) xs ≡ flat_map g (map f xs)
flat_map_map g f [] = refl
flat_map_map g f (x ∷ xs) = ap (λ ys. g (f x) ++ ys) (flat_map_map g f xs)

pub to_chosen : {V R : Type 0} (n : Numbering V R) (o : Options) (moment : ℕ) (aim : Aim V) (allowance : Allowance R) (found : List (Listed V)) (updates : List Update)
    → IsTotalOrder n.order → KindsRise n → allowance ≡ allowance_of n aim.options.allowed → IsRanked n found
    → updates ≡ flat_map (λ b. updates_to aim.dep aim.options (chosen_from n o moment aim b allowance None found)) (buckets aim.options)
    → AreToChosen n o moment aim found updates
to_chosen n o moment aim allowance found updates total rise allows ranked is =
    let choice = λ (b : Bucket). chosen_from n o moment aim b allowance None found in
    let chosen = all_chosen n o moment aim found choice (λ b. is_chosen (asked n o moment aim b allowance) allows total found ranked.falling) (buckets aim.options) in
    let same = is ∙ flat_map_map (updates_to aim.dep aim.options) choice (buckets aim.options) in
    record {
      choices = map choice (buckets aim.options);
      chosen = chosen;
      same = same;
      rising = subst (AreRising n) (sym same) (chosen_rising n o moment aim found (map choice (buckets aim.options)) total rise ranked.named chosen);
    }
