-- Which candidate of a bucket is chosen.
use Rattle.std.specs.Prelude.{◌≡◌, ◌⊎◌, ℕ, ◌+◌, nat_le, Bool, true, false, not, ◌&&◌, List, [], ◌∷◌, Option, Some, None, option_map, if◌then◌else◌}
use Rattle.rnv_version.specs.Numbering.{Numbering}
use Rattle.rnv_pick.specs.declared.allowance.Allowance.{Allowance}
use Rattle.rnv_pick.specs.declared.bucket.Bucket.{Bucket}
use Rattle.rnv_pick.specs.declared.options.UpdateOptions.{UpdateOptions}
use Rattle.rnv_pick.specs.declared.choice.Choice.{Choice}
use Rattle.rnv_pick.specs.Allowing.{admits}
use Rattle.rnv_pick.specs.Buckets.{is_in}
use Rattle.rnv_pick.specs.Candidates.{Aim, Offer, IsCandidate, is_above, kind_of, offer_cmp}
use Rattle.rnv_pick.specs.Greatest.{IsGreatest}
use Rattle.rnv_pick.specs.Listing.{Listed}
use Rattle.rnv_pick.specs.Options.{Options}

-- no age is asked, or the release has no time, or it is that old
abbrev pub is_old : ℕ → Option ℕ → Option ℕ → Bool
is_old moment None time = true
is_old moment (Some age) None = true
is_old moment (Some age) (Some time) = nat_le (time + age) moment

-- the options of the update to a candidate
abbrev pub options_of : {V R : Type 0} → Numbering V R → Options → Aim V → Offer V → UpdateOptions
options_of n o aim c = o.at_update aim.dep (kind_of n aim c.listed) c.new_value

-- by the age of its own update options
abbrev pub is_old_enough : {V R : Type 0} → Numbering V R → Options → ℕ → Aim V → Offer V → Bool
is_old_enough n o moment aim c = is_old moment (options_of n o aim c).age c.listed.release.time

-- a candidate of the bucket
pub record InBucket {V R : Type 0} (n : Numbering V R) (aim : Aim V) (found : List (Listed V)) (b : Bucket) (c : Offer V) : Type 0 where
  pub candidate : IsCandidate n aim found c
  pub inside : is_in b (kind_of n aim c.listed) ≡ true

-- one that is old enough
pub record IsReady {V R : Type 0} (n : Numbering V R) (o : Options) (moment : ℕ) (aim : Aim V) (found : List (Listed V)) (b : Bucket) (c : Offer V) : Type 0 where
  pub in_bucket : InBucket n aim found b c
  pub old : is_old_enough n o moment aim c ≡ true

-- a candidate as it is chosen
abbrev pub choice_of : {V R : Type 0} → Numbering V R → Options → Aim V → Bool → Offer V → Choice
choice_of n o aim pending c = record {
  new_version = c.listed.release.text;
  new_value = c.new_value;
  kind = kind_of n aim c.listed;
  pending = pending;
  options = options_of n o aim c;
}

-- the greatest that is old enough
pub record IsReadyChoice {V R : Type 0} (n : Numbering V R) (o : Options) (moment : ℕ) (aim : Aim V) (found : List (Listed V)) (b : Bucket) (choice : Choice) : Type 0 where
  pub offer : Offer V
  pub greatest : IsGreatest (offer_cmp n) (IsReady n o moment aim found b) offer
  pub same : choice ≡ choice_of n o aim false offer

-- none is old enough: the greatest, which is pending
pub record IsPendingChoice {V R : Type 0} (n : Numbering V R) (o : Options) (moment : ℕ) (aim : Aim V) (found : List (Listed V)) (b : Bucket) (choice : Choice) : Type 0 where
  pub none : (c : Offer V) → ¬ IsReady n o moment aim found b c
  pub offer : Offer V
  pub greatest : IsGreatest (offer_cmp n) (InBucket n aim found b) offer
  pub same : choice ≡ choice_of n o aim true offer

-- none exactly where the bucket is empty
abbrev pub IsChosen : {V R : Type 0} → Numbering V R → Options → ℕ → Aim V → List (Listed V) → Bucket → Option Choice → Type 0
IsChosen {V} n o moment aim found b None = (c : Offer V) → ¬ InBucket n aim found b c
IsChosen n o moment aim found b (Some choice) = IsReadyChoice n o moment aim found b choice ⊎ IsPendingChoice n o moment aim found b choice

-- ---- going through candidates from the greatest on

-- a release is wanted and of the bucket
abbrev pub is_offered : {V R : Type 0} → Numbering V R → Aim V → Bucket → Allowance R → Listed V → Bool
is_offered n aim b allowance c = is_above n aim.start c.version && is_in b (kind_of n aim c) && admits n allowance c.release.text c.version

-- a release as a choice
abbrev pub judged : {V R : Type 0} → Numbering V R → Options → ℕ → Aim V → Listed V → List ℕ → Choice
judged n o moment aim c text =
    choice_of n o aim (not (is_old_enough n o moment aim (record { listed = c; new_value = text }))) (record { listed = c; new_value = text })

-- if it has a new text
abbrev pub rewritten : {V R : Type 0} → Numbering V R → Options → ℕ → Aim V → Listed V → Option Choice
rewritten n o moment aim c = option_map (judged n o moment aim c) (n.new_text aim.options.strategy aim.dep.value c.release.text)

-- and is wanted and of the bucket, where these versions are allowed
abbrev pub offered : {V R : Type 0} → Numbering V R → Options → ℕ → Aim V → Bucket → Allowance R → Listed V → Option Choice
offered n o moment aim b allowance c = if is_offered n aim b allowance c then rewritten n o moment aim c else None

-- the first, once there is one
abbrev pub first_of : Option Choice → Choice → Choice
first_of None next = next
first_of (Some top) next = top

-- after one more choice, and what the rest gives then
abbrev pub chosen_next : Option Choice → Option Choice → (Option Choice → Option Choice) → Option Choice
chosen_next top None rest = rest top
chosen_next top (Some next) rest = if next.pending then rest (Some (first_of top next)) else Some next

-- the first one that is not pending, else the first of all
unfoldable pub chosen_from : {V R : Type 0} → Numbering V R → Options → ℕ → Aim V → Bucket → Allowance R → Option Choice → List (Listed V) → Option Choice
chosen_from n o moment aim b allowance top [] = top
chosen_from n o moment aim b allowance top (c ∷ cs) = chosen_next top (offered n o moment aim b allowance c) (λ t. chosen_from n o moment aim b allowance t cs)
