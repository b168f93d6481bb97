-- The updates of a dependency.
use Rattle.std.specs.Prelude.{◌≡◌, ◌⊎◌, ⊤, ℕ, Bool, true, false, not, ◌&&◌, List, [], ◌∷◌, ◌++◌, Option, Some, None, is_some, is_none, option_and_then, unwrap_or, if◌then◌else◌, MatchBool}
use Rattle.std.specs.List.{flat_map, AllByRecursion}
use Rattle.std.specs.declared.cmp.Ordering.{Ordering}
use Rattle.std.specs.declared.cmp.Ordering.TheVariants.{Less}
use Rattle.rnv_base.specs.declared.kinds.UpdateKind.{UpdateKind}
use Rattle.rnv_base.specs.declared.kinds.UpdateKind.TheVariants as kind
use Rattle.rnv_base.specs.declared.kinds.Strategy.{Strategy}
use Rattle.rnv_base.specs.declared.kinds.Strategy.TheVariants as strategy
use Rattle.rnv_release.specs.declared.release.Release.{Release}
use Rattle.rnv_version.specs.Numbering.{Numbering}
use Rattle.rnv_pick.specs.declared.bucket.Bucket.{Bucket}
use Rattle.rnv_pick.specs.declared.dep.Dep.{Dep}
use Rattle.rnv_pick.specs.declared.options.DepOptions.{DepOptions}
use Rattle.rnv_pick.specs.declared.options.UpdateOptions.{UpdateOptions}
use Rattle.rnv_pick.specs.declared.choice.Choice.{Choice}
use Rattle.rnv_pick.specs.declared.update.Picked.{Picked}
use Rattle.rnv_pick.specs.declared.update.Skip.{Skip}
use Rattle.rnv_pick.specs.declared.update.Skip.TheVariants.{Ignored, Unreadable, NoIndex, Disabled, NoRelease}
use Rattle.rnv_pick.specs.declared.update.Update.{Update}
use Rattle.rnv_pick.specs.Buckets.{buckets}
use Rattle.rnv_pick.specs.Candidates.{Aim}
use Rattle.rnv_pick.specs.Choices.{IsChosen}
use Rattle.rnv_pick.specs.Listing.{IsGreatestIn, Listed, live_releases}
use Rattle.rnv_pick.specs.Options.{Options, with_current}

-- ---- the current version

-- the version that an exact value names, else the greatest release in the range
abbrev pub IsCurrentIn : {V R : Type 0} → Numbering V R → List ℕ → List (Listed V) → Option R → Option (List ℕ) → Type 0
IsCurrentIn n value found None current = current ≡ None
IsCurrentIn n value found (Some range) current = MatchBool (n.is_exact range) (current ≡ n.exact_text value) (IsGreatestIn n range found current)

abbrev pub IsCurrent : {V R : Type 0} → Numbering V R → List ℕ → List (Listed V) → Option (List ℕ) → Type 0
IsCurrent n value found current = IsCurrentIn n value found (n.range_of value) current

-- ---- skips

-- the last two reasons, by whether the dependency is enabled and by its current version
abbrev pub late_skip : Bool → Option (List ℕ) → Option Skip
late_skip enabled current = if not enabled then Some Disabled else (if is_none current then Some NoRelease else None)

-- the first reason of these that holds, where the dependency has its current version, and its package has no document
-- or has one
abbrev pub skip_at : {V R : Type 0} → Numbering V R → Options → Dep → Bool → Option Skip
skip_at n o dep is_missing =
    if o.is_ignored dep then Some Ignored else
    (if is_none (n.range_of dep.value) then Some Unreadable else
    (if is_missing then Some NoIndex else
    late_skip (o.at_dep dep).enabled dep.current))

abbrev pub skip_of : {V R : Type 0} → Numbering V R → Options → Dep → Option (List Release) → Option Skip
skip_of n o dep releases = skip_at n o dep (is_none releases)

-- ---- updates

abbrev pub is_pin : Strategy → Bool
is_pin strategy.Pin = true
is_pin _ = false

abbrev pub is_bump : Strategy → Bool
is_bump strategy.Bump = true
is_bump _ = false

-- the version whose numbers the value names where a plain value that is not exact is bumped, else the current one
abbrev pub start_of : {V R : Type 0} → Numbering V R → DepOptions → List ℕ → R → V → V
start_of n options value range current =
    if is_bump options.strategy && not (n.is_exact range) then unwrap_or (n.bump_start value) current else current

abbrev pub update_of : Dep → DepOptions → Choice → Update
update_of dep options c = record {
  dep = dep;
  new_version = c.new_version;
  new_value = c.new_value;
  kind = c.kind;
  pending = c.pending;
  split_major = options.split_major;
  split_patch = options.split_patch;
  options = c.options;
}

-- none where it is disabled at the update
abbrev pub enabled_update : Dep → DepOptions → Choice → List Update
enabled_update dep options c = if c.options.enabled then update_of dep options c ∷ [] else []

abbrev pub updates_to : Dep → DepOptions → Option Choice → List Update
updates_to dep options None = []
updates_to dep options (Some c) = enabled_update dep options c

-- the pin of a value to the current version
abbrev pub pin_choice : Options → Dep → List ℕ → List ℕ → Choice
pin_choice o dep current text =
    record { new_version = current; new_value = text; kind = kind.Pin; pending = false; options = o.at_update dep kind.Pin text }

abbrev pub pin_with : Options → Dep → DepOptions → List ℕ → Option (List ℕ) → List Update
pin_with o dep options current None = []
pin_with o dep options current (Some text) = enabled_update dep options (pin_choice o dep current text)

abbrev pub pin_updates : {V R : Type 0} → Numbering V R → Options → Dep → DepOptions → List ℕ → List Update
pin_updates n o dep options current = pin_with o dep options current (n.new_text options.strategy dep.value current)

-- the version of the first update is below that of the second one
pub record IsBelow {V R : Type 0} (n : Numbering V R) (a b : Update) : Type 0 where
  pub low : V
  pub high : V
  pub low_is : n.version_of a.new_version ≡ Some low
  pub high_is : n.version_of b.new_version ≡ Some high
  pub below : n.order low high ≡ Less

abbrev pub AreRising : {V R : Type 0} → Numbering V R → List Update → Type 0
AreRising n [] = ⊤
AreRising n (u ∷ us) = AllByRecursion (IsBelow n u) us × AreRising n us

-- of each bucket what is chosen
abbrev pub AreChosen : {V R : Type 0} → Numbering V R → Options → ℕ → Aim V → List (Listed V) → List Bucket → List (Option Choice) → Type 0
AreChosen n o moment aim found [] [] = ⊤
AreChosen n o moment aim found (b ∷ bs) (c ∷ cs) = IsChosen n o moment aim found b c × AreChosen n o moment aim found bs cs
AreChosen n o moment aim found _ _ = ⊥

-- the updates are exactly the chosen candidates that are enabled, in rising order of version
pub record AreToChosen {V R : Type 0} (n : Numbering V R) (o : Options) (moment : ℕ) (aim : Aim V) (found : List (Listed V)) (updates : List Update) : Type 0 where
  pub choices : List (Option Choice)
  pub chosen : AreChosen n o moment aim found (buckets aim.options) choices
  pub same : updates ≡ flat_map (updates_to aim.dep aim.options) choices
  pub rising : AreRising n updates

-- by the range that the value is, and the current version
abbrev pub AreUpdatesFrom : {V R : Type 0} → Numbering V R → Options → ℕ → Dep → DepOptions → List (Listed V) → R → List ℕ → V → List Update → Type 0
AreUpdatesFrom n o moment dep options found range current version updates =
    MatchBool (is_pin options.strategy && not (n.is_exact range))
    (updates ≡ pin_updates n o dep options current)
    (AreToChosen n o moment (record { dep = dep; options = options; start = start_of n options dep.value range version }) found updates)

abbrev pub AreUpdatesAt : {V R : Type 0} → Numbering V R → Options → ℕ → Dep → DepOptions → List (Listed V) → R → List ℕ → Option V → List Update → Type 0
AreUpdatesAt n o moment dep options found range current None updates = updates ≡ []
AreUpdatesAt n o moment dep options found range current (Some version) updates =
    AreUpdatesFrom n o moment dep options found range current version updates

abbrev pub AreUpdates : {V R : Type 0} → Numbering V R → Options → ℕ → Dep → List (Listed V) → Option R → Option (List ℕ) → List Update → Type 0
AreUpdates n o moment dep found (Some range) (Some current) updates =
    AreUpdatesAt n o moment dep (o.at_dep dep) found range current (n.version_of current) updates
AreUpdates n o moment dep found _ _ updates = updates ≡ []

-- a skipped dependency has none
abbrev pub AreUnlessSkipped : {V R : Type 0} → Numbering V R → Options → ℕ → Dep → List (Listed V) → Option Skip → List Update → Type 0
AreUnlessSkipped n o moment dep found (Some skip) updates = updates ≡ []
AreUnlessSkipped n o moment dep found None updates = AreUpdates n o moment dep found (n.range_of dep.value) dep.current updates

-- what is picked for a dependency, where its package has no document or has one, of these versions
pub record IsPickedOf {V R : Type 0} (n : Numbering V R) (o : Options) (moment : ℕ) (dep : Dep) (is_missing : Bool) (found : List (Listed V)) (p : Picked) : Type 0 where
  pub current : IsCurrent n dep.value found p.current
  pub skip : p.skip ≡ skip_at n o (with_current dep p.current) is_missing
  pub updates : AreUnlessSkipped n o moment (with_current dep p.current) found p.skip p.updates

abbrev pub IsPicked : {V R : Type 0} → Numbering V R → Options → ℕ → Dep → Option (List Release) → Picked → Type 0
IsPicked n o moment dep releases p = IsPickedOf n o moment dep (is_none releases) (live_releases n (unwrap_or releases [])) p
