-- Each update is of the dependency that it was picked for, with its current version.
use Rattle.std.proofs.Common.{◌≡◌, ℕ, Bool, true, false, List, [], ◌∷◌, ◌++◌, Option, Some, None, refl, sym, ◌∙◌, ap}
use Rattle.std.specs.Prelude.{MatchBool, ◌&&◌, not, if◌then◌else◌, unwrap_or}
use Rattle.std.specs.List.{All, flat_map}
use Rattle.std.proofs.lemmas.List.Elements.{All-append, All-cons, All-nil, All-same}
use Rattle.rnv_base.specs.declared.kinds.SourceKind.{SourceKind}
use Rattle.rnv_base.specs.declared.kinds.SourceKind.TheVariants as source
use Rattle.rnv_release.specs.declared.release.Release.{Release}
use Rattle.rnv_version.specs.Numbering.{Numbering}
use Rattle.rnv_version.specs.Versionings.{cargo, docker}
use Rattle.rnv_npm.specs.Numbering.{npm}
use Rattle.rnv_pick.specs.declared.choice.Choice.{Choice}
use Rattle.rnv_pick.specs.declared.dep.Dep.{Dep}
use Rattle.rnv_pick.specs.declared.options.DepOptions.{DepOptions}
use Rattle.rnv_pick.specs.declared.update.Picked.{Picked}
use Rattle.rnv_pick.specs.declared.update.Skip.{Skip}
use Rattle.rnv_pick.specs.declared.update.Update.{Update}
use Rattle.rnv_pick.specs.BySource.{IsPickedFrom}
use Rattle.rnv_pick.specs.Listing.{Listed, live_releases}
use Rattle.rnv_pick.specs.Options.{Options, with_current}
use Rattle.rnv_pick.specs.Candidates.{Aim}
use Rattle.rnv_pick.specs.Updates.{AreToChosen, AreUnlessSkipped, AreUpdates, AreUpdatesAt, IsPicked, is_pin, pin_choice, pin_updates, pin_with, start_of, update_of, updates_to}

module _ (dep : Dep) where
  abbrev Own : Update → Type 0
  Own u = u.dep ≡ dep

  own_none : (us : List Update) → us ≡ [] → All Own us
  own_none us none = All-same Own us [] none (All-nil Own)

  own_if : (b : Bool) (u : Update) → u.dep ≡ dep → All Own (if b then u ∷ [] else [])
  own_if true u is = All-cons Own u [] is (All-nil Own)
  own_if false u is = All-nil Own

  own_to : (options : DepOptions) (c : Option Choice) → All Own (updates_to dep options c)
  own_to options None = All-nil Own
  own_to options (Some c) = own_if c.options.enabled (update_of dep options c) refl

  own_chosen : (options : DepOptions) (cs : List (Option Choice)) → All Own (flat_map (updates_to dep options) cs)
  own_chosen options [] = All-nil Own
  own_chosen options (c ∷ cs) = All-append Own (updates_to dep options c) (flat_map (updates_to dep options) cs) (own_to options c) (own_chosen options cs)

  own_pin : (o : Options) (options : DepOptions) (current : List ℕ) (text : Option (List ℕ)) → All Own (pin_with o dep options current text)
  own_pin o options current None = All-nil Own
  own_pin o options current (Some text) = own_if (pin_choice o dep current text).options.enabled (update_of dep options (pin_choice o dep current text)) refl

  own_match : (b : Bool) (us pins : List Update) (P : Type 0) → All Own pins → (P → All Own us) → MatchBool b (us ≡ pins) P → All Own us
  own_match true us pins P each next is = All-same Own us pins is each
  own_match false us pins P each next is = next is

  module _ {V R : Type 0} (n : Numbering V R) (o : Options) (moment : ℕ) (found : List (Listed V)) where
    own_at : (options : DepOptions) (range : R) (current : List ℕ) (version : Option V) (us : List Update) → AreUpdatesAt n o moment dep options found range current version us → All Own us
    own_at options range current None us none = own_none us none
    own_at options range current (Some version) us are =
        own_match (is_pin options.strategy && not (n.is_exact range)) us (pin_updates n o dep options current)
        (AreToChosen n o moment (record { dep = dep; options = options; start = start_of n options dep.value range version }) found us)
        (own_pin o options current (n.new_text options.strategy dep.value current))
        (λ (to : AreToChosen n o moment (record { dep = dep; options = options; start = start_of n options dep.value range version }) found us). All-same Own us (flat_map (updates_to dep options) to.choices) to.same (own_chosen options to.choices)) are

    own_updates : (range : Option R) (current : Option (List ℕ)) (us : List Update) → AreUpdates n o moment dep found range current us → All Own us
    own_updates None None us none = own_none us none
    own_updates None (Some current) us none = own_none us none
    own_updates (Some range) None us none = own_none us none
    own_updates (Some range) (Some current) us are = own_at (o.at_dep dep) range current (n.version_of current) us are

    own_unless : (skip : Option Skip) (us : List Update) → AreUnlessSkipped n o moment dep found skip us → All Own us
    own_unless None us are = own_updates (n.range_of dep.value) dep.current us are
    own_unless (Some skip) us none = own_none us none

own_picked : {V R : Type 0} (n : Numbering V R) (o : Options) (moment : ℕ) (dep : Dep) (releases : Option (List Release)) (p : Picked) → IsPicked n o moment dep releases p
    → All (λ u. u.dep ≡ with_current dep p.current) p.updates
own_picked n o moment dep releases p picked = own_unless (with_current dep p.current) n o moment (live_releases n (unwrap_or releases [])) p.skip p.updates picked.updates

pub own_from : (from : SourceKind) (o : Options) (moment : ℕ) (dep : Dep) (releases : Option (List Release)) (p : Picked) → IsPickedFrom from o moment dep releases p
    → All (λ u. u.dep ≡ with_current dep p.current) p.updates
own_from source.Crates o moment dep releases p picked = own_picked cargo o moment dep releases p picked
own_from source.Npm o moment dep releases p picked = own_picked npm o moment dep releases p picked
own_from source.Docker o moment dep releases p picked = own_picked docker o moment dep releases p picked
