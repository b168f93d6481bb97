-- What is picked for a dependency whose value is no range does not depend on releases.
use Rattle.std.proofs.Common.{◌≡◌, ◌⊎◌, ℕ, Bool, true, false, List, [], Option, Some, None, refl, sym, subst, ◌∙◌, ap, inl, inr}
use Rattle.std.specs.Prelude.{is_none, is_some, if◌then◌else◌, unwrap_or}
use Rattle.std.proofs.lemmas.Bool.{cases_Bool}
use Rattle.rnv_base.specs.declared.kinds.SourceKind.{SourceKind}
use Rattle.rnv_base.specs.declared.kinds.SourceKind.TheVariants as source
use Rattle.rnv_release.specs.declared.release.Release.{Release}
use Rattle.rnv_version.specs.Numbering.{Numbering}
use Rattle.rnv_version.specs.Versionings.{cargo, docker}
use Rattle.rnv_npm.specs.Numbering.{npm}
use Rattle.rnv_pick.specs.declared.dep.Dep.{Dep}
use Rattle.rnv_pick.specs.declared.update.Picked.{Picked}
use Rattle.rnv_pick.specs.declared.update.Skip.{Skip}
use Rattle.rnv_pick.specs.declared.update.Skip.TheVariants.{Ignored, Unreadable, NoIndex}
use Rattle.rnv_pick.specs.declared.update.Update.{Update}
use Rattle.rnv_pick.specs.BySource.{IsPickedFrom, is_range}
use Rattle.rnv_pick.specs.Listing.{Listed, live_releases}
use Rattle.rnv_pick.specs.Options.{Options, with_current}
use Rattle.rnv_pick.specs.Updates.{AreUnlessSkipped, IsCurrentIn, IsPicked, late_skip, skip_of}

none_of : {X : Type 0} (o : Option X) → is_some o ≡ false → o ≡ None
none_of None is = refl
none_of (Some x) is = cc is

skip_unread : {V R : Type 0} (n : Numbering V R) (o : Options) (dep : Dep) (releases : Option (List Release)) → n.range_of dep.value ≡ None
    → skip_of n o dep releases ≡ (if o.is_ignored dep then Some Ignored else Some Unreadable)
skip_unread {V} {R} n o dep releases none =
    ap (λ (range : Option R). if o.is_ignored dep then Some Ignored else (if is_none range then Some Unreadable else (if is_none releases then Some NoIndex else late_skip (o.at_dep dep).enabled dep.current))) none

skipped : (ignored : Bool) (skip : Option Skip) → skip ≡ (if ignored then Some Ignored else Some Unreadable) → (s : Skip) × (skip ≡ Some s)
skipped true skip is = (Ignored, is)
skipped false skip is = (Unreadable, is)

unless_other : {V R : Type 0} (n : Numbering V R) (o : Options) (moment : ℕ) (dep : Dep) (found other : List (Listed V)) (skip : Option Skip) (us : List Update) (s : Skip) → skip ≡ Some s
    → AreUnlessSkipped n o moment dep found skip us → AreUnlessSkipped n o moment dep other skip us
unless_other n o moment dep found other None us s is h = cc is
unless_other n o moment dep found other (Some t) us s is h = h

unread : {V R : Type 0} (n : Numbering V R) (o : Options) (moment : ℕ) (dep : Dep) (releases others : Option (List Release)) (p : Picked) → n.range_of dep.value ≡ None
    → IsPicked n o moment dep releases p → IsPicked n o moment dep others p
unread {V} {R} n o moment dep releases others p none picked =
    let found = live_releases n (unwrap_or releases []) in
    let other = live_releases n (unwrap_or others []) in
    let at = with_current dep p.current in
    let skip = picked.skip ∙ skip_unread n o at releases none in
    let why = skipped (o.is_ignored at) p.skip skip in
    record {
      current = subst (λ (range : Option R). IsCurrentIn n dep.value other range p.current) (sym none) (subst (λ (range : Option R). IsCurrentIn n dep.value found range p.current) none picked.current);
      skip = skip ∙ sym (skip_unread n o at others none);
      updates = unless_other n o moment at found other p.skip p.updates why.0 why.1 picked.updates;
    }

pub unread_from : (from : SourceKind) (o : Options) (moment : ℕ) (dep : Dep) (releases others : Option (List Release)) (p : Picked) → is_range from dep.value ≡ false
    → IsPickedFrom from o moment dep releases p → IsPickedFrom from o moment dep others p
unread_from source.Crates o moment dep releases others p none picked = unread cargo o moment dep releases others p (none_of (cargo.range_of dep.value) none) picked
unread_from source.Npm o moment dep releases others p none picked = unread npm o moment dep releases others p (none_of (npm.range_of dep.value) none) picked
unread_from source.Docker o moment dep releases others p none picked = unread docker o moment dep releases others p (none_of (docker.range_of dep.value) none) picked
