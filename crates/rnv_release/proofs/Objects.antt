-- The objects of a document, and the releases that they tell.
use Rattle.std.proofs.Common.{◌≡◌, ◌∙◌, [], ◌∷◌, ℕ, List, map, codes, Option, Some, None, String, BTreeMap, refl, sym, ap, option_map}
use Rattle.std.specs.Prelude.{option_and_then}
use Rattle.std.specs.declared.alloc.Global.{Global}
use Rattle.std.specs.BTreeMap as tree
use Rattle.std.proofs.lemmas.Map.Text.{btree_map_updates_text}
use Rattle.std.specs.String.{string_cmp, string_bytes}
use Rattle.std.specs.Ordering.{nat_cmp}
use Rattle.std.specs.Cmp.Lexicographic.{slice_cmp}
use Rattle.serde_json.specs.Data.{Data, null, boolean, number, string, array, object, Members, no_members}
use Rattle.serde_json.specs.Find.{as_object, get_member}
use Rattle.serde_json.specs.View.{view, members_view}
use Rattle.serde_json.specs.declared.value.Value.{Value}
use Rattle.serde_json.proofs.Views.{view-lookup}
use Rattle.rnv_release.specs.declared.release.Release.{Release}
use Rattle.rnv_release.specs.Npm.{names_of, npm_releases, release_of, releases_of}
use Rattle.rnv_release.specs.Times.{times_in}

-- a value that has members is an object
is-object : (value : Data) (ms : Members) → as_object value ≡ Some ms → value ≡ object ms
is-object null ms is = cc
is-object (boolean b) ms is = cc
is-object (number n) ms is = cc
is-object (string s) ms is = cc
is-object (array ds) ms is = cc
is-object (object ms') ms is = cc

abbrev told : Members → Members → List Release
told times versions = map (release_of (Some (object times))) (names_of versions)

unknown : (ns : List (List ℕ)) → map (release_of None) ns ≡ map (release_of (Some (object no_members))) ns
unknown [] = refl
unknown (n ∷ ns) = ap (λ rest. release_of None n ∷ rest) (unknown ns)

-- the releases by the members of both objects
by-objects : (times : Option Data) (versions : Members) → releases_of times versions ≡ option_map (λ ts. told ts versions) (times_in times)
by-objects None versions = ap Some (unknown (names_of versions))
by-objects (Some null) versions = refl
by-objects (Some (boolean b)) versions = refl
by-objects (Some (number n)) versions = refl
by-objects (Some (string s)) versions = refl
by-objects (Some (array ds)) versions = refl
by-objects (Some (object ms)) versions = refl

-- a document whose members these are, with what its members `time` and `versions` are
pub record HasParts (document : Data) (times versions : Option Data) : Type 0 where
  pub told : npm_releases document ≡ option_and_then (releases_of times) (option_and_then as_object versions)

pub has-parts : (document : Data) (ms : Members) (times versions : Option Data) → Some ms ≡ as_object document → times ≡ get_member (codes "time") ms → versions ≡ get_member (codes "versions") ms → HasParts document times versions
has-parts document ms times versions is t v =
    record {
      told = ap npm_releases (is-object document ms (sym is))
          ∙ ap (λ (p : Option Data). option_and_then (releases_of p) (option_and_then as_object (get_member (codes "versions") ms))) (sym t)
          ∙ ap (λ (p : Option Data). option_and_then (releases_of times) (option_and_then as_object p)) (sym v);
    }

none-of : (f : Members → Option (List Release)) (versions : Option Members) → ((vs : Members) → f vs ≡ None) → option_and_then f versions ≡ None
none-of f None none = refl
none-of f (Some vs) none = none vs

pub no-times : (document : Data) (times versions : Option Data) → HasParts document times versions → None ≡ times_in times → npm_releases document ≡ None
no-times document times versions has none =
    has.told ∙ none-of (releases_of times) (option_and_then as_object versions) (λ vs. by-objects times vs ∙ ap (option_map (λ ts. told ts vs)) (sym none))

pub no-versions : (document : Data) (times versions : Option Data) → HasParts document times versions → option_and_then as_object versions ≡ None → npm_releases document ≡ None
no-versions document times versions has none = has.told ∙ ap (option_and_then (releases_of times)) none

pub both-parts : (document : Data) (times versions : Option Data) (ts vs : Members) → HasParts document times versions → Some ts ≡ times_in times → option_and_then as_object versions ≡ Some vs → npm_releases document ≡ Some (told ts vs)
both-parts document times versions ts vs has is_times is_versions =
    has.told ∙ ap (option_and_then (releases_of times)) is_versions ∙ by-objects times vs ∙ ap (option_map (λ ts. told ts vs)) (sym is_times)

-- what `remove` takes out of the members
pub taken : (name : List ℕ) (m : BTreeMap (String Global) Value) (r : Option Value) → r ≡ tree.get_by_text m name → option_map view r ≡ get_member name (members_view m.entries)
taken name m r is = ap (option_map view) is ∙ view-lookup name m.entries

-- the member `versions` is still there without the member `time`
pub taken-later : (m n : BTreeMap (String Global) Value) (r : Option Value) → tree.UpdatesBy string_cmp (λ k. slice_cmp nat_cmp (codes "time") (string_bytes k)) m n None → r ≡ tree.get_by_text n (codes "versions") → option_map view r ≡ get_member (codes "versions") (members_view m.entries)
taken-later m n r without is = taken (codes "versions") m r (is ∙ btree_map_updates_text (codes "time") m n None without (codes "versions"))
