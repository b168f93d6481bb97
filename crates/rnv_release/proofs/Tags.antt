-- The releases of tags, one more at a time.
use Rattle.std.proofs.Common.{◌≡◌, ◌∙◌, ℕ, [], ◌∷◌, ◌++◌, append-nil, List, Option, Some, None, option_map, refl, sym, ap}
use Rattle.std.specs.Prelude.{option_and_then}
use Rattle.std.proofs.lemmas.List.{append_assoc}
use Rattle.serde_json.specs.Find.{as_str}
use Rattle.serde_json.specs.View.{view, items_view}
use Rattle.serde_json.specs.declared.value.Value.{Value}
use Rattle.rnv_release.specs.declared.release.Release.{Release}
use Rattle.rnv_release.specs.Docker.{tag_releases, tagged}

-- releases before those of the tags that are left
abbrev pub with_tags : List Release → List Value → Option (List Release)
with_tags releases tags = option_map (λ more. releases ++ more) (tag_releases (items_view tags))

moved : (old : List Release) (r : Release) (more : Option (List Release)) → option_map (λ rs. old ++ rs) (option_map (λ rs. r ∷ rs) more) ≡ option_map (λ rs. (old ++ r ∷ []) ++ rs) more
moved old r None = refl
moved old r (Some more) = ap Some (sym (append_assoc old (r ∷ []) more))

abbrev told : List Release → List Value → Option (List ℕ) → Option (List Release)
told old rest text = option_map (λ rs. old ++ rs) (option_and_then (λ tag. option_map (λ rs. tagged tag ∷ rs) (tag_releases (items_view rest))) text)

pub one_more : (old new : List Release) (value : Value) (text : List ℕ) (all rest : List Value) → all ≡ value ∷ rest → Some text ≡ as_str (view value) → new ≡ old ++ tagged text ∷ [] → with_tags old all ≡ with_tags new rest
one_more old new value text all rest is tag pushed =
    ap (with_tags old) is
    ∙ ap (told old rest) (sym tag)
    ∙ moved old (tagged text) (tag_releases (items_view rest))
    ∙ ap (λ (n : List Release). with_tags n rest) (sym pushed)

pub no_text : (old : List Release) (value : Value) (all rest : List Value) → all ≡ value ∷ rest → as_str (view value) ≡ None → with_tags old all ≡ None
no_text old value all rest is none = ap (with_tags old) is ∙ ap (told old rest) none

pub no_more : (old : List Release) (all : List Value) → all ≡ [] → with_tags old all ≡ Some old
no_more old all none = ap (with_tags old) none ∙ ap Some (append-nil old)

none_before : (found : Option (List Release)) → option_map (λ (rs : List Release). [] ++ rs) found ≡ found
none_before None = refl
none_before (Some rs) = refl

pub all_tags : (tags : List Value) → with_tags [] tags ≡ tag_releases (items_view tags)
all_tags tags = none_before (tag_releases (items_view tags))
