use Rattle.std.proofs.Common.{◌≡◌, ◌++◌, ◌<◌, List, [], ◌∷◌, length, map, append-nil, arith, refl, sym, ap, ◌∙◌}
use Rattle.rnv_options.specs.declared.opt.Opt.{Opt}
use Rattle.rnv_config.specs.Merged.{merged, merged_settings, settings_by}
use Rattle.rnv_config.specs.Settings.{told_setting}
use Rattle.rnv_config.proofs.ByOption.{by_option}
use Rattle.rnv_config.proofs.merging.merge.Goals as goal

none-left : (opts : List Opt) → length opts < 1 → opts ≡ []
none-left [] few = refl
none-left (opt ∷ opts) few = absurd (omega (arith, few))

pub returns-clause-by_option : goal.returns-clause-by_option
returns-clause-by_option c =
    let parent = c.args.parent.now.settings in
    let child = c.args.child.now.settings in
    let settings = c.loop-left.settings in
    let none : c.loop-left.left.now ≡ [] = none-left c.loop-left.left.now c.in_default.len_below in
    let order : map told_setting settings ≡ merged_settings parent child =
    sym (append-nil (map told_setting settings)) ∙ (ap (λ (opts : List Opt). map told_setting settings ++ settings_by (λ opt. merged opt parent child) opts) (sym none) ∙ c.loop-left.invariant.told) in
    by_option parent child settings order
