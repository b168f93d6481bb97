-- Two configurations as one: each option by itself, and what stays built.
use Rattle.std.proofs.Common.{◌≡◌, ℕ, List, [], ◌∷◌, ◌++◌, Bool, true, false, Option, Some, None, cond, map, bytes_eq, refl, sym, ap, ◌∙◌, subst}
use Rattle.std.specs.Prelude.{IfSome, option_map, if◌then◌else◌}
use Rattle.std.proofs.lemmas.Slice.Eq.{bytes_eq-Decides}
use Rattle.rnv_options.specs.Readings.{Each}
use Rattle.rnv_options.specs.Table.{all_opts, name_of, named_in, opt_named}
use Rattle.rnv_options.specs.declared.opt.Opt.{Opt}
use Rattle.rnv_options.specs.declared.opt.Opt.TheVariants.{AddLabels, AllowedVersions, BranchConcurrentLimit, BranchPrefix, CustomManagers, DependencyDashboard, DependencyDashboardApproval, Enabled, EnabledManagers, GroupName, GroupSlug, IgnoreDeps, IgnorePaths, Labels, MinimumReleaseAge, PackageRules, PostUpgradeTasks, PrConcurrentLimit, PrHourlyLimit, PrPriority, RangeStrategy, RebaseWhen, Schedule, SeparateMajorMinor, SeparateMinorPatch, Timezone, UpdateNotScheduled}
use Rattle.rnv_options.specs.declared.setting.OptValue.{OptValue}
use Rattle.rnv_options.specs.declared.setting.Setting.{Setting}
use Rattle.rnv_config.specs.Merged.{merged, merged_settings, same_opt, setting_for, settings_by, told_in, value_in}
use Rattle.rnv_config.specs.Settings.{IsSettingBuilt, IsValueBuilt, ToldSetting, ToldValue, told_setting, told_value}

-- ---- what stays built

pub each-append : {A : Type 0} (P : A → Type 0) (xs ys : List A) → Each P xs → Each P ys → Each P (xs ++ ys)
each-append P [] ys all more = more
each-append P (x ∷ xs) ys all more = (all.0, each-append P xs ys all.1 more)

pub each-both : {A : Type 0} (P : A → Type 0) (xs ys list : List A) → list ≡ xs ++ ys → Each P xs → Each P ys → Each P list
each-both P xs ys list is all more = subst (Each P) (sym is) (each-append P xs ys all more)

built-if : (b : Bool) (value : OptValue) (rest : Option OptValue) → IsValueBuilt value → IfSome rest IsValueBuilt → IfSome (if b then Some value else rest) IsValueBuilt
built-if true value rest here there = here
built-if false value rest here there = there

-- what is set is built where all is
pub built_in : (opt : Opt) (settings : List Setting) → Each IsSettingBuilt settings → IfSome (value_in opt settings) IsValueBuilt
built_in opt [] all = tt
built_in opt (s ∷ rest) all = built-if (same_opt opt s.opt) s.value (value_in opt rest) all.0 (built_in opt rest all.1)

-- ---- an option has one name

named : (opt : Opt) → opt_named (name_of opt) ≡ Some opt
named AddLabels = refl
named AllowedVersions = refl
named BranchConcurrentLimit = refl
named BranchPrefix = refl
named CustomManagers = refl
named DependencyDashboard = refl
named DependencyDashboardApproval = refl
named Enabled = refl
named EnabledManagers = refl
named GroupName = refl
named GroupSlug = refl
named IgnoreDeps = refl
named IgnorePaths = refl
named Labels = refl
named MinimumReleaseAge = refl
named PackageRules = refl
named PostUpgradeTasks = refl
named PrConcurrentLimit = refl
named PrHourlyLimit = refl
named PrPriority = refl
named RangeStrategy = refl
named RebaseWhen = refl
named Schedule = refl
named SeparateMajorMinor = refl
named SeparateMinorPatch = refl
named Timezone = refl
named UpdateNotScheduled = refl

inside : {A : Type 0} {x y : A} → Some x ≡ Some y → x ≡ y
inside e = cc

same : (a b : Opt) → same_opt a b ≡ true → a ≡ b
same a b e =
    let names : name_of a ≡ name_of b = (bytes_eq-Decides (name_of a) (name_of b)).0 e in
    inside (sym (named a) ∙ ap opt_named names ∙ named b)

-- ---- option by option

-- the first value that is told for the option
told_of : Opt → List ToldSetting → Option ToldValue
told_of opt [] = None
told_of opt (s ∷ rest) = if same_opt opt s.opt then Some s.value else told_of opt rest

told-if : (b : Bool) (x y : Option OptValue) → option_map told_value (if b then x else y) ≡ (if b then option_map told_value x else option_map told_value y)
told-if true x y = refl
told-if false x y = refl

told-of : (opt : Opt) (settings : List Setting) → told_in opt settings ≡ told_of opt (map told_setting settings)
unfolding told_of
told-of opt [] = refl
told-of opt (s ∷ rest) =
    told-if (same_opt opt s.opt) (Some s.value) (value_in opt rest)
    ∙ ap (λ (r : Option ToldValue). if same_opt opt s.opt then Some (told_value s.value) else r) (told-of opt rest)

-- the value where there is such an option
given : Option Opt → Option ToldValue → Option ToldValue
given None value = None
given (Some opt) value = value

not-given : (found : Option Opt) → given found None ≡ None
unfolding given
not-given None = refl
not-given (Some opt) = refl

step : (opt first : Opt) (here : Bool) (value wanted : Option ToldValue) (rest : List ToldSetting) (found : Option Opt) → same_opt opt first ≡ here → (here ≡ true → value ≡ wanted) → told_of opt rest ≡ given found wanted →
    told_of opt (setting_for first value ++ rest) ≡ given (if here then Some first else found) wanted
unfolding told_of given
step opt first true None wanted rest found is same_value later =
    let none : None ≡ wanted = same_value refl in
    later ∙ sym (ap (given found) none) ∙ not-given found ∙ none
step opt first false None wanted rest found is same_value later = later
step opt first true (Some value) wanted rest found is same_value later = rw is (same_value refl)
step opt first false (Some value) wanted rest found is same_value later = rw is later

by-each : (value : Opt → Option ToldValue) (opt : Opt) (opts : List Opt) → told_of opt (settings_by value opts) ≡ given (named_in (name_of opt) opts) (value opt)
unfolding told_of given
by-each value opt [] = refl
by-each value opt (first ∷ opts) =
    step opt first (same_opt opt first) (value first) (value opt) (settings_by value opts) (named_in (name_of opt) opts) refl
    (λ e. ap value (sym (same opt first e))) (by-each value opt opts)

pub by_option : (parent child settings : List Setting) → map told_setting settings ≡ merged_settings parent child → (opt : Opt) → told_in opt settings ≡ merged opt parent child
unfolding given
by_option parent child settings is opt =
    told-of opt settings ∙ ap (told_of opt) is ∙ by-each (λ o. merged o parent child) opt all_opts ∙ ap (λ (found : Option Opt). given found (merged opt parent child)) (named opt)
