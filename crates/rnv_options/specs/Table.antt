-- The options: the name of each, which values it takes, and where it is read.
use Rattle.std.specs.Prelude.{ℕ, List, [], ◌∷◌, codes, pos, negsuc, Bool, true, false, if◌then◌else◌, Option, Some, None}
use Rattle.std.specs.Str.{bytes_eq}
use Rattle.rnv_options.specs.declared.opt.Opt.{Opt}
use Rattle.rnv_options.specs.declared.opt.Opt.TheVariants.{AddLabels, AllowedVersions, BranchConcurrentLimit, BranchPrefix, CustomManagers, DependencyDashboard, DependencyDashboardApproval, Enabled, EnabledManagers, GroupName, GroupSlug, IgnoreDeps, IgnorePaths, Labels, MinimumReleaseAge, PackageRules, PostUpgradeTasks, PrConcurrentLimit, PrHourlyLimit, PrPriority, RangeStrategy, RebaseWhen, Schedule, SeparateMajorMinor, SeparateMinorPatch, Timezone, UpdateNotScheduled}
use Rattle.rnv_options.specs.declared.kind.Kind.{Kind}
use Rattle.rnv_options.specs.declared.kind.Kind.TheVariants.{Plain, Rules, Customs}
use Rattle.rnv_options.specs.declared.kind.Values.{Values}
use Rattle.rnv_options.specs.declared.kind.Values.TheVariants.{Flag, Number, Word, Words, Patterns, Allowed, Tasks}
use Rattle.rnv_options.specs.declared.kind.Texts.TheVariants.{Any, Strategies, Rebases, Prefixes, Ages, Schedules}
use Rattle.rnv_options.specs.declared.kind.ReadAt.{ReadAt}
use Rattle.rnv_options.specs.declared.kind.ReadAt.TheVariants.{Repository, Dependency, Update, DependencyAndUpdate}

pub record TableRow : Type 0 where
  pub name : List ℕ
  pub kind : Kind
  pub read_at : ReadAt

abbrev pub row_of : Opt → TableRow
row_of AddLabels = record { name = codes "addLabels"; kind = Plain (Words Any true); read_at = Update }
row_of AllowedVersions = record { name = codes "allowedVersions"; kind = Plain Allowed; read_at = Dependency }
row_of BranchConcurrentLimit = record { name = codes "branchConcurrentLimit"; kind = Plain (Number (pos 0) (pos 1000000)); read_at = Repository }
row_of BranchPrefix = record { name = codes "branchPrefix"; kind = Plain (Word Prefixes); read_at = Update }
row_of CustomManagers = record { name = codes "customManagers"; kind = Customs; read_at = Repository }
row_of DependencyDashboard = record { name = codes "dependencyDashboard"; kind = Plain Flag; read_at = Repository }
row_of DependencyDashboardApproval = record { name = codes "dependencyDashboardApproval"; kind = Plain Flag; read_at = Update }
row_of Enabled = record { name = codes "enabled"; kind = Plain Flag; read_at = DependencyAndUpdate }
row_of EnabledManagers = record { name = codes "enabledManagers"; kind = Plain (Words Any false); read_at = Repository }
row_of GroupName = record { name = codes "groupName"; kind = Plain (Word Any); read_at = Update }
row_of GroupSlug = record { name = codes "groupSlug"; kind = Plain (Word Any); read_at = Update }
row_of IgnoreDeps = record { name = codes "ignoreDeps"; kind = Plain (Words Any true); read_at = Repository }
row_of IgnorePaths = record { name = codes "ignorePaths"; kind = Plain Patterns; read_at = Repository }
row_of Labels = record { name = codes "labels"; kind = Plain (Words Any false); read_at = Update }
row_of MinimumReleaseAge = record { name = codes "minimumReleaseAge"; kind = Plain (Word Ages); read_at = Update }
row_of PackageRules = record { name = codes "packageRules"; kind = Rules; read_at = Repository }
row_of PostUpgradeTasks = record { name = codes "postUpgradeTasks"; kind = Plain Tasks; read_at = Update }
row_of PrConcurrentLimit = record { name = codes "prConcurrentLimit"; kind = Plain (Number (pos 0) (pos 1000000)); read_at = Repository }
row_of PrHourlyLimit = record { name = codes "prHourlyLimit"; kind = Plain (Number (pos 0) (pos 1000000)); read_at = Repository }
row_of PrPriority = record { name = codes "prPriority"; kind = Plain (Number (negsuc 999999) (pos 1000000)); read_at = Update }
row_of RangeStrategy = record { name = codes "rangeStrategy"; kind = Plain (Word Strategies); read_at = Dependency }
row_of RebaseWhen = record { name = codes "rebaseWhen"; kind = Plain (Word Rebases); read_at = Update }
row_of Schedule = record { name = codes "schedule"; kind = Plain (Words Schedules false); read_at = Update }
row_of SeparateMajorMinor = record { name = codes "separateMajorMinor"; kind = Plain Flag; read_at = Dependency }
row_of SeparateMinorPatch = record { name = codes "separateMinorPatch"; kind = Plain Flag; read_at = Dependency }
row_of Timezone = record { name = codes "timezone"; kind = Plain (Word Any); read_at = Update }
row_of UpdateNotScheduled = record { name = codes "updateNotScheduled"; kind = Plain Flag; read_at = Update }

abbrev pub name_of : Opt → List ℕ
name_of opt = (row_of opt).name

abbrev pub kind_of : Opt → Kind
kind_of opt = (row_of opt).kind

-- all, in the order of names
abbrev pub all_opts : List Opt
all_opts = AddLabels ∷ AllowedVersions ∷ BranchConcurrentLimit ∷ BranchPrefix ∷ CustomManagers ∷ DependencyDashboard ∷ DependencyDashboardApproval ∷ Enabled ∷ EnabledManagers ∷ GroupName ∷ GroupSlug ∷ IgnoreDeps ∷ IgnorePaths ∷ Labels ∷ MinimumReleaseAge ∷ PackageRules ∷ PostUpgradeTasks ∷ PrConcurrentLimit ∷ PrHourlyLimit ∷ PrPriority ∷ RangeStrategy ∷ RebaseWhen ∷ Schedule ∷ SeparateMajorMinor ∷ SeparateMinorPatch ∷ Timezone ∷ UpdateNotScheduled ∷ []

-- the first of these that has the name
abbrev pub named_in : List ℕ → List Opt → Option Opt
named_in name [] = None
named_in name (opt ∷ opts) = if bytes_eq name (name_of opt) then Some opt else named_in name opts

abbrev pub opt_named : List ℕ → Option Opt
opt_named name = named_in name all_opts

abbrev pub is_below : ReadAt → Bool
is_below Repository = false
is_below Dependency = true
is_below Update = true
is_below DependencyAndUpdate = true

-- what is read of the repository alone is not read in a rule
abbrev pub is_read_in_rules : Opt → Bool
is_read_in_rules opt = is_below (row_of opt).read_at

abbrev pub plain_values : Kind → Option Values
plain_values (Plain values) = Some values
plain_values Rules = None
plain_values Customs = None

-- the values that a rule may set it to, none where it is not read in a rule
abbrev pub values_in_rules : Opt → Option Values
values_in_rules opt = if is_read_in_rules opt then plain_values (kind_of opt) else None
