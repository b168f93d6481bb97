use Rattle.std.proofs.Common.{◌≡◌, ◌++◌, length, map}
use Rattle.rnv_options.specs.Readings.{Each}
use Rattle.rnv_config.specs.Merged.{merged, merged_settings, settings_by}
use Rattle.rnv_config.specs.Settings.{IsSettingBuilt, told_setting}
use Rattle.rnv_config.proofs.merging.merge.Given as goal

abbrev pub invariant-loop-left : goal.invariant-loop-left
invariant-loop-left l =
    record {
      told : map told_setting l.settings ++ settings_by (λ opt. merged opt l.parent.settings l.child.settings) l.left ≡ merged_settings l.fn.parent.settings l.fn.child.settings;
      built : Each IsSettingBuilt l.fn.parent.settings → Each IsSettingBuilt l.fn.child.settings → Each IsSettingBuilt l.settings;
    }

abbrev pub decreases-loop-left : goal.decreases-loop-left
decreases-loop-left l = length l.left
