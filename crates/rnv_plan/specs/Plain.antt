-- What no configuration says of dependencies and updates: the defaults of all options.
use Rattle.std.specs.Prelude.{true, false, None}
use Rattle.rnv_base.specs.declared.kinds.Strategy.TheVariants.{Auto}
use Rattle.rnv_pick.specs.Options.{Options}

-- nothing is ignored, values are replaced, all versions are allowed, major updates are chosen apart from the others, and
-- no update waits
abbrev pub plain : Options
plain = record {
  is_ignored = λ dep. false;
  at_dep = λ dep. record { enabled = true; strategy = Auto; allowed = None; split_major = true; split_patch = false };
  at_update = λ dep kind value. record { enabled = true; age = None };
}
