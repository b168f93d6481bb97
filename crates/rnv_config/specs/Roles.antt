-- What a member is by its name, in a configuration and in a rule.
use Rattle.std.specs.Prelude.{ℕ, List, ◌++◌, codes, ◌||◌, if◌then◌else◌}
use Rattle.std.specs.Str.{bytes_eq}
use Rattle.rnv_config.specs.declared.role.Role.{Role}
use Rattle.rnv_config.specs.declared.role.Role.TheVariants.{Extends, Ignored, Silent, Named}

abbrev pub role_of : List ℕ → Role
role_of name =
    if bytes_eq name (codes "extends") then Extends
    else (if bytes_eq name (codes "ignorePresets") then Ignored
    else (if bytes_eq name (codes "$schema") || bytes_eq name (codes "description") then Silent else Named))

-- the warning of a name that is no option's
abbrev pub unknown_option : List ℕ → List ℕ
unknown_option name = codes "unknown option " ++ name
