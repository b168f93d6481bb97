-- How far an update goes.
use Rattle.std.specs.Prelude.{ℕ}
use Rattle.rnv_base.specs.declared.kinds.UpdateKind.{UpdateKind}
use Rattle.rnv_base.specs.declared.kinds.UpdateKind.TheVariants as kind

-- a pin, a patch, a minor and a major update, in rising order
abbrev pub rank : UpdateKind → ℕ
rank kind.Pin = 0
rank kind.Patch = 1
rank kind.Minor = 2
rank kind.Major = 3
