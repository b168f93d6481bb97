use Rattle.std.proofs.Common.{sym, subst}
use Rattle.std.specs.Str.{IsUtf8}
use Rattle.rnv_desired.proofs.Printed.{printable_utf8}
use Rattle.rnv_desired.proofs.printing.printable.Goals as goal

pub unreachable-requires : goal.unreachable-requires
unreachable-requires c =
    let never = c.in-Err.ensures.succeeds (subst IsUtf8 (sym c.in_ok-bytes.ensures) (printable_utf8 c.args.text.now c.utf8.text)) in
    absurd (cc never)
