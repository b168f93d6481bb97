use Rattle.std.proofs.Common.{◌≡◌, ◌++◌, take}
use Rattle.rnv_commands.specs.Printing.{shown}
use Rattle.rnv_commands.proofs.printing.add_shown.Given as goal

abbrev pub invariant-loop-byte : goal.invariant-loop-byte
invariant-loop-byte l = l.out.items ≡ l.initial.out.items ++ shown (take l.byte-index l.byte-items)
