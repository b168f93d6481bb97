use Rattle.std.proofs.Common.{arith}
use Rattle.rnv_journal.proofs.Numbers.{number_in_four}
use Rattle.rnv_journal.proofs.reading.number.Goals as goal

pub returns : goal.returns
returns c = number_in_four c.args.a c.args.b c.args.c c.args.d c.from_be_bytes.result (omega arith) (omega arith) (omega arith) c.from_be_bytes.ensures
