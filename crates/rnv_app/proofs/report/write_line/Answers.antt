use Rattle.std.proofs.Common.{length}
use Rattle.std.proofs.Math.Seq.{take-length}
use Rattle.rnv_app.proofs.report.write_line.Goals as goal

pub returns-in-Ok-clause-line : goal.returns-in-Ok-clause-line
returns-in-Ok-clause-line g c = λ t. record {
  count = length c.args.bytes.now;
  written = rw (take-length c.args.bytes.now) (c.in-Ok.ensures.written t);
  whole = λ still. c.in-Ok.ensures.written t;
}

pub returns-in-Err-clause-line : goal.returns-in-Err-clause-line
returns-in-Err-clause-line g c = λ t. record {
  count = (c.in-Err.ensures.part t).0;
  written = (c.in-Err.ensures.part t).2;
  whole = λ still. absurd (still c.in-Err.ensures.cause.failed);
}
