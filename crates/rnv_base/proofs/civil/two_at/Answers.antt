use Rattle.std.proofs.Common.{◌/◌, ◌%◌, arith}
use Rattle.rnv_base.proofs.civil.two_at.Goals as goal

pub returns-clause-value : goal.returns-clause-value
returns-clause-value c =
    λ n below tens ones. omega (arith, c.digit.ensures.value (n / 10) (omega arith) tens, c.digit-2.ensures.value (n % 10) (omega arith) ones)
