use Rattle.std.proofs.Common.{arith, ◌≡◌, take, drop, get_or, rules, refl}
use Rattle.rnv_journal.specs.File.{four_bytes}
use Rattle.rnv_journal.proofs.Numbers.{entry_length, entry_number}
use Rattle.rnv_journal.proofs.reading.entry_at.Goals as goal
use Rattle.rnv_journal.proofs.reading.entry_at.Goals.{else-gate-eq1-via-then-gate-eq1+then-length-rest+else-length-room, else-gate-eq1-via-then-gate-eq1+else-length-rest, else-gate-eq1-via-else-gate-eq1}

pub returns-else-gate-eq1-clause-none : goal.returns-else-gate-eq1-clause-none
returns-else-gate-eq1-clause-none c payload more e =
    let four : four_bytes c.number-length.result ≡ take 4 (drop 1 c.args.bytes.now) = search rules in
    let number = entry_number c.args.bytes.now payload more c.number-length.result four e in
    let whole = entry_length c.args.bytes.now payload more e in
    let first : get_or c.args.bytes.now 0 0 ≡ 1 = rw e refl in
    elim c.else-gate-eq1.branch [
      | else-gate-eq1-via-then-gate-eq1+then-length-rest+else-length-room w ↦ omega arith
      | else-gate-eq1-via-then-gate-eq1+else-length-rest w ↦ omega arith
      | else-gate-eq1-via-else-gate-eq1 w ↦ absurd (w.if-gate-eq1.false first)
    ]

pub returns-in_default-clause-none : goal.returns-in_default-clause-none
returns-in_default-clause-none c payload more e = omega (arith, entry_length c.args.bytes.now payload more e)
