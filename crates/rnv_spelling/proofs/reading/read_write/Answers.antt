use Rattle.std.proofs.Common.{◌≡◌, ◌∙◌, sym, arith}
use Rattle.rnv_repo.specs.WellFormed.{IsOrderly}
use Rattle.rnv_spelling.proofs.Formats.{some_is}
use Rattle.rnv_spelling.proofs.WriteFormats.{whole_takes, whole_again}
use Rattle.rnv_spelling.proofs.reading.read_write.Goals as goal

pub returns-then-is_orderly-clause-read : goal.returns-then-is_orderly-clause-read
returns-then-is_orderly-clause-read c =
    let whole = whole_takes c.args.bytes.now c.in-Ok.write (λ i. omega (arith, c.type_inv.bytes i)) c.in-Ok.ensures in
    (record { orderly = c.is_orderly.ensures.0 c.if-is_orderly.true; texts = whole.0 }, whole.1)

pub returns-then-is_orderly-clause-only : goal.returns-then-is_orderly-clause-only
returns-then-is_orderly-clause-only c write fits spelled =
    sym c.in-Ok.ensures ∙ whole_again c.args.bytes.now write fits.texts spelled

pub returns-else-is_orderly-clause-only : goal.returns-else-is_orderly-clause-only
returns-else-is_orderly-clause-only c write fits spelled =
    let again = whole_again c.args.bytes.now write fits.texts spelled in
    let same : c.in-Ok.write ≡ write = some_is c.in-Ok.write write (sym c.in-Ok.ensures ∙ again) in
    let orderly : IsOrderly c.in-Ok.write = rw same fits.orderly in
    let yes' = c.is_orderly.ensures.1 orderly in
    absurd (cc (yes', c.if-is_orderly.false))

pub returns-in-Err-NotSpelled-clause-only : goal.returns-in-Err-NotSpelled-clause-only
returns-in-Err-NotSpelled-clause-only c write fits spelled =
    sym (rw c.in-Err-NotSpelled.field-0-is at c.in-Err-NotSpelled.ensures) ∙ whole_again c.args.bytes.now write fits.texts spelled
