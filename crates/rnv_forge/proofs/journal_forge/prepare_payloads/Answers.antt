use Rattle.std.proofs.Common.{◌≡◌, Err, ap, ◌∙◌}
use Rattle.rnv_journal.specs.declared.journal.PrepareError.TheVariants.{Full as JournalFull}
use Rattle.rnv_forge.proofs.journal_forge.prepare_payloads.Goals as goal

pub returns-in-Err-Full-clause-full : goal.returns-in-Err-Full-clause-full
returns-in-Err-Full-clause-full c n most e =
    let length : c.in-Err-Full.length ≡ n = cc in
    let limit : c.in-Err-Full.limit ≡ most = cc in
    let same : c.in-Err-Full.field-0 ≡ JournalFull n most = c.in-Err-Full.field-0-is ∙ ap (λ k. JournalFull k c.in-Err-Full.limit) length ∙ ap (λ k. JournalFull n k) limit in
    (c.in-Err-Full.ensures.full n most).0 (ap Err same)
