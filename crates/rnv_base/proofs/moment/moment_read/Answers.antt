use Rattle.std.proofs.Common.{◌≡◌, sym, ◌∙◌}
use Rattle.rnv_base.specs.Civil.{civil_text}
use Rattle.rnv_base.proofs.Civils.{spells, spelt, same_seconds}
use Rattle.rnv_base.proofs.moment.moment_read.Goals as goal

pub returns-in_err-read-clause-exactly : goal.returns-in_err-read-clause-exactly
returns-in_err-read-clause-exactly c =
    λ moment. (
      λ e. absurd (cc),
      λ read. let s = spelt c.args.text.now moment read.1 in
          let none = c.in_err-read.ensures.only s.at (c.as_bytes.ensures.value ∙ s.text_is) in absurd (cc none),
    )

pub returns-clause-exactly : goal.returns-clause-exactly
returns-clause-exactly c =
    let found : c.args.text.now ≡ civil_text c.in_ok-read.field-0 = sym c.as_bytes.ensures.value ∙ c.in_ok-read.ensures.found in
    λ moment. (
      λ e. let told = (c.moment.ensures.exactly moment).0 e in
          (told.0, spells c.in_ok-read.field-0 c.args.text.now moment found told.1),
      λ read. let s = spelt c.args.text.now moment read.1 in
          (c.moment.ensures.exactly moment).1 (read.0, s.counts ∙ same_seconds s.at c.in_ok-read.field-0 (sym s.text_is ∙ found)),
    )
