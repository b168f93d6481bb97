use Rattle.std.proofs.Common.{◌≡◌, Option, subst}
use Rattle.std.specs.Prelude.{IfSome}
use Rattle.rnv_repo.specs.declared.write.Write.{Write}
use Rattle.rnv_repo.specs.WellFormed.{IsWellFormed}
use Rattle.rnv_spelling.specs.Spelling.{spelling}
use Rattle.rnv_spelling.proofs.WriteFormats.{whole_again}
use Rattle.rnv_forge.proofs.stored.add.Goals as goal

pub returns-in-Ok-clause-added : goal.returns-in-Ok-clause-added
returns-in-Ok-clause-added c =
    let payload = c.args.payload.now in
    let fits = subst (λ (o : Option Write). IfSome o (λ w. IsWellFormed w × (payload ≡ spelling w))) c.in-Ok-Some.field-0-is c.in-Ok-Some.ensures.read in
    record {
      write = c.in-Ok-Some.write;
      read = whole_again payload c.in-Ok-Some.write fits.0.texts fits.1;
      spells = fits.1;
      well_formed = fits.0;
      permitted = c.in-Ok.ensures.permitted;
      is = c.in-Ok.ensures.ok;
    }
