use Rattle.rnv_spelling.proofs.WriteFormats.{whole_again}
use Rattle.rnv_forge.proofs.stored.payload_of.Goals as goal

pub returns-clause-read : goal.returns-clause-read
returns-clause-read c = whole_again _ c.args.write.now c.has_texts.ensures c.in_ok-payload.ensures
