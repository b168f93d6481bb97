use Rattle.std.proofs.Common.{arith}
use Rattle.std.proofs.lemmas.List.{length-map}
use Rattle.rnv_schedule.specs.Words.{texts}
use Rattle.rnv_schedule.proofs.Shapes.{no_item}
use Rattle.rnv_schedule.proofs.items.read_parts.Goals as goal

pub returns-in_default-2 : goal.returns-in_default-2
returns-in_default-2 c =
    let same = length-map c.args.parts.now (λ r. r.now) in
    no_item c.args.field (texts c.args.parts.now) (omega (arith, c.in_default.len_at_least)) (omega (arith, c.in_default.len_at_least))
