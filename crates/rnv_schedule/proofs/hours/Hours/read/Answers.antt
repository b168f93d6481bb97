use Rattle.std.proofs.Common.{arith}
use Rattle.std.proofs.lemmas.List.{length-map}
use Rattle.rnv_schedule.specs.Words.{texts}
use Rattle.rnv_schedule.proofs.Shapes.{no_hours}
use Rattle.rnv_schedule.proofs.hours.Hours.read.Goals as goal

pub returns-in_default : goal.returns-in_default
returns-in_default c =
    let same = length-map c.args.words.now (λ r. r.now) in
    no_hours (texts c.args.words.now) (omega (arith, c.in_default.len_at_least, c.in_default.len_below)) (omega (arith, c.in_default.len_at_least, c.in_default.len_below)) (omega (arith, c.in_default.len_at_least, c.in_default.len_below))

pub returns-in_default-2 : goal.returns-in_default-2
returns-in_default-2 c =
    let same = length-map c.args.words.now (λ r. r.now) in
    no_hours (texts c.args.words.now) (omega (arith, c.in_default.len_at_least, c.in_default.len_below)) (omega (arith, c.in_default.len_at_least, c.in_default.len_below)) (omega (arith, c.in_default.len_at_least, c.in_default.len_below))

pub returns-in_default-3 : goal.returns-in_default-3
returns-in_default-3 c =
    let same = length-map c.args.words.now (λ r. r.now) in
    no_hours (texts c.args.words.now) (omega (arith, c.in_default.len_at_least)) (omega (arith, c.in_default.len_at_least)) (omega (arith, c.in_default.len_at_least))
