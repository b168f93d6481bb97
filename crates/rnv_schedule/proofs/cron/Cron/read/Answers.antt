use Rattle.std.proofs.Common.{arith, subst, Option}
use Rattle.std.proofs.lemmas.List.{length-map}
use Rattle.rnv_schedule.specs.Cron.{Locals}
use Rattle.rnv_schedule.specs.Schedules.{Reads, fields_set}
use Rattle.rnv_schedule.specs.Words.{texts}
use Rattle.rnv_schedule.proofs.Shapes.{four_fields, no_fields}
use Rattle.rnv_schedule.proofs.cron.Cron.read.Goals as goal

pub returns-then-fields-ne4 : goal.returns-then-fields-ne4
returns-then-fields-ne4 c = let same = length-map c.args.fields.now (λ r. r.now) in no_fields (texts c.args.fields.now) (omega arith)

pub returns : goal.returns
returns c = subst (λ (m : Option Locals). Reads m fields_set c.of.result) (four_fields c.args.fields.now _ c.if-fields-ne4.false) c.of.ensures
