use Rattle.std.proofs.Common.{arith, ◌∙◌}
use Rattle.std.proofs.lemmas.List.{length-map}
use Rattle.rnv_schedule.specs.Words.{texts}
use Rattle.rnv_schedule.proofs.Shapes.{no_range, two_parts}
use Rattle.rnv_schedule.proofs.items.range.Goals as goal

pub returns-in-len2 : goal.returns-in-len2
returns-in-len2 c = c.ends.ensures ∙ two_parts c.args.field c.args.parts.now _ c.in-len2.len_at_least c.in-len2.len_below

pub returns-in_default-2 : goal.returns-in_default-2
returns-in_default-2 c = no_range c.args.field (texts c.args.parts.now) (omega (arith, length-map c.args.parts.now (λ r. r.now), c.in_default.len_at_least))
