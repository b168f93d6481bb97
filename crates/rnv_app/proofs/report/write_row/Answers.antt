use Rattle.std.proofs.Common.{◌++◌, ◌∷◌, ◌∙◌, ℕ, List, [], codes, subst}
use Rattle.rnv_app.specs.Refusals.{IsLine}
use Rattle.rnv_app.proofs.report.write_row.Goals as goal

pub returns-clause-line : goal.returns-clause-line
returns-clause-line g c = λ t.
    subst (λ (d : List ℕ). IsLine (g.K.Sink.held c.args.out.now) (g.K.Sink.held c.write_three.new.out) (g.K.Sink.faults c.args.out.now) (g.K.Sink.faults c.write_three.new.out) (codes " line " ++ (d ++ 10 ∷ [])))
    (c.as_bytes.ensures.value ∙ c.format-digits.ensures.text) (c.write_three.ensures.line t)
