use Rattle.std.proofs.Common.{◌++◌, ◌∷◌, ◌∙◌, ℕ, List, [], codes, ap}
use Rattle.std.specs.Fmt.{decimal}
use Rattle.rnv_app.proofs.Parts.{line-next}
use Rattle.rnv_app.proofs.report.write_limit.Goals as goal

pub returns-in-Ok-clause-line : goal.returns-in-Ok-clause-line
returns-in-Ok-clause-line g c = λ t.
    line-next _ _ _ (decimal c.args.number) (codes " " ++ (c.args.which.now ++ 10 ∷ [])) _ _ _
    (c.in-Ok.ensures.written t ∙ ap (λ (d : List ℕ). g.K.Sink.held c.args.out.now ++ d) (c.as_bytes.ensures.value ∙ c.format-digits.ensures.text)) c.in-Ok.ensures.cause.later (c.write_three.ensures.line t)
