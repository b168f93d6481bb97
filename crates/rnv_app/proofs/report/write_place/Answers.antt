use Rattle.std.proofs.Common.{◌++◌, ◌∷◌, [], codes}
use Rattle.std.specs.Fmt.{decimal}
use Rattle.rnv_app.proofs.Parts.{line-first, line-next}
use Rattle.rnv_app.proofs.report.write_place.Goals as goal

pub returns-in-Ok-clause-line : goal.returns-in-Ok-clause-line
returns-in-Ok-clause-line g c = λ t.
    line-next _ _ _ c.args.file.now (codes " line " ++ (decimal c.args.line ++ 10 ∷ [])) _ _ _ (c.in-Ok.ensures.written t) c.in-Ok.ensures.cause.later (c.write_row.ensures.line t)

pub returns-in-Err-clause-line : goal.returns-in-Err-clause-line
returns-in-Err-clause-line g c = λ t.
    let p = c.in-Err.ensures.part t in
    line-first _ _ c.args.file.now (codes " line " ++ (decimal c.args.line ++ 10 ∷ [])) _ _ p.0 p.1 p.2 c.in-Err.ensures.cause.failed
