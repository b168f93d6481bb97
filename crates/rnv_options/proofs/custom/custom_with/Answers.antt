use Rattle.std.proofs.Common.{◌≡◌, Some, rules}
use Rattle.std.specs.Prelude.{codes}
use Rattle.serde_json.specs.Find.{get}
use Rattle.serde_json.specs.View.{view}
use Rattle.rnv_pattern.proofs.Turns.{agrees_first, agrees_later}
use Rattle.rnv_options.specs.Customs.{name_at, source_at}
use Rattle.rnv_options.proofs.Listed.{read-custom, wrong-strings}
use Rattle.rnv_options.proofs.custom.custom_with.Goals as goal

pub returns-in-Ok-expressions-clause-tells : goal.returns-in-Ok-expressions-clause-tells
returns-in-Ok-expressions-clause-tells g c = λ wrong agrees.
    let first = agrees_first wrong _ _ _ _ _ _ _ _ _ c.in-Ok.ensures.asks c.in-Ok-expressions.ensures.asks agrees in
    let later = agrees_later wrong _ _ _ _ _ _ _ _ _ c.in-Ok.ensures.asks c.in-Ok-expressions.ensures.asks agrees in
    let source : source_at (get (codes "datasourceTemplate") (view c.args.object.now)) ≡ Some c.in_ok-source.source = search rules in
    let name : name_at (get (codes "depNameTemplate") (view c.args.object.now)) ≡ Some c.in_ok-name.name = search rules in
    read-custom _ _ _ _ _ _ _ _ (c.in-Ok.ensures.tells wrong first) (c.in-Ok-expressions.ensures.tells wrong later) source name

pub returns-in-Err-expressions-clause-tells : goal.returns-in-Err-expressions-clause-tells
returns-in-Err-expressions-clause-tells g c = λ wrong agrees.
    let later = agrees_later wrong _ _ _ _ _ _ _ _ _ c.in-Ok.ensures.asks c.in-Err-expressions.ensures.asks agrees in
    wrong-strings c.in-Err-expressions.wrong _ _ _ _ (c.in-Err-expressions.ensures.tells wrong later)
