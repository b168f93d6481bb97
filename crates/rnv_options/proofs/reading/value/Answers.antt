use Rattle.std.proofs.Common.{sym, subst}
use Rattle.rnv_options.specs.Readings.{Tells, told, value_of}
use Rattle.rnv_options.specs.declared.kind.Values.{Values}
use Rattle.serde_json.specs.View.{view}
use Rattle.rnv_options.proofs.reading.value.Goals as goal

pub returns-in-Patterns-clause-tells : goal.returns-in-Patterns-clause-tells
returns-in-Patterns-clause-tells g c = λ wrong agrees.
    subst (λ (k : Values). Tells told c.patterns.result (value_of wrong k (view c.args.value.now))) (sym c.in-Patterns.is) (c.patterns.ensures.tells wrong agrees)
