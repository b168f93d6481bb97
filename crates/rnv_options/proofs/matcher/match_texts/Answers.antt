use Rattle.std.proofs.Common.{sym, subst}
use Rattle.serde_json.specs.View.{view}
use Rattle.rnv_options.specs.Readings.{Tells}
use Rattle.rnv_options.specs.Matchers.{match_texts}
use Rattle.rnv_options.specs.declared.plain.Patterns.{Patterns}
use Rattle.rnv_options.specs.declared.matcher.MatchKind.{MatchKind}
use Rattle.rnv_options.proofs.matcher.match_texts.Goals as goal

pub returns-in-PatternTexts-clause-tells : goal.returns-in-PatternTexts-clause-tells
returns-in-PatternTexts-clause-tells g c = λ wrong agrees.
    subst (λ (k : MatchKind). Tells (λ (p : Patterns). p.texts) c.pattern_texts.result (match_texts wrong k (view c.args.value.now))) (sym c.in-PatternTexts.is) (c.pattern_texts.ensures.tells wrong agrees)
