use Rattle.std.proofs.Common.{◌≡◌, ◌∙◌, sym, ap, not, List}
use Rattle.std.specs.List.{list_any}
use Rattle.rnv_pattern.specs.declared.pattern.Pattern.{Pattern}
use Rattle.rnv_pattern.proofs.Deciding.{positive-test}
use Rattle.rnv_pattern.proofs.matcher.ListMatcher.of.Goals as goal

pub invariant_of-result : goal.invariant_of-result
invariant_of-result c =
    positive-test c.has_positive.result c.args.patterns.now c.has_positive.ensures
    ∙ ap (λ (ps : List Pattern). list_any (λ p. not p.negated) ps) (sym c.in_ok-matchers.ensures)
