use Rattle.std.proofs.Common.{◌≡◌, ◌&&◌, false, take}
use Rattle.std.specs.List.{list_any}
use Rattle.rnv_pattern.specs.Meaning.{is_as, pattern_holds}
use Rattle.rnv_pattern.proofs.matcher.some_matches.Given as goal

abbrev pub invariant-loop-index : goal.invariant-loop-index
invariant-loop-index l =
    (l.matchers ≡ l.fn.matchers)
    × (list_any (λ p. is_as l.negated p.negated && pattern_holds p l.text) (take l.index l.fn.matchers) ≡ false)
