use Rattle.std.proofs.Common.{[], arith, refl, ◌∙◌}
use Rattle.std.proofs.lemmas.Map.Keys.{sorted_from_all_adjacent}
use Rattle.std.specs.Cmp.Lexicographic.{nat_list_cmp_total}
use Rattle.rnv_base.proofs.Listed.{neighbours_rise}
use Rattle.rnv_base.proofs.rising.is_rising.Goals as goal

pub returns : goal.returns
returns c = (λ t. sorted_from_all_adjacent nat_list_cmp_total c.args.texts.now [] (λ k lt. c.loop-at.invariant k (omega arith)), λ t. refl)

pub returns-in_default : goal.returns-in_default
returns-in_default c =
    (λ t. absurd (cc t), λ rising. absurd (c.in_default.not-Less (c.cmp.ensures ∙ neighbours_rise _ c.args.texts.now c.loop-at.at _ _ c.index-texts-at.is c.index-texts-at-in-loop-at.is (omega arith) (omega arith) rising)))
