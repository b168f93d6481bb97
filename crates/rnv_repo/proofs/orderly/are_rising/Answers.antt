use Rattle.std.proofs.Common.{◌≡◌, arith, nat_cmp, refl, ◌∙◌}
use Rattle.std.specs.Ordering.{on}
use Rattle.std.specs.Cmp.Lexicographic.{slice_cmp, on_texts}
use Rattle.std.specs.declared.cmp.Ordering.TheVariants.{Less}
use Rattle.rnv_repo.proofs.Rising.{neighbours_rise, rises_on, rising_from}
use Rattle.rnv_repo.proofs.orderly.are_rising.Goals as goal

pub returns-in_default : goal.returns-in_default
returns-in_default g c =
    let compared : c.cmp.result ≡ on g.T.HasPath.path (slice_cmp nat_cmp) c.index-items-at.result c.index-items-at-in-loop-at.result = cc in
    (λ t. absurd (cc t), λ rising. absurd (c.in_default.not-Less (compared ∙ neighbours_rise (on g.T.HasPath.path (slice_cmp nat_cmp)) c.args.items.now c.loop-at.at _ _ c.index-items-at.is c.index-items-at-in-loop-at.is (omega arith) (omega arith) rising)))

pub loop-at-preserved : goal.loop-at-preserved
loop-at-preserved g c =
    let below : on g.T.HasPath.path (slice_cmp nat_cmp) c.index-items-at.result c.index-items-at-in-loop-at.result ≡ Less = cc in
    rises_on (on g.T.HasPath.path (slice_cmp nat_cmp)) c.args.items.now c.loop-at.at _ _ c.index-items-at.is c.index-items-at-in-loop-at.is (omega arith) (omega arith) below c.loop-at.invariant

pub returns : goal.returns
returns g c =
    (λ t. rising_from (on g.T.HasPath.path (slice_cmp nat_cmp)) (on_texts g.T.HasPath.path) c.args.items.now (λ k d lt. c.loop-at.invariant k d (omega arith)), λ t. refl)
