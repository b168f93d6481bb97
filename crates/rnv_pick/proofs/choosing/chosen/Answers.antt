use Rattle.std.proofs.Common.{◌≡◌, ◌∙◌, ◌+◌, Some, ap, drop, arith, map, sym}
use Rattle.rnv_pick.specs.declared.allowance.Allowance.{Allowance}
use Rattle.rnv_pick.specs.declared.choice.Choice.{Choice}
use Rattle.rnv_pick.specs.Choices.{offered}
use Rattle.rnv_pick.specs.Seen.{aim_of, seen}
use Rattle.rnv_pick.proofs.Chosen.{asked, from, step_end, step_none, step_pending, step_ready}
use Rattle.rnv_pick.proofs.Listings.{seen_here, seen_length}
use Rattle.rnv_pick.proofs.choosing.chosen.Goals as goal

pub loop-live-preserved-in_default : goal.loop-live-preserved-in_default
loop-live-preserved-in_default g c =
    let n = g.V.Versioning.numbering c.args.versioning.now in
    let o = g.O.Rules.options c.args.rules.now in
    let aim = aim_of c.args.target.now in
    let k = asked n o c.args.moment aim c.args.bucket c.args.allowance.now in
    let same = c.loop-live.invariant.same in
    let is = c.in_ok-next.ensures.offered ∙ ap (λ (a : Allowance g.row.V-Range.Denot). offered n o c.args.moment aim c.args.bucket a (seen c.live-item.result)) same in
    record {
      rest = step_none k c.loop-live.top (map seen c.args.found.now) c.loop-live.live-index (seen c.live-item.result) c.in_ok-next.next (seen_here c.args.found.now c.loop-live.live-index c.live-item.result c.live-item.is (omega arith)) (omega (arith, seen_length c.args.found.now)) is c.in_default.is
          ∙ c.loop-live.invariant.rest;
      same = c.in_ok-next.ensures.same ∙ same;
    }

pub returns-then-not-next-clause-chosen : goal.returns-then-not-next-clause-chosen
returns-then-not-next-clause-chosen g c =
    let n = g.V.Versioning.numbering c.args.versioning.now in
    let o = g.O.Rules.options c.args.rules.now in
    let aim = aim_of c.args.target.now in
    let k = asked n o c.args.moment aim c.args.bucket c.args.allowance.now in
    let is = c.in_ok-next.ensures.offered ∙ ap (λ (a : Allowance g.row.V-Range.Denot). offered n o c.args.moment aim c.args.bucket a (seen c.live-item.result)) c.loop-live.invariant.same in
    step_ready k c.loop-live.top (map seen c.args.found.now) c.loop-live.live-index (seen c.live-item.result) c.in_ok-next.next c.in-Some.next
    (seen_here c.args.found.now c.loop-live.live-index c.live-item.result c.live-item.is (omega arith)) (omega (arith, seen_length c.args.found.now)) is c.in-Some.is
    c.if-not-next.true
    ∙ c.loop-live.invariant.rest

pub returns-then-not-next-clause-same : goal.returns-then-not-next-clause-same
returns-then-not-next-clause-same g c = c.in_ok-next.ensures.same ∙ c.loop-live.invariant.same

pub loop-live-preserved : goal.loop-live-preserved
loop-live-preserved g c =
    let n = g.V.Versioning.numbering c.args.versioning.now in
    let o = g.O.Rules.options c.args.rules.now in
    let aim = aim_of c.args.target.now in
    let k = asked n o c.args.moment aim c.args.bucket c.args.allowance.now in
    let i = c.loop-live.live-index in
    let found = c.args.found.now in
    let xs = map seen found in
    let same = c.loop-live.invariant.same in
    let is = c.in_ok-next.ensures.offered ∙ ap (λ (a : Allowance g.row.V-Range.Denot). offered n o c.args.moment aim c.args.bucket a (seen c.live-item.result)) same in
    record {
      rest = ap (λ (t : Choice). from k (Some t) (drop (i + 1) xs)) c.first_of.ensures
          ∙ step_pending k c.loop-live.top xs i (seen c.live-item.result) c.in_ok-next.next c.in-Some.next (seen_here found i c.live-item.result c.live-item.is (omega arith)) (omega (arith, seen_length found)) is c.in-Some.is c.if-not-next.false
          ∙ c.loop-live.invariant.rest;
      same = c.in_ok-next.ensures.same ∙ same;
    }

pub returns-clause-chosen : goal.returns-clause-chosen
returns-clause-chosen g c =
    let k = asked (g.V.Versioning.numbering c.args.versioning.now) (g.O.Rules.options c.args.rules.now) c.args.moment (aim_of c.args.target.now) c.args.bucket c.args.allowance.now in
    sym (step_end k c.loop-live.top (map seen c.args.found.now) c.loop-live.live-index (omega (arith, seen_length c.args.found.now))) ∙ c.loop-live.invariant.rest
