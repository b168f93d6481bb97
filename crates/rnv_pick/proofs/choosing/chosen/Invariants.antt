use Rattle.std.proofs.Common.{◌≡◌, None, drop, map}
use Rattle.rnv_pick.specs.Choices.{chosen_from}
use Rattle.rnv_pick.specs.Seen.{aim_of, seen}
use Rattle.rnv_pick.proofs.choosing.chosen.Given as goal

abbrev pub invariant-loop-live : goal.invariant-loop-live
invariant-loop-live g l =
    let n = g.V.Versioning.numbering l.versioning in
    let o = g.O.Rules.options l.rules in
    let allowance = l.initial.allowance in
    record {
      rest : chosen_from n o l.moment (aim_of l.target) l.bucket allowance l.top (drop l.live-index (map seen l.found)) ≡ chosen_from n o l.moment (aim_of l.target) l.bucket allowance None (map seen l.found);
      same : l.allowance ≡ allowance;
    }
