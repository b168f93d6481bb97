use Rattle.std.proofs.Common.{◌≡◌, None, map, take}
use Rattle.std.specs.List.{flat_map}
use Rattle.rnv_pick.specs.Choices.{chosen_from}
use Rattle.rnv_pick.specs.Seen.{aim_of, seen}
use Rattle.rnv_pick.specs.Updates.{updates_to}
use Rattle.rnv_pick.proofs.picking.to_each.Given as goal

abbrev pub invariant-loop-bucket : goal.invariant-loop-bucket
invariant-loop-bucket g l =
    let n = g.V.Versioning.numbering l.versioning in
    let o = g.O.Rules.options l.rules in
    record {
      updates : l.updates ≡ flat_map (λ b. updates_to l.target.dep.now l.target.options.now (chosen_from n o l.moment (aim_of l.target) b l.initial.allowance None (map seen l.found))) (take l.bucket-index l.all);
      same : l.allowance ≡ l.initial.allowance;
    }
