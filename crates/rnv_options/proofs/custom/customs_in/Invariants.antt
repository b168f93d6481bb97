use Rattle.std.proofs.Common.{◌≡◌, ℕ, List, Bool, drop, map}
use Rattle.serde_json.specs.View.{items_view}
use Rattle.rnv_pattern.specs.Turns.{Agrees, Asks}
use Rattle.rnv_options.specs.Customs.{IsCustomBuilt, customs_in, told_custom}
use Rattle.rnv_options.specs.Readings.{Each}
use Rattle.rnv_options.proofs.Listed.{behind_customs}
use Rattle.rnv_options.proofs.custom.customs_in.Given as goal

abbrev pub invariant-loop-item : goal.invariant-loop-item
invariant-loop-item g l =
    let builder = g.E.Builder in
    record {
      asks : Asks (builder.refused l.fn.engines) (builder.took l.fn.engines) (builder.others l.fn.engines) (builder.refused l.engines) (builder.took l.engines) (builder.others l.engines);
      built : Each IsCustomBuilt l.list;
      tells : (wrong : List ℕ → Bool) → Agrees wrong (builder.refused l.fn.engines) (builder.took l.fn.engines) (builder.refused l.engines) (builder.took l.engines) →
          customs_in wrong (items_view l.items) ≡ behind_customs (map told_custom l.list) (customs_in wrong (items_view (drop l.item-index l.items)));
    }
