use Rattle.std.proofs.Common.{◌≡◌, ℕ, List, Bool, length}
use Rattle.serde_json.specs.View.{members_view}
use Rattle.rnv_pattern.specs.Turns.{Agrees, Asks}
use Rattle.rnv_config.specs.Configs.{AreBuilt, joined, members_read, told_read}
use Rattle.rnv_config.proofs.Joined.{after}
use Rattle.rnv_config.proofs.reading.members_read.Given as goal

abbrev pub invariant-loop-name : goal.invariant-loop-name
invariant-loop-name g l =
    let builder = g.E.Builder in
    record {
      asks : Asks (builder.refused l.fn.engines) (builder.took l.fn.engines) (builder.others l.fn.engines) (builder.refused l.engines) (builder.took l.engines) (builder.others l.engines);
      built : AreBuilt l.read;
      tells : (wrong : List ℕ → Bool) → Agrees wrong (builder.refused l.fn.engines) (builder.took l.fn.engines) (builder.refused l.engines) (builder.took l.engines) →
          members_read wrong (members_view l.fn.map.entries) ≡ after joined (told_read l.read) (members_read wrong (members_view l.left));
    }

abbrev pub decreases-loop-name : goal.decreases-loop-name
decreases-loop-name g l = length l.left
