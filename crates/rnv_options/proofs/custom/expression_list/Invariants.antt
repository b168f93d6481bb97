use Rattle.std.proofs.Common.{◌≡◌, ℕ, List, Bool, not, take, drop}
use Rattle.std.specs.List.{list_all}
use Rattle.rnv_pattern.specs.Turns.{Agrees, Asks}
use Rattle.rnv_options.specs.Customs.{AreWhole, texts_built}
use Rattle.rnv_options.proofs.custom.expression_list.Given as goal

abbrev pub invariant-loop-text : goal.invariant-loop-text
invariant-loop-text g l =
    let builder = g.E.Builder in
    record {
      asks : Asks (builder.refused l.fn.engines) (builder.took l.fn.engines) (builder.others l.fn.engines) (builder.refused l.engines) (builder.took l.engines) (builder.others l.engines);
      texts : texts_built l.list ≡ take l.text-index l.texts;
      built : AreWhole l.list;
      tells : (wrong : List ℕ → Bool) → Agrees wrong (builder.refused l.fn.engines) (builder.took l.fn.engines) (builder.refused l.engines) (builder.took l.engines) →
          list_all (λ t. not (wrong t)) (drop l.text-index l.texts) ≡ list_all (λ t. not (wrong t)) l.texts;
    }
