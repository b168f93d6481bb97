use Rattle.std.proofs.Common.{List, subst}
use Rattle.std.specs.Prelude.{All}
use Rattle.std.proofs.lemmas.List.Elements.{recursion_from_All}
use Rattle.rnv_repo.specs.declared.write.Write.{Write}
use Rattle.rnv_repo.specs.WellFormed.{IsOrderly}
use Rattle.rnv_forge.proofs.tests.prepare.Goals as goal

pub prepare-requires-clause-orderly : goal.prepare-requires-clause-orderly
prepare-requires-clause-orderly g c =
    recursion_from_All IsOrderly c.args.list (subst (λ (l : List Write). All IsOrderly l) c.as_slice.ensures (c.are_orderly.ensures.0 c.if-are_orderly.true))
