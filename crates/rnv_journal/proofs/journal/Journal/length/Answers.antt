use Rattle.std.proofs.Common.{◌++◌, ◌≤◌, ap, subst, arith}
use Rattle.rnv_journal.specs.File.{counted, end_of}
use Rattle.rnv_journal.specs.Held.{Held}
use Rattle.rnv_journal.proofs.Held.{end_small}
use Rattle.rnv_journal.proofs.journal.Journal.length.Goals as goal

pub overflow_add-result : goal.overflow_add-result
overflow_add-result c = omega (arith, end_small _ _ _ _ _ c.self.invariant)

pub returns : goal.returns
returns c = record {
  counted = omega (arith, c.self.invariant.place, ap (λ (h : Held). end_of h.entries) c.self.view_is);
  within = subst (λ (h : Held). counted (h.entries ++ h.prepared) ≤ h.limit) c.self.view_is c.self.invariant.within;
}
