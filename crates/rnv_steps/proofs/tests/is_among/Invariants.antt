use Rattle.std.proofs.Common.{◌≡◌, drop}
use Rattle.std.specs.List.{list_any}
use Rattle.std.specs.Str.{bytes_eq}
use Rattle.rnv_steps.proofs.tests.is_among.Given as goal

abbrev pub invariant-loop-item : goal.invariant-loop-item
invariant-loop-item l = list_any (λ i. bytes_eq l.name i.branch) (drop l.item-index l.items) ≡ list_any (λ i. bytes_eq l.name i.branch) l.items
