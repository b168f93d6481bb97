use Rattle.std.proofs.Common.{◌≡◌, map, take, All, IsUtf8}
use Rattle.rnv_manager.specs.Finds.{views}
use Rattle.rnv_manager.specs.Steps.{values_of}
use Rattle.rnv_manager.proofs.replaced.values.Given as goal

abbrev pub invariant-loop-f : goal.invariant-loop-f
invariant-loop-f l = record {
  values : map (λ v. v.now) l.values.items ≡ values_of (views (take l.f-index l.finds));
  utf8 : All IsUtf8 (map (λ v. v.now) l.values.items);
}
