use Rattle.std.proofs.Common.{◌≡◌, ◌∷◌, ◌++◌, [], refl}
use Rattle.std.specs.Prelude.{unwrap_or}
use Rattle.std.specs.BTreeMap.{get}
use Rattle.std.specs.Cmp.Lexicographic.{slice_cmp}
use Rattle.std.specs.Ordering.{nat_cmp}
use Rattle.rnv_plan.specs.declared.named.NamedUpdate.{NamedUpdate}
use Rattle.rnv_plan.specs.Groups.{group_in}
use Rattle.rnv_plan.proofs.Grouped.{group_more}
use Rattle.rnv_plan.proofs.grouping.by_branch.Goals as goal

pub loop-one-preserved : goal.loop-one-preserved
loop-one-preserved c = λ q.
    let n = c.in-Some.one in let k = n.branch in let ns = c.loop-one.yielded in
    let group : c.push.new.self ≡ unwrap_or (group_in k ns) [] ++ n.update ∷ [] = cc (c.in_ok-push.ensures.ok, c.unwrap_or-group.ensures, c.empty.ensures, c.remove.ensures.value, c.loop-one.invariant k) in
    group_more (λ (m : NamedUpdate). m.branch) (λ (m : NamedUpdate). m.update) q k n ns c.push.new.self (get (slice_cmp nat_cmp) c.loop-one.branches q) (get (slice_cmp nat_cmp) c.remove.new.self q) (get (slice_cmp nat_cmp) c.insert.new.self q) refl group
    (c.loop-one.invariant q) (c.remove.ensures.updates.0 q) (c.in_ok-insert.ensures.updates.0 q)
