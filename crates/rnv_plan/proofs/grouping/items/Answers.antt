use Rattle.std.proofs.Common.{◌≡◌, Bool, map, rules, Bor, ◌∙◌, ap}
use Rattle.std.specs.List.Sorted.{IsSorted, IsPermutation}
use Rattle.std.specs.Ordering.{is_lt}
use Rattle.std.specs.declared.cmp.Ordering.{Ordering}
use Rattle.std.proofs.lemmas.List.Sorted.{answers_always, ranks_by}
use Rattle.rnv_plan.specs.declared.group.Group.{Group}
use Rattle.rnv_plan.specs.Items.{item_cmp}
use Rattle.rnv_plan.specs.Groups.{group_in, item_of}
use Rattle.rnv_plan.proofs.Listed.{are_items, item-total}
use Rattle.rnv_plan.proofs.Staying.{group_named}
use Rattle.rnv_plan.proofs.grouping.items.Goals as goal

pub returns : goal.returns
returns c = λ updates same.
    let below : Group → Group → Bool = λ x y. is_lt (item_cmp x y) in
    let answers : Bor Group × (Bor Group × Unit {0}) → Ordering → Type 0 = λ a r. is_lt r ≡ below a.0.now a.1.0.now in
    let moved : IsPermutation (map item_of c.in_ok-branches.branches.entries) c.new.result =
    rw (c.new.ensures, ← c.in_ok-items.ensures.items) c.in_ok-sort_by.ensures.permutation in
    let sorted : IsSorted item_cmp c.new.result =
    rw c.new.ensures (c.in_ok-sort_by.ensures.sorted below (ranks_by item-total (λ (x : Group). x)) (answers_always _ answers _ (λ f a r f' q. search rules))) in
    are_items updates c.in_ok-branches.branches c.new.result c.listed.ensures.ordered (λ q. c.in_ok-branches.ensures q ∙ (ap (group_in q) same ∙ group_named q updates)) moved sorted
