use Rattle.std.proofs.Common.{◌≡◌, ◌||◌, ◌++◌, ◌∙◌, ap, sym, [], ◌∷◌, Some}
use Rattle.std.specs.Str.{bytes_eq}
use Rattle.rnv_repo.specs.Base.{differs}
use Rattle.rnv_repo.specs.Merging.{left_at, sets_some}
use Rattle.rnv_repo.proofs.Merges.{merged_same, merged_other, counted_at}
use Rattle.rnv_repo.proofs.base.merge_file.Goals as goal

pub returns-in_ok-changing-in-Some : goal.returns-in_ok-changing-in-Some
returns-in_ok-changing-in-Some c =
    let change = c.in-Some.change.now in
    let count = counted_at c.args.changes.now _ _ _ c.count_below.ensures.count c.path.ensures in
    let new-is = c.in_ok-changing-in-Some.ensures.left ∙ ap (λ l. l ++ left_at c.args.revision c.args.file change.bytes) c.in_ok-add_new.ensures in
    let set = c.set_some-set.ensures in
    let changing = c.in_ok-changing-in-Some.ensures.differs in
    let any-is : (c.set_some-set.result || c.in_ok-changing-in-Some.changing) ≡ (sets_some c.split_at.result.0.now || differs change.bytes (Some c.args.file)) = cc in
    merged_same c.args.revision c.args.changes.now c.count_below.result c.split_at.result.0.now c.split_at.result.1.now c.in-Some.behind.now change c.args.file c.args.out.now _ _
    count c.split_at.ensures.front c.split_at.ensures.back c.in-Some.ensures.found.0 (c.in-Some.ensures.found.1 ∙ c.path-2.ensures) new-is any-is

pub returns-in_ok-push-in-None : goal.returns-in_ok-push-in-None
returns-in_ok-push-in-None c =
    let count = counted_at c.args.changes.now _ _ _ c.count_below.ensures.count c.path.ensures in
    merged_other c.args.revision c.args.changes.now c.count_below.result c.split_at.result.0.now c.split_at.result.1.now c.args.file c.args.out.now _ _
    count c.split_at.ensures.front c.split_at.ensures.back (λ d more e. ap (λ p. bytes_eq d.path p) (sym c.path-2.ensures) ∙ c.in-None.ensures.other d more e)
    (c.in_ok-push-in-None.ensures.ok ∙ ap (λ l. l ++ c.args.file ∷ []) c.in_ok-add_new.ensures) c.set_some-set.ensures
