use Rattle.std.proofs.Common.{◌≡◌, ◌++◌, ◌∙◌, ap, sym, arith, [], length}
use Rattle.std.specs.Vec.Iter.{into_iter_items}
use Rattle.std.proofs.lemmas.List.{nil_from_length}
use Rattle.rnv_repo.specs.Base.{changed}
use Rattle.rnv_repo.proofs.Merges.{last_sets, merged_files, merged_changing, rising_more}
use Rattle.rnv_repo.proofs.base.merged.Goals as goal

pub loop-file-preserved : goal.loop-file-preserved
loop-file-preserved c =
    let s = c.in-Some.ensures.steps in
    let m = c.in_ok-rest.ensures in
    let v = c.loop-file.invariant in
    record {
      files = merged_files c.args.revision c.loop-file.left.now c.in_ok-rest.rest.now c.in-Some.file _ _ _ _ _ _ s.0 m v.rising v.rising_left v.files;
      changing = merged_changing c.args.revision c.loop-file.left.now c.in_ok-rest.rest.now c.in-Some.file _ _ _ _ _ _ _ s.0 m v.rising v.rising_left v.changing;
      rising = rising_more c.in-Some.file _ _ s.0 v.rising;
      rising_left = m.rising v.rising_left;
      counted = omega (arith, s.1, v.counted, ap length s.0);
    }

pub returns-clause-files : goal.returns-clause-files
returns-clause-files c =
    let v = c.loop-file.invariant in
    let none : into_iter_items c.loop-file.file-iterator ≡ [] = nil_from_length (into_iter_items c.loop-file.file-iterator) (sym v.counted ∙ c.in-None.ensures.steps.0) in
    c.in_ok-add_new.ensures ∙ ap (λ l. c.loop-file.out ++ l) (sym (last_sets c.args.revision c.loop-file.left.now v.rising_left))
    ∙ ap (λ l. c.loop-file.out ++ changed c.args.revision c.loop-file.left.now l) (sym none) ∙ v.files
