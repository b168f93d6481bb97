use Rattle.std.proofs.Common.{List, [], ◌∷◌, ◌++◌, ℕ, All, IsUtf8, Bor, map, sym, ap, subst, ◌∙◌}
use Rattle.std.proofs.lemmas.List.{map_push}
use Rattle.rnv_manager.specs.Finds.{Find}
use Rattle.rnv_manager.proofs.Replacing.{pushed, all-more}
use Rattle.rnv_manager.proofs.replaced.values.Goals as goal

pub loop-f-preserved : goal.loop-f-preserved
loop-f-preserved c =
    let now = λ (v : Bor (List ℕ)). v.now in
    let more = ap (λ (vs : List (Bor (List ℕ))). map now vs) c.in_ok-push.ensures.items ∙ map_push _ _ _ in
    record {
      values = pushed (λ (f : Find). f.value) c.args.finds.now c.loop-f.f-index _ c.loop-f-test.true _ _ (more ∙ ap (λ (x : List ℕ). map now c.loop-f.values.items ++ x ∷ []) c.lent.ensures.same) c.loop-f.invariant.values;
      utf8 = subst (All IsUtf8) (sym more) (all-more _ _ c.loop-f.invariant.utf8 c.lent.ensures.utf8);
    }
