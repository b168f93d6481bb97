use Rattle.std.proofs.Common.{List, ℕ, [], ◌∷◌, sym, ap, subst, ◌∙◌}
use Rattle.rnv_manager.specs.Finds.{Find, views, AreCut}
use Rattle.rnv_manager.specs.Marks.{find_at}
use Rattle.rnv_manager.specs.Tool.{fmt}
use Rattle.rnv_manager.proofs.Tools.{one-find, no-find, cut-before, cut-behind, views-one}
use Rattle.rnv_manager.proofs.tests.tools.Goals as goal

pub returns-then-not-is_line-clause-finds : goal.returns-then-not-is_line-clause-finds
returns-then-not-is_line-clause-finds c = ap views c.empty.ensures ∙ no-find c.args.file.now (sym c.if-not-is_line.ensures)

pub range_from-requires : goal.range_from-requires
range_from-requires c = λ _. cut-before c.args.file.now (sym c.if-not-is_line.ensures) c.utf8.file

pub returns-clause-finds : goal.returns-clause-finds
returns-clause-finds c =
    views-one _ _ _ c.in_ok-push.ensures.ok c.empty-found.ensures
    ∙ (ap (λ (v : List ℕ). find_at fmt v 10 ∷ []) c.range_from.ensures.value ∙ one-find c.args.file.now (sym c.if-not-is_line.ensures))

pub returns-clause-cuts : goal.returns-clause-cuts
returns-clause-cuts c =
    let is = views-one _ _ _ c.in_ok-push.ensures.ok c.empty-found.ensures ∙ ap (λ (v : List ℕ). find_at fmt v 10 ∷ []) c.range_from.ensures.value in
    subst (λ (fs : List Find). AreCut c.args.file.now fs) (sym is) (cut-before c.args.file.now (sym c.if-not-is_line.ensures) c.utf8.file, cut-behind c.args.file.now (sym c.if-not-is_line.ensures), tt)
