use Rattle.std.proofs.Common.{◌≡◌, ◌+◌, ◌<◌, List, [], ◌∷◌, ◌++◌, Err, length, take, codes, ap, sym, subst, ◌∙◌, arith}
use Rattle.std.proofs.lemmas.Result.{err_from_is_err_and}
use Rattle.rnv_base.specs.Limits.{most_dependencies}
use Rattle.rnv_repo.specs.Files.{MarkedFile}
use Rattle.rnv_pick.specs.declared.dep.Dep.{Dep}
use Rattle.rnv_plan.specs.declared.error.RunError.TheVariants.{Limit}
use Rattle.rnv_plan.specs.declared.taken.TakenFile.{TakenFile}
use Rattle.rnv_plan.specs.Managers.{manager_of}
use Rattle.rnv_plan.specs.Taken.{AreDeps, AreTaken, IsTaken, deps_in}
use Rattle.rnv_plan.specs.Refusal.{HaveMany}
use Rattle.rnv_plan.proofs.TakenFiles.{many-from, taken-more, taken-other, count-more}
use Rattle.rnv_plan.proofs.Told.{told-at}
use Rattle.rnv_plan.proofs.taken.taken.Goals.{in-Some+in_ok-deps+in_ok-share+in_ok-push, in_default}
use Rattle.rnv_plan.proofs.taken.taken.Goals as goal

pub returns-in_err-deps-clause-many : goal.returns-in_err-deps-clause-many
returns-in_err-deps-clause-many c =
    let files = c.args.files.now in
    let f = c.file-item.result in
    let m = c.in-Some.manager in
    let room = c.loop-file.room in
    let manager = sym (c.manager_of.ensures ∙ ap manager_of (c.as_str.ensures ∙ ap (λ (g : MarkedFile). g.path) c.file.view_is)) ∙ c.in-Some.is in
    let ends = err_from_is_err_and c.from_residual.result c.from_residual.ensures.1 in
    told-at c.from_residual.result c.in_err-deps.field-0.0 (λ e. (ds : List Dep) × AreDeps m f ds × (room < length ds) × (e ≡ Limit (codes "dependencies") most_dependencies)) (λ e. HaveMany files × (e ≡ Limit (codes "dependencies") most_dependencies)) (ends.1 ∙ ap Err ends.2)
    (λ e h. (many-from files c.loop-file.file-index f c.loop-file.taken m h.0 room c.loop-file-test.true c.file-item.is c.loop-file.invariant.read c.loop-file.invariant.room manager h.1 h.2, h.3)) c.in_err-deps.ensures.many

pub loop-file-preserved : goal.loop-file-preserved
loop-file-preserved c =
    let files = c.args.files.now in
    let f = c.file-item.result in
    let i = c.loop-file.file-index in
    let ts = c.loop-file.taken in
    let path = ap (λ (g : MarkedFile). g.path) c.file.view_is in
    let manager = sym (c.manager_of.ensures ∙ ap manager_of (c.as_str.ensures ∙ path)) in
    elim c.match-manager_of.branch [
      | in-Some+in_ok-deps+in_ok-share+in_ok-push w ↦
          let t : TakenFile = record { path = w.in_ok-share.field-0; manager = w.in-Some.manager; deps = w.in_ok-deps.deps } in
          let here : IsTaken f t = record { path = w.in_ok-share.ensures ∙ path; manager = manager ∙ w.in-Some.is; deps = w.in_ok-deps.ensures.deps } in
          let pushed : c.match-manager_of.taken ≡ ts ++ t ∷ [] = w.taken-is ∙ w.in_ok-push.ensures.ok in
          let count = ap (λ (us : List TakenFile). length (deps_in us)) pushed in
          record {
            read = subst (λ (us : List TakenFile). AreTaken (take (i + 1) files) us) (sym pushed) (taken-more files i f ts t c.loop-file-test.true c.file-item.is c.loop-file.invariant.read here);
            room = omega (arith, count, count-more ts t, w.room-is, w.len.ensures, w.in_ok-deps.ensures.few, c.loop-file.invariant.room);
          }
      | in_default w ↦
          let count = ap (λ (us : List TakenFile). length (deps_in us)) w.taken-is in
          record {
            read = subst (λ (us : List TakenFile). AreTaken (take (i + 1) files) us) (sym w.taken-is) (taken-other files i f ts c.loop-file-test.true c.file-item.is c.loop-file.invariant.read (manager ∙ w.in_default.is));
            room = omega (arith, count, w.room-is, c.loop-file.invariant.room);
          }
    ]
