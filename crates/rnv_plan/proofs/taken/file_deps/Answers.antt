use Rattle.std.proofs.Common.{◌≡◌, ◌<◌, List, length, codes, map, ap, ◌∙◌}
use Rattle.rnv_base.specs.Limits.{most_dependencies}
use Rattle.rnv_repo.specs.Files.{MarkedFile}
use Rattle.rnv_manager.specs.declared.found.Found.{Found}
use Rattle.rnv_manager.specs.Finds.{views}
use Rattle.rnv_pick.specs.declared.dep.Dep.{Dep}
use Rattle.rnv_plan.specs.declared.error.RunError.TheVariants.{Limit}
use Rattle.rnv_plan.specs.Taken.{AreDeps, dep_of}
use Rattle.rnv_plan.proofs.TakenFiles.{found-deps, found-many}
use Rattle.rnv_plan.proofs.Told.{IfTold-weaker}
use Rattle.rnv_plan.proofs.taken.file_deps.Goals as goal

pub returns-then-len-room-clause-many : goal.returns-then-len-room-clause-many
returns-then-len-room-clause-many c =
    let f = c.args.file.now in
    let m = c.args.manager in
    let many = found-many m f c.as_slice.result.now c.in_ok-found.found c.args.room c.len.result (c.as_slice.ensures ∙ ap (λ (m : MarkedFile). m.bytes) c.file.view_is) c.in_ok-found.ensures c.len.ensures c.if-len-room.true in
    IfTold-weaker (λ e. e ≡ Limit (codes "dependencies") most_dependencies) (λ e. (ds : List Dep) × AreDeps m f ds × (c.args.room < length ds) × (e ≡ Limit (codes "dependencies") most_dependencies)) c.limit.result
    (λ e same. (many.0, many.1, many.2, same)) c.limit.ensures.told

pub returns-clause-deps : goal.returns-clause-deps
returns-clause-deps c =
    let m = c.args.manager in
    found-deps m c.args.file.now c.as_slice.result.now c.as_str.result.now c.in_ok-found.found c.in_ok-deps.field-0 (c.as_slice.ensures ∙ ap (λ (m : MarkedFile). m.bytes) c.file.view_is) (c.as_str.ensures ∙ ap (λ (m : MarkedFile). m.path) c.file.view_is) c.in_ok-found.ensures
    (c.in_ok-deps.ensures ∙ ap (λ (fs : List Found). map (dep_of c.as_str.result.now m) (views fs)) c.as_slice-2.ensures)
