use Rattle.std.proofs.Common.{◌≡◌, ◌+◌, ◌++◌, List, take, ap, sym, ◌∙◌, subst}
use Rattle.std.specs.Prelude.{filter}
use Rattle.std.proofs.lemmas.List.Elements.{filter-append}
use Rattle.rnv_pick.specs.declared.dep.Dep.{Dep}
use Rattle.rnv_plan.specs.Sources.{from, is_from, is_wanted}
use Rattle.rnv_plan.specs.Taken.{deps_in, is_readable, readable_in}
use Rattle.rnv_plan.specs.Packages.{AreNames}
use Rattle.rnv_plan.proofs.BySource.{wanted_from}
use Rattle.rnv_plan.proofs.TakenFiles.{deps-longer}
use Rattle.rnv_plan.proofs.indexes.package_names.Goals as goal

pub loop-file-preserved : goal.loop-file-preserved
loop-file-preserved c =
    let s = c.args.source in
    let ts = c.args.taken.now in
    let i = c.loop-file.file-index in
    let t = c.file-item.result in
    let more = c.in_ok-add_packages.ensures (from s (readable_in (take i ts))) c.loop-file.invariant in
    let readable : readable_in (take i ts) ++ filter is_readable t.deps ≡ readable_in (take (i + 1) ts) =
    sym (filter-append is_readable (deps_in (take i ts)) t.deps) ∙ ap (filter is_readable) (deps-longer ts i t c.loop-file-test.true c.file-item.is) in
    let longer : from s (readable_in (take i ts)) ++ filter (is_wanted s) t.deps ≡ from s (readable_in (take (i + 1) ts)) =
    ap (λ (ds : List Dep). from s (readable_in (take i ts)) ++ ds) (wanted_from s t.deps) ∙ sym (filter-append (is_from s) (readable_in (take i ts)) (filter is_readable t.deps))
    ∙ ap (from s) readable in
    subst (λ (ds : List Dep). AreNames ds c.add_packages.new.names) (ap (λ (ds : List Dep). from s (readable_in (take i ts)) ++ filter (is_wanted s) ds) c.as_slice.ensures ∙ longer) more
