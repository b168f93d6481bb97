use Rattle.std.specs.BTreeSet.{keys}
use Rattle.std.specs.BTreeMap.{get}
use Rattle.std.specs.List.{All}
use Rattle.std.specs.Ordering.{nat_cmp}
use Rattle.std.specs.Cmp.Lexicographic.{slice_cmp}
use Rattle.std.proofs.lemmas.Result.{on_ok_weaker, IfOk-weaker}
use Rattle.rnv_pick.specs.Ranking.{IsListing}
use Rattle.rnv_plan.specs.Taken.{readable_in}
use Rattle.rnv_plan.specs.Sources.{from}
use Rattle.rnv_plan.specs.Gather.{releases_for, IsSound}
use Rattle.rnv_plan.specs.Refusal.{HasUnsoundOf}
use Rattle.rnv_plan.specs.Packages.{HasUnsoundName}
use Rattle.rnv_plan.proofs.Documents.{All-packages, unsound-deps}
use Rattle.rnv_plan.proofs.Told.{told-weaker}
use Rattle.rnv_plan.proofs.indexes.read_source.Goals as goal

pub returns-clause-sound : goal.returns-clause-sound
returns-clause-sound g c = λ t.
    let s = c.args.source in
    on_ok_weaker c.read_each.result (All-packages (IsSound (g.O.Folder.files c.args.folder.now) s) (from s (readable_in c.args.taken.now)) c.in_ok-names.names c.in_ok-names.ensures) (c.read_each.ensures.sound t)

pub returns-clause-listed : goal.returns-clause-listed
returns-clause-listed g c = λ t.
    let files = g.O.Folder.files c.args.folder.now in
    let s = c.args.source in
    let deps = from s (readable_in c.args.taken.now) in
    IfOk-weaker c.read_each.result
    (λ listings. All (λ name. IsListing s (releases_for files s name) (get (slice_cmp nat_cmp) listings name)) (keys c.in_ok-names.names))
    (λ listings. All (λ d. IsListing s (releases_for files s d.«package») (get (slice_cmp nat_cmp) listings d.«package»)) deps)
    (λ listings. All-packages (λ name. IsListing s (releases_for files s name) (get (slice_cmp nat_cmp) listings name)) deps c.in_ok-names.names c.in_ok-names.ensures)
    (c.read_each.ensures.listed t)

pub returns-clause-refused : goal.returns-clause-refused
returns-clause-refused g c = λ t.
    let files = g.O.Folder.files c.args.folder.now in
    let s = c.args.source in
    let deps = from s (readable_in c.args.taken.now) in
    told-weaker c.read_each.result (HasUnsoundName files s (keys c.in_ok-names.names)) (HasUnsoundOf files s deps)
    (λ e. unsound-deps files s deps c.in_ok-names.names e c.in_ok-names.ensures) (c.read_each.ensures.refused t)
