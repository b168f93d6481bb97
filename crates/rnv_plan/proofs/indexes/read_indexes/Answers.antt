use Rattle.std.proofs.Common.{Err, ◌≡◌, ◌∙◌, List, ap, subst}
use Rattle.std.specs.BTreeMap.{BTreeMap, get}
use Rattle.std.specs.List.{All}
use Rattle.std.specs.Ordering.{nat_cmp}
use Rattle.std.specs.Cmp.Lexicographic.{slice_cmp}
use Rattle.std.proofs.lemmas.Result.{err_from_is_err_and}
use Rattle.rnv_base.specs.declared.kinds.SourceKind.{SourceKind}
use Rattle.rnv_base.specs.declared.kinds.SourceKind.TheVariants.{Crates, Npm, Docker}
use Rattle.rnv_base.specs.Files.{NamedFile}
use Rattle.rnv_pick.specs.Ranking.{IsListing}
use Rattle.rnv_plan.specs.declared.indexes.Indexes.{Indexes}
use Rattle.rnv_plan.specs.Gather.{releases_for}
use Rattle.rnv_plan.specs.Listings.{AreOfSome, listing_for, listings_of}
use Rattle.rnv_plan.specs.Refusal.{HasUnsound, HasUnsoundOf, IfTold}
use Rattle.rnv_plan.specs.Sources.{from}
use Rattle.rnv_plan.specs.Taken.{readable_in}
use Rattle.rnv_plan.proofs.BySource.{AreSound, all_sound, all_sources, before_docker, before_npm, by_source, of_source, refused_at}
use Rattle.rnv_plan.proofs.Told.{told-at}
use Rattle.rnv_plan.proofs.indexes.read_indexes.Goals as goal

pub returns-in_err-npm-clause-refused : goal.returns-in_err-npm-clause-refused
returns-in_err-npm-clause-refused g c = λ t.
    let files = g.O.Folder.files c.args.folder.now in
    let deps = readable_in c.args.taken.now in
    let refused = c.in_err-npm.field-0.0 in
    let ends = err_from_is_err_and c.from_residual-in_err-npm.result c.from_residual-in_err-npm.ensures.1 in
    told-at c.from_residual-in_err-npm.result refused (HasUnsoundOf files Npm (from Npm deps)) (HasUnsound files deps) (ends.1 ∙ ap Err ends.2)
    (λ e cause. refused_at files Npm deps e (before_npm files deps (c.in_ok-crates.ensures.sound t)) cause)
    (subst (λ (fs : List NamedFile). IfTold (HasUnsoundOf fs Npm (from Npm deps)) refused) (c.in_ok-crates.ensures.same t) (c.in_err-npm.ensures.refused t))

pub returns-in_err-docker-clause-refused : goal.returns-in_err-docker-clause-refused
returns-in_err-docker-clause-refused g c = λ t.
    let files = g.O.Folder.files c.args.folder.now in
    let deps = readable_in c.args.taken.now in
    let refused = c.in_err-docker.field-0.0 in
    let ends = err_from_is_err_and c.from_residual-in_err-docker.result c.from_residual-in_err-docker.ensures.1 in
    let one = c.in_ok-crates.ensures.same t in
    let two = c.in_ok-npm.ensures.same t ∙ one in
    told-at c.from_residual-in_err-docker.result refused (HasUnsoundOf files Docker (from Docker deps)) (HasUnsound files deps) (ends.1 ∙ ap Err ends.2)
    (λ e cause. refused_at files Docker deps e (before_docker files deps (c.in_ok-crates.ensures.sound t) (subst (λ (fs : List NamedFile). AreSound fs deps Npm) one (c.in_ok-npm.ensures.sound t))) cause)
    (subst (λ (fs : List NamedFile). IfTold (HasUnsoundOf fs Docker (from Docker deps)) refused) two (c.in_err-docker.ensures.refused t))

pub returns-clause-sound : goal.returns-clause-sound
returns-clause-sound g c = λ t.
    let files = g.O.Folder.files c.args.folder.now in
    let deps = readable_in c.args.taken.now in
    let one = c.in_ok-crates.ensures.same t in
    let two = c.in_ok-npm.ensures.same t ∙ one in
    all_sound files deps (c.in_ok-crates.ensures.sound t) (subst (λ (fs : List NamedFile). AreSound fs deps Npm) one (c.in_ok-npm.ensures.sound t))
    (subst (λ (fs : List NamedFile). AreSound fs deps Docker) two (c.in_ok-docker.ensures.sound t))

pub returns-clause-listed : goal.returns-clause-listed
returns-clause-listed g c = λ t.
    let files = g.O.Folder.files c.args.folder.now in
    let deps = readable_in c.args.taken.now in
    let one = c.in_ok-crates.ensures.same t in
    let two = c.in_ok-npm.ensures.same t ∙ one in
    let indexes : Indexes = record { crates = c.in_ok-crates.crates; npm = c.in_ok-npm.npm; docker = c.in_ok-docker.docker } in
    let Each = λ (fs : List NamedFile) (s : SourceKind). All (λ d. IsListing s (releases_for fs s d.«package») (listing_for indexes s d.«package»)) (from s deps) in
    all_sources (λ d. IsListing d.source (releases_for files d.source d.«package») (listing_for indexes d.source d.«package»)) deps
    (λ s. of_source (λ s d. IsListing s (releases_for files s d.«package») (listing_for indexes s d.«package»)) s deps
    (by_source (Each files) (c.in_ok-crates.ensures.listed t) (subst (λ (fs : List NamedFile). Each fs Npm) one (c.in_ok-npm.ensures.listed t))
    (subst (λ (fs : List NamedFile). Each fs Docker) two (c.in_ok-docker.ensures.listed t)) s))

pub returns-clause-some : goal.returns-clause-some
returns-clause-some g c =
    let indexes : Indexes = record { crates = c.in_ok-crates.crates; npm = c.in_ok-npm.npm; docker = c.in_ok-docker.docker } in
    by_source (λ s. AreOfSome s (listings_of indexes s)) c.in_ok-crates.ensures.some c.in_ok-npm.ensures.some c.in_ok-docker.ensures.some
