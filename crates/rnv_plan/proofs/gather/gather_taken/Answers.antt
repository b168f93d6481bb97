use Rattle.std.proofs.Common.{List, subst}
use Rattle.std.specs.List.{All}
use Rattle.std.proofs.lemmas.Result.{IfOk-weaker}
use Rattle.rnv_pick.specs.Ranking.{IsListing}
use Rattle.rnv_plan.specs.declared.taken.TakenFile.{TakenFile}
use Rattle.rnv_plan.specs.Gather.{IsSound, releases_for}
use Rattle.rnv_plan.specs.Listings.{listing_for}
use Rattle.rnv_plan.specs.Taken.{readable_in}
use Rattle.rnv_plan.proofs.Picks.{picked-from, picked-some, some_releases}
use Rattle.rnv_plan.proofs.gather.gather_taken.Goals as goal

pub returns-clause-gathered : goal.returns-clause-gathered
returns-clause-gathered g c = λ t.
    let files = g.O.Folder.files c.args.folder.now in
    let indexes = c.in_ok-indexes.indexes in (
      subst (λ (ts : List TakenFile). All (λ d. IsSound files d.source d.«package») (readable_in ts)) c.as_slice.ensures (c.in_ok-indexes.ensures.sound t),
      picked-from c.args.moment indexes c.in_ok-indexes.ensures.some (releases_for files) c.args.taken c.in_ok-pick_files.field-0
          (subst (λ (ts : List TakenFile). All (λ d. IsListing d.source (releases_for files d.source d.«package») (listing_for indexes d.source d.«package»)) (readable_in ts)) c.as_slice.ensures (c.in_ok-indexes.ensures.listed t))
          c.in_ok-pick_files.ensures,
    )

pub returns-clause-picked : goal.returns-clause-picked
returns-clause-picked g c =
    let indexes = c.in_ok-indexes.indexes in
    let read = c.in_ok-indexes.ensures.some in
    (some_releases indexes read, picked-some c.args.moment indexes read c.args.taken c.in_ok-pick_files.field-0 c.in_ok-pick_files.ensures)
