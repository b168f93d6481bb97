use Rattle.rnv_pick.proofs.Listings.{listed_step}
use Rattle.rnv_pick.proofs.live.live_releases.Goals as goal

pub loop-release-preserved : goal.loop-release-preserved
loop-release-preserved g c =
    let n = g.V.Versioning.numbering c.args.versioning.now in
    listed_step n c.loop-release.yielded c.in-Some.release _ _ _ c.loop-release.invariant c.in_ok-version.ensures c.in_ok-add.ensures
