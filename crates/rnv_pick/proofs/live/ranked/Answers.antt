use Rattle.rnv_pick.proofs.Ranked.{ranking_of}
use Rattle.rnv_pick.proofs.live.ranked.Goals as goal

pub returns : goal.returns
returns g c =
    ranking_of (g.V.Versioning.numbering c.args.versioning.now) c.args.releases c.in_ok-found.found.items c.rank.new.found.items c.in_ok-found.ensures c.rank.ensures.same c.rank.ensures.falling
