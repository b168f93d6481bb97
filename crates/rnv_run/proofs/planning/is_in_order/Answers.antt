use Rattle.rnv_run.proofs.Wanted.{found_order}
use Rattle.rnv_run.proofs.planning.is_in_order.Goals as goal

pub returns : goal.returns
returns g c =
    let forge = c.args.forge.now in
    found_order c.args.repo.now (g.F.Forge.writes forge) (g.met.F.Forge.sound forge c.requires.holds) c.requires.there
