use Rattle.rnv_repo.proofs.Numbers.{live_at}
use Rattle.rnv_repo.proofs.lookup.is_live_number.Goals as goal

pub returns : goal.returns
returns c =
    live_at c.args.number c.args.requests.now c.place_of_number.result c.is_live_at.result c.requires c.place_of_number.ensures.count c.is_live_at.ensures.within c.is_live_at.ensures.same
