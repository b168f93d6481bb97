use Rattle.rnv_repo.specs.Store.{name_of}
use Rattle.rnv_repo.proofs.Places.{found_at}
use Rattle.rnv_repo.proofs.lookup.has_branch.Goals as goal

pub returns : goal.returns
returns c =
    found_at name_of c.args.name.now c.args.branches.now c.place_of.result c.is_at.result c.requires c.place_of.ensures.count c.is_at.ensures.within c.is_at.ensures.same
