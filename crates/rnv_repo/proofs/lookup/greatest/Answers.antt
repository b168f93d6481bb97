use Rattle.std.proofs.Common.{sym}
use Rattle.rnv_repo.proofs.Numbers.{last_is_greatest, none_is_zero}
use Rattle.rnv_repo.proofs.lookup.greatest.Goals as goal

pub returns-in-Some : goal.returns-in-Some
returns-in-Some c = sym (last_is_greatest c.args.requests.now c.in-Some.request.now c.requires (sym c.in-Some.ensures.value))

pub returns-in-None : goal.returns-in-None
returns-in-None c = sym (none_is_zero c.args.requests.now (sym c.in-None.ensures.value))
