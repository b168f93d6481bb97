use Rattle.std.proofs.Common.{◌≡◌, drop}
use Rattle.rnv_repo.specs.Live.{number_on}
use Rattle.rnv_repo.proofs.lookup.number_on.Given as goal

abbrev pub invariant-loop-request : goal.invariant-loop-request
invariant-loop-request l = number_on l.branch l.requests ≡ number_on l.branch (drop l.request-index l.requests)
