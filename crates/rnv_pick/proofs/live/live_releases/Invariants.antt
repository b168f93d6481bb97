use Rattle.std.proofs.Common.{◌≡◌, map}
use Rattle.rnv_pick.specs.Listing.{live_releases}
use Rattle.rnv_pick.specs.Seen.{seen}
use Rattle.rnv_pick.proofs.live.live_releases.Given as goal

abbrev pub invariant-loop-release : goal.invariant-loop-release
invariant-loop-release g l = map seen l.found.items ≡ live_releases (g.V.Versioning.numbering l.versioning) l.yielded
