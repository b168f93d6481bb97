use Rattle.std.proofs.Common.{◌∙◌, ap, length}
use Rattle.rnv_release.specs.Times.{release_told, times_left}
use Rattle.rnv_release.proofs.Listing.{length-listed}
use Rattle.rnv_release.proofs.Walking.{listed-all}
use Rattle.rnv_release.proofs.npm.listed.Goals as goal

pub returns-clause-value : goal.returns-clause-value
returns-clause-value c =
    c.new-2.ensures ∙ listed-all c.loop-name.releases.items c.loop-name.name-iterator (times_left c.loop-name.times) (times_left c.args.times) c.args.versions.entries c.loop-name.invariant c.in-None.ensures.steps.0 c.into_keys-name-items.ensures.ordered c.requires

pub returns-clause-count : goal.returns-clause-count
returns-clause-count c =
    ap length (c.new-2.ensures ∙ listed-all c.loop-name.releases.items c.loop-name.name-iterator (times_left c.loop-name.times) (times_left c.args.times) c.args.versions.entries c.loop-name.invariant c.in-None.ensures.steps.0 c.into_keys-name-items.ensures.ordered c.requires)
    ∙ length-listed (release_told (times_left c.args.times)) c.args.versions.entries
