use Rattle.std.proofs.Common.{◌≡◌, drop}
use Rattle.serde_json.specs.View.{items_view}
use Rattle.rnv_release.specs.Docker.{tag_releases}
use Rattle.rnv_release.proofs.Tags.{with_tags}
use Rattle.rnv_release.proofs.docker.tagged.Given as goal

abbrev pub invariant-loop-tag : goal.invariant-loop-tag
invariant-loop-tag l = tag_releases (items_view l.tags) ≡ with_tags l.releases (drop l.tag-index l.tags)
