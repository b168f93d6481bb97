use Rattle.std.proofs.Common.{◌≡◌, ◌∙◌, ◌<◌, ap, length, map, Some, refl, rules, arith, btree_map_len}
use Rattle.serde_json.specs.Data.{object}
use Rattle.serde_json.specs.View.{members_view}
use Rattle.rnv_release.specs.Npm.{npm_reading, names_of, release_of}
use Rattle.rnv_release.specs.Reading.{listed}
use Rattle.rnv_release.proofs.Listing.{length-listed}
use Rattle.rnv_release.proofs.npm.NpmIndexDatasource.read.Goals as goal

pub returns-then-len-gt-MOST_RELEASES-clause-many : goal.returns-then-len-gt-MOST_RELEASES-clause-many
returns-then-len-gt-MOST_RELEASES-clause-many c =
    let release = release_of (Some (object (members_view c.in-Some.times.entries))) in
    let releases = map release (names_of (members_view c.in-Some.versions.entries)) in
    let is : npm_reading c.args.bytes.now ≡ listed releases = search rules in
    let count : length releases ≡ length c.in-Some.versions.entries = length-listed release c.in-Some.versions.entries in
    let same : c.len.result ≡ btree_map_len c.in-Some.versions = c.len.ensures.len ∙ ap (λ versions. btree_map_len versions) c.in-Some.versions-is in
    let more : 50000 < length releases = omega arith in
    (refl, rw is more)
