use Rattle.std.proofs.Common.{◌≡◌, ◌∙◌, sym, ap, refl, None, Option, option_map, codes}
use Rattle.std.specs.Prelude.{option_and_then}
use Rattle.serde_json.specs.Data.{Members}
use Rattle.serde_json.specs.Find.{as_object, get_member}
use Rattle.serde_json.specs.View.{view, members_view}
use Rattle.serde_json.specs.declared.value.Value.{Value}
use Rattle.rnv_release.specs.Npm.{npm_releases}
use Rattle.rnv_release.proofs.Objects.{has-parts, no-times, no-versions, both-parts, taken, taken-later}
use Rattle.rnv_release.proofs.npm.parts_of.Goals as goal

abbrev object_in : Option Value → Option Members
object_in value = option_and_then as_object (option_map view value)

pub returns-in_err-times : goal.returns-in_err-times
returns-in_err-times c =
    let document = view c.args.document in
    let members = members_view c.in_ok-members.members.entries in
    let times = option_map view c.remove.result in
    let versions = get_member (codes "versions") members in
    let has = has-parts document members times versions c.in_ok-members.ensures (taken (codes "time") c.in_ok-members.members c.remove.result c.remove.ensures.value) refl in
    let none : npm_releases document ≡ None = no-times document times versions has c.in_err-times.ensures in
    cc

pub returns-in_err-remove : goal.returns-in_err-remove
returns-in_err-remove c =
    let document = view c.args.document in
    let times = option_map view c.remove.result in
    let versions = option_map view c.remove-2.result in
    let has = has-parts document (members_view c.in_ok-members.members.entries) times versions c.in_ok-members.ensures (taken (codes "time") c.in_ok-members.members c.remove.result c.remove.ensures.value) (taken-later c.in_ok-members.members c.remove.new.self c.remove-2.result c.remove.ensures.updates c.remove-2.ensures.value) in
    let none : npm_releases document ≡ None = no-versions document times versions has (ap object_in c.in_err-remove.was) in
    cc

pub returns-in_err-versions : goal.returns-in_err-versions
returns-in_err-versions c =
    let document = view c.args.document in
    let times = option_map view c.remove.result in
    let versions = option_map view c.remove-2.result in
    let has = has-parts document (members_view c.in_ok-members.members.entries) times versions c.in_ok-members.ensures (taken (codes "time") c.in_ok-members.members c.remove.result c.remove.ensures.value) (taken-later c.in_ok-members.members c.remove.new.self c.remove-2.result c.remove.ensures.updates c.remove-2.ensures.value) in
    let none : npm_releases document ≡ None = no-versions document times versions has (ap object_in c.in_ok-remove.was ∙ sym c.in_err-versions.ensures) in
    cc

pub returns : goal.returns
returns c =
    let document = view c.args.document in
    let times = option_map view c.remove.result in
    let versions = option_map view c.remove-2.result in
    let has = has-parts document (members_view c.in_ok-members.members.entries) times versions c.in_ok-members.ensures (taken (codes "time") c.in_ok-members.members c.remove.result c.remove.ensures.value) (taken-later c.in_ok-members.members c.remove.new.self c.remove-2.result c.remove.ensures.updates c.remove-2.ensures.value) in
    sym (both-parts document times versions (members_view c.in_ok-times.times.entries) (members_view c.in_ok-versions.versions.entries) has c.in_ok-times.ensures (ap object_in c.in_ok-remove.was ∙ sym c.in_ok-versions.ensures))
