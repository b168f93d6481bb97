use Rattle.std.proofs.Common.{◌≡◌, ◌∙◌, ap, subst, List, map, IfOk}
use Rattle.serde_json.specs.View.{members_view}
use Rattle.rnv_release.specs.declared.release.Release.{Release}
use Rattle.rnv_release.specs.Npm.{names_of}
use Rattle.rnv_release.specs.Times.{release_told}
use Rattle.rnv_release.proofs.Walking.{releases-told}
use Rattle.rnv_release.proofs.npm.releases.Goals as goal

pub returns-clause-value : goal.returns-clause-value
returns-clause-value c =
    let names = names_of (members_view c.args.versions.entries) in
    let P : List Release → Type 0 = λ all. IfOk c.listed.result (λ releases. releases ≡ all) in
    subst P (ap (λ times. map (release_told times) names) c.new.ensures.all ∙ releases-told names (members_view c.args.times.entries)) c.listed.ensures.value
