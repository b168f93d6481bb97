use Rattle.std.proofs.Common.{◌≡◌, ℕ, List, ap, ◌∙◌, rules, string_bytes, string_cmp}
use Rattle.std.specs.BTreeMap.{insert_entry}
use Rattle.serde_json.specs.Data.{put}
use Rattle.serde_json.specs.View.{members_view, view}
use Rattle.serde_json.proofs.Views.{members_view-insert_entry}
use Rattle.rnv_config.proofs.text.put.Goals as goal

pub returns : goal.returns
returns c =
    let old = c.args.members.now.entries in
    let grown : c.insert.new.self.entries ≡ insert_entry string_cmp old c.in_ok-name.name c.args.value = search rules in
    let named : string_bytes c.in_ok-name.name ≡ c.args.name.now = search rules in
    ap members_view grown ∙ members_view-insert_entry old c.in_ok-name.name c.args.value ∙ ap (λ (n : List ℕ). put n (view c.args.value) (members_view old)) named
