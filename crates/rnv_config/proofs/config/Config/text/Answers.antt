use Rattle.std.proofs.Common.{◌≡◌, ◌∙◌, map, rules, string_bytes}
use Rattle.serde_json.specs.Data.{no_members}
use Rattle.serde_json.specs.View.{members_view}
use Rattle.rnv_config.specs.Settings.{told_setting}
use Rattle.rnv_config.specs.Texts.{with_settings}
use Rattle.rnv_config.proofs.Shown.{text_of}
use Rattle.rnv_config.proofs.config.Config.text.Goals as goal

pub returns : goal.returns
returns c =
    let settings = map told_setting c.args.self.now.settings in
    let all : members_view c.in_ok-members.field-0.entries ≡ with_settings no_members settings = search rules in
    c.new.ensures ∙ text_of c.in_ok-members.field-0 settings (string_bytes c.in_ok-to_string.field-0) all c.in_ok-to_string.ensures.text
