use Rattle.std.proofs.Common.{◌≡◌, ◌++◌, option_map}
use Rattle.serde_json.specs.View.{members_view}
use Rattle.rnv_hook.specs.Body.{changes_in}
use Rattle.rnv_hook.proofs.changes.changes_in.Given as goal

abbrev pub invariant-loop-path : goal.invariant-loop-path
invariant-loop-path l =
    changes_in (members_view l.members.entries) ≡ option_map (λ cs. l.changes ++ cs) (changes_in (members_view l.path-iterator))
