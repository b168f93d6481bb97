use Rattle.std.proofs.Common.{◌∙◌, sym, ap}
use Rattle.serde_json.specs.View.{view}
use Rattle.rnv_hook.specs.Body.{change_in}
use Rattle.rnv_hook.proofs.Members.{step, done}
use Rattle.rnv_hook.proofs.changes.changes_in.Goals as goal

pub loop-path-preserved : goal.loop-path-preserved
loop-path-preserved c =
    c.loop-path.invariant
    ∙ step c.loop-path.changes c.push.new.self c.in-Some-2.change (c.in-Some.path.now, c.in-Some.value.now) c.next.new.self c.loop-path.path-iterator c.in-Some.ensures.steps
    (sym c.in-Some-2.is ∙ c.in_ok-change.ensures ∙ ap (λ path. change_in path (view c.in-Some.value.now)) c.as_str.ensures.value)
    c.in_ok-push.ensures.ok

pub returns-clause-order : goal.returns-clause-order
returns-clause-order c =
    done c.loop-path.changes c.args.members.now.entries c.loop-path.path-iterator c.loop-path.invariant c.in-None.ensures.steps.0 c.iter-path-items.ensures.ordered
