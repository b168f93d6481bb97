use Rattle.std.proofs.Common.{◌≤◌, ◌++◌, List, [], Err, ap, subst}
use Rattle.rnv_repo.specs.Store.{after}
use Rattle.rnv_repo.specs.declared.write.Write.{Write}
use Rattle.rnv_repo.specs.declared.write.Write.TheVariants.{SetBase}
use Rattle.rnv_forge.specs.Writes.{length_of}
use Rattle.rnv_forge.specs.Refused.{IsFirstRefused}
use Rattle.rnv_commands.proofs.Imports.{not_refused}
use Rattle.rnv_commands.proofs.Stops.{still}
use Rattle.rnv_forge.proofs.Uses.{same_past}
use Rattle.rnv_commands.proofs.import.prepare_base.Goals as goal

pub returns-in_err-list-clause-any_moment : goal.returns-in_err-list-clause-any_moment
returns-in_err-list-clause-any_moment g c =
    let forge = c.args.forge.now in
    still (g.F.Forge.limit forge) (g.F.Forge.past forge) (g.F.Forge.writes forge) (g.F.Forge.prepared forge) (g.met.F.Forge.well_formed forge c.requires.holds) (g.met.F.Forge.at_rest forge c.requires.holds c.requires.opened)

pub unreachable-requires-in-Err-Refused : goal.unreachable-requires-in-Err-Refused
unreachable-requires-in-Err-Refused g c =
    let store = after (g.F.Forge.writes c.args.forge.now) [] in
    let index = c.in-Err-Refused.field-0-0 in
    let cause = c.in-Err-Refused.field-0-1 in
    let first = c.in-Err-Refused.ensures.refused index cause (ap Err c.in-Err-Refused.field-0-is) in
    not_refused (SetBase c.args.name.now c.args.changes) store index cause c.requires.permitted (subst (λ (l : List Write). IsFirstRefused l store index cause) c.in_ok-list.ensures first)

pub returns-in-Ok-clause-within : goal.returns-in-Ok-clause-within
returns-in-Ok-clause-within g c =
    let forge = c.args.forge.now in
    subst (λ (l : List Write). length_of (g.F.Forge.writes forge ++ l) ≤ g.F.Forge.limit forge) c.in_ok-list.ensures c.in-Ok.ensures.within

pub returns-in_err-list-clause-past : goal.returns-in_err-list-clause-past
returns-in_err-list-clause-past g c = same_past (g.F.Forge.past c.args.forge.now)
