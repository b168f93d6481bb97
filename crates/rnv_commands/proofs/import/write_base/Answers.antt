use Rattle.std.proofs.Common.{◌≡◌, ◌∷◌, inl, []}
use Rattle.rnv_repo.specs.declared.write.Write.TheVariants.{SetBase}
use Rattle.rnv_forge.specs.Forge.{IsOldOrNext}
use Rattle.rnv_forge.proofs.Uses.{leaves_weaker, same_keeps}
use Rattle.rnv_commands.proofs.Stops.{write_leaves}
use Rattle.rnv_journal.proofs.Ones.{one_then}
use Rattle.rnv_commands.proofs.import.write_base.Goals as goal

pub returns-in-Ok-write_next-clause-any_moment : goal.returns-in-Ok-write_next-clause-any_moment
returns-in-Ok-write_next-clause-any_moment g c =
    write_leaves _ _ _ _ _ _ _ _ (SetBase c.args.name.now c.args.changes) c.in-Ok.ensures.limit c.in-Ok.ensures.writes c.in-Ok.ensures.ok c.in-Ok.ensures.any_moment
    (c.write_next.ensures.any_moment c.in-Ok.ensures.opened)

pub returns-in-Err-DiskFault-clause-any_moment : goal.returns-in-Err-DiskFault-clause-any_moment
returns-in-Err-DiskFault-clause-any_moment g c =
    write_leaves _ _ _ _ _ _ _ _ (SetBase c.args.name.now c.args.changes) c.in-Ok.ensures.limit c.in-Ok.ensures.writes c.in-Ok.ensures.ok c.in-Ok.ensures.any_moment
    (c.write_next.ensures.any_moment c.in-Ok.ensures.opened)

pub returns-in-Err-clause-any_moment : goal.returns-in-Err-clause-any_moment
returns-in-Err-clause-any_moment g c =
    let ws = g.F.Forge.writes c.args.forge.now in
    leaves_weaker _ _ _ (λ vs. vs ≡ ws) (IsOldOrNext ws (SetBase c.args.name.now c.args.changes ∷ [])) (λ vs is. inl is) c.in-Err.ensures.any_moment

pub returns-in-Ok-write_next-clause-other : goal.returns-in-Ok-write_next-clause-other
returns-in-Ok-write_next-clause-other g c = one_then _ _ _ (same_keeps _ _ c.in-Ok.ensures.past) c.write_next.ensures.other

pub returns-in-Err-DiskFault-clause-other : goal.returns-in-Err-DiskFault-clause-other
returns-in-Err-DiskFault-clause-other g c = one_then _ _ _ (same_keeps _ _ c.in-Ok.ensures.past) c.write_next.ensures.other

pub returns-in-Err-clause-other : goal.returns-in-Err-clause-other
returns-in-Err-clause-other g c = same_keeps _ _ c.in-Err.ensures.past
